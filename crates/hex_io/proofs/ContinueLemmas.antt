-- What follows a text, where more bytes come.
use Rattle.std.proofs.Common.{◌≡◌, ◌∙◌, ap, sym, refl, arith, ℕ, suc, ◌+◌, ◌-◌, ◌*◌, ◌/◌, ◌%◌, ◌<◌, ◌≤◌, Bool, true, false}
use Rattle.std.proofs.Common.{List, [], ◌∷◌, ◌++◌, inl, inr, length, take, drop, append-nil, append_assoc, length-append, length-drop, take-append-drop}
use Rattle.std.proofs.Common.{Option, Some, None, Result, Ok, slice_set}
use Rattle.std.specs.Prelude.{◌==◌, if◌then◌else◌}
use Rattle.std.proofs.lemmas.Bool.{cases_lt}
use Rattle.std.proofs.lemmas.Bool.Decides.{nat_tests}
use Rattle.std.proofs.lemmas.List.{length-take-le, take-append-le}
use Rattle.std.proofs.lemmas.Nat.{div-add-mod', mod-mul-add, mod_below}
use Rattle.std.proofs.Math.Seq.{take-append-add}
use borrow.Rule.Slice.PartMut.{post_of, put_mid}
use mir.Val.{bool_byte}
use Rattle.hex_core.specs.Calls.{Fills}
use Rattle.hex_core.specs.Text.{text}
use Rattle.hex_core.proofs.TextLemmas.{text-append}
use Rattle.hex_codec.specs.declared.group.Group.{Group}
use Rattle.hex_codec.specs.GroupedWriting.{grouped, piece_len, separator}
use Rattle.hex_codec.proofs.GroupLemmas.{grouped-last, joined-pieces, no_pieces}
use Rattle.hex_io.specs.Frame.{digits_by}
use Rattle.hex_io.specs.inside.{FitsPiece}

-- what was written behind a byte, with a separator in the place of that byte
pub behind : (mark k end : ℕ) (old new shown : List ℕ) → 0 < length old → end ≤ length new → take end new ≡ shown
    → take (1 + end) (slice_set (put_mid 1 k old new) 0 mark) ≡ mark ∷ shown
behind mark k end [] new shown some fits is = absurd (omega arith)
behind mark k end (b ∷ old) new shown some fits is =
    let count : 1 + end ≡ suc end = omega arith in
    rw count (ap (λ l. mark ∷ l) (take-append-le end new (post_of 1 k (b ∷ old)) fits ∙ is))

-- what was written at the start
pub alone : (k end : ℕ) (old new shown : List ℕ) → end ≤ length new → take end new ≡ shown → take (0 + end) (put_mid 0 k old new) ≡ shown
alone k end old new shown fits is =
    let count : 0 + end ≡ end = omega arith in
    rw count (take-append-le end new (post_of 0 k old) fits ∙ is)

pub one-mark : (follows : Bool) → bool_byte follows ≤ 1
one-mark true = omega arith
one-mark false = omega arith

-- what was written is in the destination
pub inside : {E : Type 0} (refusal : Option E) (shown old new : List ℕ) (r : Result ℕ E) (n : ℕ) → r ≡ Ok n → Fills refusal (λ bytes. bytes ≡ shown) old new r → n ≤ length new
inside {E} refusal shown old new r n is h =
    let done : Fills refusal (λ bytes. bytes ≡ shown) old new (Ok n) = rw is at h in
    rw (done.1.3, done.1.2) (omega (arith, length-append done.1.0 (drop (length done.1.0) old)))

module _ (group : Group) (upper : Bool) where
  abbrev shown : List ℕ → List ℕ
  shown bytes = grouped group upper bytes

  -- in a piece
  within : (last chunk : List ℕ) → length last + length chunk ≤ piece_len group → shown last ++ shown chunk ≡ shown (last ++ chunk)
  within last chunk fits =
      rw (
        grouped-last group upper last (omega (arith, fits)),
        grouped-last group upper chunk (omega (arith, fits)),
        grouped-last group upper (last ++ chunk) (omega (arith, fits, length-append last chunk)),
        text-append upper last chunk,
      ) refl

  -- in a piece behind whole ones
  behind-whole : (front last chunk : List ℕ) → length front % piece_len group ≡ 0 → 0 < length last → length last + length chunk ≤ piece_len group
      → shown (front ++ last) ++ shown chunk ≡ shown ((front ++ last) ++ chunk)
  behind-whole [] last chunk whole some fits = within last chunk fits
  behind-whole (b ∷ front) last chunk whole some fits =
      let all = b ∷ front in
      ap (λ l. l ++ shown chunk) (joined-pieces group upper all last whole (omega arith) some)
      ∙ append_assoc (shown all) (separator group ∷ shown last) (shown chunk)
      ∙ ap (λ l. shown all ++ (separator group ∷ l)) (within last chunk fits)
      ∙ sym (joined-pieces group upper all (last ++ chunk) whole (omega arith) (omega (arith, some, length-append last chunk)))
      ∙ ap shown (sym (append_assoc all last chunk))

  -- in a piece that was begun
  in-piece : (done chunk : List ℕ) → 0 < length done % piece_len group → length done % piece_len group + length chunk ≤ piece_len group
      → shown done ++ shown chunk ≡ shown (done ++ chunk)
  in-piece done chunk some fits =
      let every = piece_len group in let pos = group.is_group.0 in
      let count = length done / every in
      let at = count * every in
      let sum = div-add-mod' (length done) every in
      let last = length-drop at done in
      let front = length-take-le at done (omega (arith, sum)) in
      let whole : length (take at done) % every ≡ 0 = rw front (let all : count * every + 0 ≡ at = omega arith in rw all at (mod-mul-add count every 0 pos)) in
      let left : length (drop at done) ≡ length done % every = omega (arith, sum, last) in
      rw (take-append-drop at done) at (behind-whole (take at done) (drop at done) chunk whole (omega (arith, left, some)) (omega (arith, left, fits)))

  -- the first bytes, or those behind some
  pub next-first : (done chunk : List ℕ) → length done ≡ 0 → shown done ++ shown chunk ≡ shown (done ++ chunk)
  next-first [] chunk none = rw (no_pieces (piece_len group)) refl
  next-first (b ∷ done) chunk none = absurd (omega arith)

  pub next-more : (total : ℕ) (done chunk : List ℕ) → length done ≡ total → 0 < total → 0 < length chunk → FitsPiece (Some group) total (length chunk)
      → shown done ++ ((if total % piece_len group == 0 then separator group ∷ [] else []) ++ shown chunk) ≡ shown (done ++ chunk)
  next-more total done chunk is some more fits = rw (← is) (by_end (length done % piece_len group == 0) refl)
    where
      by_end : (t : Bool) → (length done % piece_len group == 0) ≡ t → shown done ++ ((if t then separator group ∷ [] else []) ++ shown chunk) ≡ shown (done ++ chunk)
      by_end true whole = sym (joined-pieces group upper done chunk (grind (arith, nat_tests, whole)) (omega (arith, is, some)) more)
      by_end false begun =
          let inside : 0 < length done % piece_len group = grind (arith, nat_tests, begun) in
          in-piece done chunk inside (rw (← is) at fits inside)

  -- the text of some bytes begins that of more
  pub starts : (xs ys : List ℕ) → (more : List ℕ) × (shown xs ++ more ≡ shown (xs ++ ys))
  starts [] ys = (shown ys, rw (no_pieces (piece_len group)) refl)
  starts (x ∷ xs) [] = ([], append-nil (shown (x ∷ xs)) ∙ ap shown (sym (append-nil (x ∷ xs))))
  starts (x ∷ xs) (y ∷ ys) = by_end (length (x ∷ xs) % every == 0) refl
    where
      every : ℕ
      every = piece_len group

      all : List ℕ
      all = x ∷ xs

      rest : List ℕ
      rest = y ∷ ys

      left : ℕ
      left = every - length all % every

      full : 0 < length all % every → (length all + left) % every ≡ 0
      full begun =
          let pos = group.is_group.0 in
          let below = mod_below (length all) every pos in
          let whole : (length all / every + 1) * every + 0 ≡ length all + left = grind (arith, div-add-mod' (length all) every, below) in
          rw whole at (mod-mul-add (length all / every + 1) every 0 pos)

      by_end : (t : Bool) → (length all % every == 0) ≡ t → (more : List ℕ) × (shown all ++ more ≡ shown (all ++ rest))
      by_end true whole = (separator group ∷ shown rest, sym (joined-pieces group upper all rest (grind (arith, nat_tests, whole)) (omega arith) (omega arith)))
      by_end false begun =
          let some : 0 < length all % every = grind (arith, nat_tests, begun) in
          elim (cases_lt left (length rest)) [
            | inl more ↦
                let size = length-take-le left rest (omega (arith, more)) in
                let front = in-piece all (take left rest) some (omega (arith, size, mod_below (length all) every group.is_group.0)) in
                let ends : length (all ++ take left rest) % every ≡ 0 = rw (length-append all (take left rest), size) (full some) in
                let behind = joined-pieces group upper (all ++ take left rest) (drop left rest) ends (omega (arith, length-append all (take left rest))) (omega (arith, length-drop left rest, more)) in (
                  shown (take left rest) ++ (separator group ∷ shown (drop left rest)),
                  rw (← append_assoc (shown all) (shown (take left rest)) (separator group ∷ shown (drop left rest)), front)
                      (sym behind ∙ ap shown (append_assoc all (take left rest) (drop left rest) ∙ ap (λ l. all ++ l) (take-append-drop left rest))),
                )
            | inr fits ↦ (shown rest, in-piece all rest some (omega (arith, fits, mod_below (length all) every group.is_group.0)))
          ]

-- the digits of some bytes begin those of more
pub digits-start : (group : Option Group) (upper : Bool) (xs ys : List ℕ) → (more : List ℕ) × (digits_by group upper xs ++ more ≡ digits_by group upper (xs ++ ys))
digits-start None upper xs ys = (text upper ys, sym (text-append upper xs ys))
digits-start (Some group) upper xs ys = starts group upper xs ys

-- the first bytes of a list, and the next ones
pub take-more : (at k : ℕ) (bytes : List ℕ) → at ≤ length bytes → take (at + k) bytes ≡ take at bytes ++ take k (drop at bytes)
take-more at k bytes fits = rw (length-take-le at bytes fits, take-append-drop at bytes) at (take-append-add (take at bytes) (drop at bytes) k)

-- nothing has no text
pub no-digits : (group : Option Group) (upper : Bool) → digits_by group upper [] ≡ []
no-digits None upper = refl
no-digits (Some group) upper = rw (no_pieces (piece_len group)) refl
