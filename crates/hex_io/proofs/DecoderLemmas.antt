-- Sources that come in chunks.
use Rattle.std.proofs.Common.{◌≡◌, ◌⊎◌, inl, inr, ℕ, ◌+◌, ◌*◌, ◌/◌, ◌^◌, ◌<◌, ◌≤◌, Bool, true, false, List, [], ◌∷◌, ◌++◌, length, length-append}
use Rattle.std.proofs.Common.{take, drop, length-drop, ◌-◌, slice_index, Option, Some, None, Result, Ok, Err, MatchResult}
use Rattle.std.proofs.Common.{refl, sym, ◌∙◌, ap, append_assoc, arith}
use Rattle.std.specs.Prelude.{◌↔◌, option_map, IsSome}
use Rattle.std.specs.Option.{ForSome, option_to_list}
use Rattle.std.specs.Result.{IsOk}
use Rattle.std.proofs.Math.Seq.{drop-append_seam, take-append_seam}
use Rattle.std.proofs.lemmas.Bool.Decides.{nat_tests}
use Rattle.std.proofs.lemmas.Grind.{common_steps}
use Rattle.std.proofs.lemmas.List.{drop-drop, take_rest}
use Rattle.std.proofs.lemmas.List.Elements.{filter-append}
use borrow.Rule.Slice.PartMut.{put_mid}
use Rattle.hex_core.specs.declared.digit.CheckCase.{CheckCase}
use Rattle.hex_core.specs.declared.error.Error.{Error}
use Rattle.hex_core.specs.declared.error.Error.TheVariants.{InvalidChar}
use Rattle.hex_core.specs.Digit.{value}
use Rattle.hex_core.specs.Search.{first_invalid}
use Rattle.hex_core.specs.Text.{Spells, with_front}
use Rattle.hex_core.proofs.JoinLemmas.{back_at, spells-joined, valid-both, valid-parts}
use Rattle.hex_core.proofs.LawProofs.{valid-spelled}
use Rattle.hex_core.proofs.PositionLemmas.{none_joined, position-joined}
use Rattle.hex_core.proofs.SearchLemmas.{none_valid}
use Rattle.hex_codec.proofs.ListLemmas.{put-behind}
use Rattle.hex_codec.proofs.SpacedLemmas.{digits-solid, none-invalid-spaced, unspaced-le}
use Rattle.hex_io.specs.Decoder.{feed_refusal, pairs_more}
use Rattle.hex_io.specs.Reading.{SpellsBut, digits_in, first_invalid_read, is_invalid_read}
use Rattle.hex_codec.specs.Spaced.{is_solid}
use Rattle.hex_io.specs.Reading.{invalid_read_of}
use Rattle.hex_io.specs.declared.stream.decoder.Reading.{Reading}
use Rattle.hex_io.specs.inside.{invalid_read_behind}

-- ---- what has to be digits

-- those of sources in a row are joined, and no more than the bytes
pub digits-joined : (c : CheckCase) (skips : Bool) (a b : List ℕ) → let r : Reading = record { case = c; skips = skips } in
    digits_in r (a ++ b) ≡ digits_in r a ++ digits_in r b
digits-joined c true a b = filter-append is_solid a b
digits-joined c false a b = refl

pub digits-le : (c : CheckCase) (skips : Bool) (s : List ℕ) → length (digits_in (record { case = c; skips = skips }) s) ≤ length s
digits-le c true s = unspaced-le s
digits-le c false s = omega arith

-- no byte is invalid exactly where all digits are valid
pub digits-valid : (c : CheckCase) (skips : Bool) (s : List ℕ) → let r : Reading = record { case = c; skips = skips } in
    (first_invalid_read r s ≡ None) ↔ (first_invalid c (digits_in r s) ≡ None)
digits-valid c true s = none-invalid-spaced c s
digits-valid c false s = (λ none. none, λ none. none)

pub none-invalid : (c : CheckCase) (skips : Bool) (s : List ℕ) → let r : Reading = record { case = c; skips = skips } in
    first_invalid c (digits_in r s) ≡ None → first_invalid_read r s ≡ None
none-invalid c skips s valid = (digits-valid c skips s).1 valid

-- a valid chunk has no white space, so it is its own digits
pub digits-own : (c : CheckCase) (skips : Bool) (digits s : List ℕ) → let r : Reading = record { case = c; skips = skips } in
    (digits ≡ s) ⊎ (digits ≡ digits_in r s) → first_invalid c digits ≡ None → digits ≡ digits_in r s
digits-own c true digits s (inl whole) valid = whole ∙ sym (digits-solid c s (rw whole at valid))
digits-own c false digits s (inl whole) valid = whole
digits-own c skips digits s (inr own) valid = own

-- ---- single digits

-- a digit that waits has a value where it is valid, and the other way round
waiting-valid : (c : CheckCase) (o : Option ℕ) → ForSome o (λ d. IsSome (value c d)) → first_invalid c (option_to_list o) ≡ None
waiting-valid c None read = refl
waiting-valid c (Some d) read = let is = read d refl in grind (arith, nat_tests, is)

pub read-valid : (c : CheckCase) (o : Option ℕ) → first_invalid c (option_to_list o) ≡ None → ForSome o (λ d. IsSome (value c d))
read-valid c o none = λ d is. none_valid c (d ∷ []) (rw is at none) 0 (omega arith) (omega arith)

-- ---- what digits spell, but for the one that waits

pub spells-but : (c : CheckCase) (digits part bytes : List ℕ) (o : Option ℕ) → digits ≡ part ++ option_to_list o → Spells c part bytes → ForSome o (λ d. IsSome (value c d)) → SpellsBut c digits bytes (option_to_list o)
spells-but c digits part bytes o parts spelled read = record {
  valid = rw parts (valid-both c part (option_to_list o) (valid-spelled c part bytes spelled) (waiting-valid c o read));
  pairs = part;
  parts = parts;
  spelled = spelled;
}

-- a digit alone that waits, or none, spells nothing
pub spells-none : (c : CheckCase) (o : Option ℕ) → ForSome o (λ d. IsSome (value c d)) → SpellsBut c (option_to_list o) [] (option_to_list o)
spells-none c o read = spells-but c (option_to_list o) [] [] o refl (record { twice = refl; each = λ i lt. absurd (omega arith) }) read

-- how many digits they are
pub count-but : (c : CheckCase) (digits bytes : List ℕ) (o : Option ℕ) → SpellsBut c digits bytes (option_to_list o) → (length digits ≡ 2 * length bytes + length (option_to_list o)) × (length (option_to_list o) ≤ 1)
count-but c digits bytes o but = (omega (arith, ap length but.parts, length-append but.pairs (option_to_list o), but.spelled.twice), grind (arith, common_steps))

-- more digits behind the one that waits
pub but-joined : (c : CheckCase) (a b x y w v : List ℕ) → SpellsBut c a x w → SpellsBut c (w ++ b) y v → SpellsBut c (a ++ b) (x ++ y) v
but-joined c a b x y w v first second = record {
  valid = valid-both c a b first.valid (valid-parts c w b second.valid).1;
  pairs = first.pairs ++ second.pairs;
  parts = rw (first.parts, append_assoc first.pairs w b, second.parts) (sym (append_assoc first.pairs second.pairs v));
  spelled = spells-joined c first.pairs second.pairs x y first.spelled second.spelled;
}

-- a pair of which one digit waited, and the pairs behind it
pub pair-first : (c : CheckCase) (high byte : ℕ) (src bytes v : List ℕ) → 0 < length src → Spells c (high ∷ slice_index src 0 ∷ []) (byte ∷ []) → SpellsBut c (drop 1 src) bytes v → SpellsBut c (high ∷ src) (byte ∷ bytes) v
pair-first c high byte [] bytes v some spelled rest = absurd (omega (arith, some))
pair-first c high byte (low ∷ tail) bytes v some spelled rest =
    but-joined c (high ∷ low ∷ []) tail (byte ∷ []) bytes [] v (record { valid = valid-spelled c _ _ spelled; pairs = _; parts = refl; spelled = spelled }) rest

-- bytes that are written behind others
pub put-more : (old dst part xs ys : List ℕ) (n : ℕ) → dst ≡ with_front old xs → n ≡ length xs → part ≡ with_front (take (length dst - n) (drop n dst)) ys
    → length xs + length ys ≤ length old → put_mid n (length dst - n) dst part ≡ with_front old (xs ++ ys)
put-more old dst part xs ys n all is new fits =
    let behind = drop (length xs) old in let rest = drop n dst in
    let put : part ≡ with_front rest ys = new ∙ ap (λ to. with_front to ys) (take_rest dst n) in
    let long : length dst ≡ length xs + length behind = ap length all ∙ length-append xs behind in
    let parts = length-append ys (drop (length ys) rest) in let left = length-drop (length ys) rest in
    let gone = length-drop n dst in let kept = length-drop (length xs) old in
    put-behind n dst part (omega (arith, is, long)) (omega (arith, is, long, fits, ap length put, parts, left, gone, kept))
    ∙ rw (put, is, all, take-append_seam xs behind, drop-append_seam xs behind, drop-drop (length ys) (length xs) old, length-append xs ys)
    (sym (append_assoc xs ys (drop (length xs + length ys) old)))

-- ---- what a feed refuses

-- the first invalid byte behind a source that has none is that of both
pub invalid-behind-all : (r : Reading) (fed src : List ℕ) (had : ℕ) → first_invalid_read r fed ≡ None → had ≡ length fed
    → invalid_read_behind r had src ≡ invalid_read_of r (fed ++ src)
invalid-behind-all r fed src had none is = rw (is, position-joined (is_invalid_read r) fed src, none) (by_first (first_invalid_read r src))
  where
    by_first : (o : Option ℕ) → option_map (λ i. InvalidChar (length fed + i) (slice_index src i)) o
        ≡ option_map (λ i. InvalidChar i (slice_index (fed ++ src) i)) (option_map (λ i. length fed + i) o)
    by_first (Some i) = rw (back_at fed src i (length fed + i) refl) refl
    by_first None = refl

pub refused-byte : (r : Reading) (fed src : List ℕ) (room : ℕ) → length fed + length src < 2 ^ 64
    → pairs_more (length (digits_in r fed)) (length (digits_in r src)) ≤ room → feed_refusal r fed src room ≡ invalid_read_of r (fed ++ src)
refused-byte r fed src room few fits = grind (arith, nat_tests, few, fits)

-- valid digits have no invalid byte among them
pub none-refused : (r : Reading) (s : List ℕ) → first_invalid r.case (digits_in r s) ≡ None → invalid_read_of r s ≡ None
none-refused r s valid = rw (none-invalid r.case r.skips s valid) refl

-- ---- a chunk in blocks

-- a feed that nothing refuses is accepted
pub unrefused : (A : ℕ → Type 0) (refusal : Option Error) (result : Result ℕ Error) → MatchResult result A (λ e. refusal ≡ Some e) → refusal ≡ None → IsOk result
unrefused A refusal (Ok n) fed none = refl
unrefused A refusal (Err e) fed none = absurd (cc (fed, none))

-- a chunk of valid digits that fit is not refused
pub feed-unrefused : (c : CheckCase) (skips : Bool) (fed src written : List ℕ) (w : Option ℕ) (room : ℕ) → let r : Reading = record { case = c; skips = skips } in
    SpellsBut c (digits_in r fed) written (option_to_list w) → length fed + length src < 2 ^ 64 → (length (option_to_list w) + length (digits_in r src)) / 2 ≤ room
    → first_invalid_read r src ≡ None → feed_refusal r fed src room ≡ None
feed-unrefused c skips fed src written w room but few fits none =
    let r : Reading = record { case = c; skips = skips } in
    let all : first_invalid_read r (fed ++ src) ≡ None = (none_joined (is_invalid_read r) fed src).1 (none-invalid c skips fed but.valid, none) in
    refused-byte r fed src room few (omega (arith, count-but c (digits_in r fed) written w but, fits)) ∙ rw all refl

-- nor is a block of it, behind the blocks before
pub block-unrefused : (c : CheckCase) (skips : Bool) (fed gone block rest src written bytes : List ℕ) (w v : Option ℕ) (room : ℕ) → let r : Reading = record { case = c; skips = skips } in
    gone ++ (block ++ rest) ≡ src → SpellsBut c (digits_in r fed) written (option_to_list w) → SpellsBut c (digits_in r (fed ++ gone)) (written ++ bytes) (option_to_list v)
    → length fed + length src < 2 ^ 64 → (length (option_to_list w) + length (digits_in r src)) / 2 ≤ room → first_invalid_read r src ≡ None
    → feed_refusal r (fed ++ gone) block (room - length bytes) ≡ None
block-unrefused c skips fed gone block rest src written bytes w v room parts first so_far few fits none =
    let r : Reading = record { case = c; skips = skips } in
    let long = ap length parts in let outer = length-append gone (block ++ rest) in let inner = length-append block rest in
    let joined : digits_in r gone ++ (digits_in r block ++ digits_in r rest) ≡ digits_in r src =
    rw (← digits-joined c skips block rest, ← digits-joined c skips gone (block ++ rest), parts) refl in
    let all = ap length joined in let front = length-append (digits_in r gone) (digits_in r block ++ digits_in r rest) in let back = length-append (digits_in r block) (digits_in r rest) in
    let both = ap length (digits-joined c skips fed gone) ∙ length-append (digits_in r fed) (digits_in r gone) in
    let before = count-but c (digits_in r fed) written w first in
    let after = count-but c (digits_in r (fed ++ gone)) (written ++ bytes) v so_far in
    let behind = ((none_joined (is_invalid_read r) gone (block ++ rest)).0 (rw (sym parts) at none)).1 in
    feed-unrefused c skips (fed ++ gone) block (written ++ bytes) v (room - length bytes) so_far (omega (arith, few, long, outer, inner, length-append fed gone))
    (omega (arith, all, front, back, both, before, after, length-append written bytes, fits)) ((none_joined (is_invalid_read r) block rest).0 behind).0
