-- The entries of a source, and the source of some entries.
use Rattle.std.proofs.Common.{◌≡◌, inl, inr, ℕ, zero, suc, ◌+◌, ◌-◌, ◌*◌, ◌<◌, ◌≤◌, Bool, not, refl, sym, ap, ◌∙◌, arith}
use Rattle.std.proofs.Common.{List, [], ◌∷◌, ◌++◌, length, map, take, drop, get_or, length-drop, append_assoc}
use Rattle.std.specs.List.{AllZip, flat_map, position_or_len}
use Rattle.std.proofs.lemmas.Bool.{cases_lt}
use Rattle.std.proofs.lemmas.Bool.Decides.{nat_tests}
use Rattle.std.proofs.lemmas.Grind.{common_steps}
use Rattle.std.proofs.lemmas.List.{append-nil, drop_all, take-append-drop, take_all}
use Rattle.std.proofs.lemmas.List.Folds.{flat_map-map}
use Rattle.std.proofs.lemmas.List.Sums.{fails_before_first, passes_at_first, prefix_len-le-length, split_at_first}
use Rattle.hex_core.specs.declared.digit.CheckCase.{CheckCase}
use Rattle.hex_core.specs.Digit.{strict}
use Rattle.hex_core.specs.Laws.{EncodingInvertsStrictDecoding, SpellsOneList}
use Rattle.hex_io.specs.declared.digests.Entry.{Entry}
use Rattle.hex_io.specs.ListLaws.{SameEntry, entry_parts}
use Rattle.hex_io.specs.Lists.{LineIs, line_of, lines_of, list_of, mark, with_last_newline}
use Rattle.hex_io.proofs.LineLemmas.{newline, next-line}

-- ---- one list

mark-one : (a b : Bool) → mark a ≡ mark b → a ≡ b
mark-one a b e = grind (arith, e)

same-entry : {N : ℕ} (c : CheckCase) (line : List ℕ) (e other : Entry N) → SpellsOneList → LineIs c line e → LineIs c line other → SameEntry e other
same-entry {N} c line e other one a b =
    let tail = sym a.behind ∙ b.behind in
    record {
      digest = one c (take (2 * N) line) e.digest other.digest a.spelled b.spelled;
      binary = mark-one e.binary other.binary (ap (λ l. get_or l 1 0) tail);
      name = ap (λ l. drop 2 l) tail;
    }

pub same-entries : {N : ℕ} (c : CheckCase) (lines : List (List ℕ)) (entries others : List (Entry N)) → SpellsOneList → AllZip (LineIs c) lines entries → AllZip (LineIs c) lines others → AllZip SameEntry entries others
same-entries c [] [] [] one a b = tt
same-entries c [] [] (f ∷ others) one a b = absurd b
same-entries c [] (e ∷ entries) others one a b = absurd a
same-entries c (line ∷ lines) [] others one a b = absurd a
same-entries c (line ∷ lines) (e ∷ entries) [] one a b = absurd b
same-entries c (line ∷ lines) (e ∷ entries) (f ∷ others) one a b = (same-entry c line e f one a.0 b.0, same-entries c lines entries others one a.1 b.1)

pub same-parts : {N : ℕ} (entries others : List (Entry N)) → AllZip SameEntry entries others → map entry_parts entries ≡ map entry_parts others
same-parts [] [] same = refl
same-parts [] (f ∷ others) same = absurd same
same-parts (e ∷ entries) [] same = absurd same
same-parts (e ∷ entries) (f ∷ others) same = rw (same.0.digest, same.0.binary, same.0.name, same-parts entries others same.1) refl

-- ---- one source

-- lines, each with a newline
abbrev joined : List (List ℕ) → List ℕ
joined lines = flat_map (λ line. line ++ (10 ∷ [])) lines

line-back : {N : ℕ} (upper : Bool) (line : List ℕ) (e : Entry N) → EncodingInvertsStrictDecoding → LineIs (strict upper) line e → line_of upper e ≡ line
line-back {N} upper line e back is = rw (back upper (take (2 * N) line) e.digest is.spelled, ← is.behind) (take-append-drop (2 * N) line)

pub written-lines : {N : ℕ} (upper : Bool) (lines : List (List ℕ)) (entries : List (Entry N)) → EncodingInvertsStrictDecoding → AllZip (LineIs (strict upper)) lines entries → map (line_of upper) entries ≡ lines
written-lines upper [] [] back all = refl
written-lines upper [] (e ∷ entries) back all = absurd all
written-lines upper (line ∷ lines) [] back all = absurd all
written-lines upper (line ∷ lines) (e ∷ entries) back all = rw (line-back upper line e back all.0, written-lines upper lines entries back all.1) refl

-- a newline behind the last line stands behind the lines after the first
over : (line rest : List ℕ) → with_last_newline (line ++ (10 ∷ rest)) ≡ line ++ (10 ∷ with_last_newline rest)
over line rest = grind (arith, common_steps, nat_tests)

first-back : (s : List ℕ) → 0 < length s → (take (position_or_len newline s) s ++ (10 ∷ [])) ++ with_last_newline (drop (position_or_len newline s + 1) s) ≡ with_last_newline s
first-back s some =
    let end = position_or_len newline s in
    elim (cases_lt end (length s)) [
      | inl inside ↦
          let here : get_or s end 0 ≡ 10 = grind (arith, nat_tests, passes_at_first newline s 0 inside) in
          let parts : s ≡ take end s ++ (10 ∷ drop (end + 1) s) = rw here at (split_at_first newline s 0 inside) in
          rw append_assoc (sym (ap with_last_newline parts ∙ over (take end s) (drop (end + 1) s)))
      | inr past ↦
          let at : end ≡ length s = omega (arith, prefix_len-le-length (λ b. not (newline b)) s, past) in
          let last = fails_before_first newline s (length s - 1) 0 (omega (arith, at, some)) in
          let ended : with_last_newline s ≡ s ++ (10 ∷ []) = grind (arith, nat_tests, last, some) in
          rw (at, drop_all (length s + 1) s (omega arith), take_all (length s) s (omega arith), ended) (append-nil (s ++ (10 ∷ [])))
    ]

joined-lines : (n : ℕ) (s : List ℕ) → length s ≤ n → joined (lines_of s) ≡ with_last_newline s
joined-lines n [] short = refl
joined-lines zero (b ∷ s) short = absurd (omega arith)
joined-lines (suc n) (b ∷ s) short =
    let rest = drop (position_or_len newline (b ∷ s) + 1) (b ∷ s) in
    let fewer : length rest ≤ n = omega (arith, length-drop (position_or_len newline (b ∷ s) + 1) (b ∷ s)) in
    rw (next-line (b ∷ s) (omega arith), joined-lines n rest fewer) (first-back (b ∷ s) (omega arith))

pub source-back : {N : ℕ} (upper : Bool) (s : List ℕ) (entries : List (Entry N)) → EncodingInvertsStrictDecoding → AllZip (LineIs (strict upper)) (lines_of s) entries → list_of upper entries ≡ with_last_newline s
source-back upper s entries back all =
    sym (flat_map-map (λ line. line ++ (10 ∷ [])) (line_of upper) entries)
    ∙ ap joined (written-lines upper (lines_of s) entries back all) ∙ joined-lines (length s) s (omega arith)
