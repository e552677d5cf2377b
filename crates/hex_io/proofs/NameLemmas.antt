-- Names: which are bad, and that none is that was read.
use Rattle.std.proofs.Common.{◌≡◌, ℕ, zero, suc, ◌+◌, ◌*◌, ◌<◌, ◌≤◌, Bool, false, refl, arith, List}
use Rattle.std.proofs.Common.{[], ◌∷◌, length, take, drop, length-drop, length-take, None}
use Rattle.std.specs.List.{All, AllByRecursion, AllZip, position_or_len}
use Rattle.std.proofs.lemmas.Bool.Decides.{nat_tests}
use Rattle.std.proofs.lemmas.Grind.{common_steps}
use Rattle.std.proofs.lemmas.List.{get_or-take}
use Rattle.std.proofs.lemmas.List.Elements.{All-cons, All-drop, All-nil}
use Rattle.std.proofs.lemmas.List.Folds.{list_any_at, list_any_none}
use Rattle.std.proofs.lemmas.List.Sums.{fails_before_first, position_or_len_is}
use Rattle.hex_core.specs.declared.digit.CheckCase.{CheckCase}
use Rattle.hex_io.specs.declared.digests.Entry.{Entry}
use Rattle.hex_io.specs.Lists.{LineIs, first_bad_name, is_bad_name, lines_of, mark}
use Rattle.hex_io.proofs.LineLemmas.{NoNewline, OneLine, newline, next-line}

-- whether an entry's name is bad, and that no entry's is
abbrev pub bad : {N : ℕ} → Entry N → Bool
bad e = is_bad_name e.name.now

abbrev pub AllGood : {N : ℕ} → List (Entry N) → Type 0
AllGood es = All (λ e. bad e ≡ false) es

pub all-good : {N : ℕ} (es : List (Entry N)) → first_bad_name es ≡ None → AllGood es
all-good es none = λ k d lt. fails_before_first bad es k d (grind (arith, nat_tests, none))

pub none-bad : {N : ℕ} (es : List (Entry N)) → AllGood es → first_bad_name es ≡ None
none-bad [] good = refl
none-bad (e ∷ es) good =
    let at = position_or_len_is bad (e ∷ es) (length (e ∷ es)) e (omega arith) (λ k lt. good k e lt) (λ h. absurd (omega arith)) in
    grind (arith, common_steps, at)

-- a name that is not bad has some bytes, and no newline
pub named : (name : List ℕ) → is_bad_name name ≡ false → (0 < length name) × OneLine name
named name good = (grind (arith, nat_tests, good), λ k d lt. grind (arith, list_any_at newline name k d lt, good))

good-name : {N : ℕ} (c : CheckCase) (line : List ℕ) (e : Entry N) → OneLine line → LineIs c line e → bad e ≡ false
good-name {N} c line e one is =
    let behind : OneLine (32 ∷ mark e.binary ∷ e.name.now) = rw is.behind at (All-drop NoNewline (2 * N) line one) in
    let none = list_any_none newline e.name.now (All-drop NoNewline 2 (32 ∷ mark e.binary ∷ e.name.now) behind) in
    grind (arith, nat_tests, is.named, none)

good-names : {N : ℕ} (c : CheckCase) (lines : List (List ℕ)) (entries : List (Entry N)) → AllByRecursion OneLine lines → AllZip (LineIs c) lines entries → AllGood entries
good-names c [] [] one all = All-nil (λ e. bad e ≡ false)
good-names c [] (e ∷ entries) one all = absurd all
good-names c (line ∷ lines) [] one all = absurd all
good-names c (line ∷ lines) (e ∷ entries) one all =
    All-cons (λ e. bad e ≡ false) e entries (good-name c line e one.0 all.0) (good-names c lines entries one.1 all.1)

-- the lines of a source hold no newline
each-line : (n : ℕ) (s : List ℕ) → length s ≤ n → AllByRecursion OneLine (lines_of s)
each-line n [] short = tt
each-line zero (b ∷ s) short = absurd (omega arith)
each-line (suc n) (b ∷ s) short =
    let end = position_or_len newline (b ∷ s) in
    let first : OneLine (take end (b ∷ s)) = λ k d lt. (let inside : k < end = omega (arith, lt, length-take end (b ∷ s)) in rw get_or-take (fails_before_first newline (b ∷ s) k d inside)) in
    rw (next-line (b ∷ s) (omega arith)) (first, each-line n (drop (end + 1) (b ∷ s)) (omega (arith, length-drop (end + 1) (b ∷ s))))

pub read-names : {N : ℕ} (c : CheckCase) (s : List ℕ) (entries : List (Entry N)) → AllZip (LineIs c) (lines_of s) entries → first_bad_name entries ≡ None
read-names c s entries all = none-bad entries (good-names c (lines_of s) entries (each-line (length s) s (omega arith)) all)
