-- The lines of a source, and how far it was read.
use Rattle.std.proofs.Common.{◌≡◌, inl, inr, ℕ, ◌+◌, ◌-◌, ◌<◌, Bool, false, not, refl, ap, ◌∙◌, arith, List}
use Rattle.std.proofs.Common.{[], ◌∷◌, ◌++◌, length, take, drop, append_assoc, length-drop, None}
use Rattle.std.specs.Prelude.{◌==◌}
use Rattle.std.specs.List.{All, AllByRecursion, AllZip, after_first, before_first, position_or_len, slice_split}
use Rattle.std.proofs.lemmas.List.{drop-drop, drop_all, length_push, take_all, take_rest}
use Rattle.std.proofs.lemmas.Bool.{cases_lt}
use Rattle.std.proofs.lemmas.List.Splits.{length-slice_split, slice_split_first, slice_split_none}
use Rattle.std.proofs.lemmas.List.Sums.{fails_before_first, prefix_len-le-length}
use Rattle.hex_core.specs.declared.digit.CheckCase.{CheckCase}
use Rattle.hex_io.specs.declared.digests.Entry.{Entry}
use Rattle.hex_io.specs.declared.digests.ListFault.TheVariants.{OutOfMemory}
use Rattle.hex_io.specs.Lists.{LineIs, ReadFailure, line_fault, lines_of, without_empty_end}

-- the test of a newline
abbrev pub newline : ℕ → Bool
newline b = b == 10

-- a byte that is not a newline
abbrev pub NoNewline : ℕ → Type 0
NoNewline b = newline b ≡ false

-- a list without a newline
abbrev pub OneLine : List ℕ → Type 0
OneLine s = All NoNewline s

-- a part stays where it is not empty, or another follows
pub front-kept : (line : List ℕ) (parts : List (List ℕ)) → 0 < length line + length parts → without_empty_end (line ∷ parts) ≡ line ∷ without_empty_end parts
front-kept [] [] some = absurd (omega arith)
front-kept [] (next ∷ parts) some = refl
front-kept (b ∷ line) parts some = refl

-- the first line of a source that has some, and those behind it
pub next-line : (s : List ℕ) → 0 < length s → lines_of s ≡ take (position_or_len newline s) s ∷ lines_of (drop (position_or_len newline s + 1) s)
next-line s some =
    elim (cases_lt (position_or_len newline s) (length s)) [
      | inl h ↦
          let others = length-slice_split newline (after_first newline s) in
          ap without_empty_end (slice_split_first newline s 0 h) ∙ front-kept (before_first newline s) (slice_split newline (after_first newline s)) (omega (arith, others))
      | inr h ↦
          let at : position_or_len newline s ≡ length s = omega (arith, prefix_len-le-length (λ b. not (newline b)) s) in
          let none : OneLine s = λ k d lt. fails_before_first newline s k d (omega arith) in
          rw (at, drop_all (length s + 1) s (omega arith), take_all (length s) s (omega arith), slice_split_none newline s none) (front-kept s [] (omega arith))
    ]

-- the line at a place, as the reader finds it, and those behind it
pub line-at : (s : List ℕ) (at end : ℕ) → at < length s → end ≡ position_or_len newline (take (length s - at) (drop at s))
    → lines_of (drop at s) ≡ take end (take (length s - at) (drop at s)) ∷ lines_of (drop (at + (end + 1)) s)
line-at s at end lt is =
    let rest = next-line (drop at s) (simp length-drop (omega arith)) in
    rw (is, take_rest s at, ← drop-drop (position_or_len newline (drop at s) + 1) at s) rest

zip-more : {A B : Type 0} (R : A → B → Type 0) (xs : List A) (ys : List B) (x : A) (y : B) → AllZip R xs ys → R x y → AllZip R (xs ++ x ∷ []) (ys ++ y ∷ [])
zip-more R [] [] x y all r = (r, tt)
zip-more R [] (b ∷ ys) x y all r = absurd all
zip-more R (a ∷ xs) [] x y all r = absurd all
zip-more R (a ∷ xs) (b ∷ ys) x y all r = (all.0, zip-more R xs ys x y all.1 r)

all-more : {A : Type 0} (P : A → Type 0) (xs : List A) (x : A) → AllByRecursion P xs → P x → AllByRecursion P (xs ++ x ∷ [])
all-more P [] x all p = (p, tt)
all-more P (a ∷ xs) x all p = (all.0, all-more P xs x all.1 p)

-- the lines of a source up to this rest were read as these entries, and this line is the next
pub record ReadSoFar {N : ℕ} (c : CheckCase) (s rest : List ℕ) (line : ℕ) (entries : List (Entry N)) : Type 0 where
  pub done : List (List ℕ)
  pub lines : lines_of s ≡ done ++ lines_of rest
  pub clear : AllByRecursion (λ line. line_fault c N line ≡ None) done
  pub count : line ≡ length done + 1
  pub entries_of : AllZip (LineIs c) done entries

-- one more line
pub read-more : {N : ℕ} (c : CheckCase) (s rest next : List ℕ) (line : ℕ) (entries : List (Entry N)) (here : List ℕ) (e : Entry N)
    → lines_of rest ≡ here ∷ lines_of next → line_fault c N here ≡ None → LineIs c here e → ReadSoFar c s rest line entries → ReadSoFar c s next (line + 1) (entries ++ e ∷ [])
read-more {N} c s rest next line entries here e step none is r = record {
  done = r.done ++ here ∷ [];
  lines = rw append_assoc (rw step at r.lines);
  clear = all-more (λ line. line_fault c N line ≡ None) r.done here r.clear none;
  count = rw (length_push, r.count);
  entries_of = zip-more (LineIs c) r.done entries here e r.entries_of is;
}

-- where the lines before one have no fault, and it has none, the first line has none
pub clear-first : (c : CheckCase) (n : ℕ) (s : List ℕ) (done : List (List ℕ)) (here : List ℕ) (after : List (List ℕ)) → lines_of s ≡ done ++ here ∷ after
    → AllByRecursion (λ line. line_fault c n line ≡ None) done → line_fault c n here ≡ None → ReadFailure c n s OutOfMemory
clear-first c n s [] here after lines clear none = (here, after, lines, none)
clear-first c n s (line ∷ done) here after lines clear none = (line, done ++ here ∷ after, lines, clear.0)
