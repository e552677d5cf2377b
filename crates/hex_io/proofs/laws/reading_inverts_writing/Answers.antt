-- A written list is read back.
use Rattle.std.proofs.Common.{◌≡◌, ℕ, ◌*◌, ◌/◌, ◌%◌, Bool, false, refl, arith, List, [], ◌∷◌, length, append_assoc}
use Rattle.std.specs.List.{AllByRecursion, slice_split}
use Rattle.std.proofs.lemmas.Bool.Decides.{nat_tests}
use Rattle.std.proofs.lemmas.List.{drop_at, take_at}
use Rattle.std.proofs.lemmas.List.Elements.{All-append, All-cons, All-head, All-nil, All-tail}
use Rattle.std.proofs.lemmas.List.Splits.{length-slice_split, slice_split_at}
use Rattle.hex_core.proofs.TextLemmas.{length-text}
use Rattle.hex_core.specs.declared.digit.CheckCase.{CheckCase}
use Rattle.hex_core.specs.Digit.{digit, strict}
use Rattle.hex_core.specs.Text.{Spells, text}
use Rattle.hex_io.specs.declared.digests.Entry.{Entry}
use Rattle.hex_io.specs.ListLaws.{HasDigest}
use Rattle.hex_io.specs.Lists.{LineIs, Lists, line_of, lines_of, list_of, mark}
use Rattle.hex_io.proofs.LineLemmas.{NoNewline, OneLine, front-kept, newline}
use Rattle.hex_io.proofs.NameLemmas.{AllGood, bad, named, all-good}
use Rattle.hex_core.specs.declared.digit.CheckCase.TheVariants as policy
use Rattle.hex_io.proofs.laws.reading_inverts_writing.Goals as goal

digit-no-newline : (upper : Bool) (n : ℕ) → newline (digit upper n) ≡ false
digit-no-newline upper n = grind (arith, nat_tests)

text-one-line : (upper : Bool) (bytes : List ℕ) → OneLine (text upper bytes)
text-one-line upper [] = All-nil NoNewline
text-one-line upper (b ∷ bytes) =
    let low = All-cons NoNewline (digit upper (b % 16)) (text upper bytes) (digit-no-newline upper (b % 16)) (text-one-line upper bytes) in
    All-cons NoNewline (digit upper (b / 16)) (digit upper (b % 16) ∷ text upper bytes) (digit-no-newline upper (b / 16)) low

line-one-line : {N : ℕ} (upper : Bool) (e : Entry N) → bad e ≡ false → OneLine (line_of upper e)
line-one-line upper e good =
    let name = All-cons NoNewline (mark e.binary) e.name.now (grind (arith, nat_tests)) (named e.name.now good).1 in
    All-append NoNewline (text upper e.digest) (32 ∷ mark e.binary ∷ e.name.now) (text-one-line upper e.digest) (All-cons NoNewline 32 (mark e.binary ∷ e.name.now) refl name)

-- an entry's line is one
line-is : {N : ℕ} (c : CheckCase) (upper : Bool) (e : Entry N) → length e.digest ≡ N → bad e ≡ false → Spells c (text upper e.digest) e.digest → LineIs c (line_of upper e) e
line-is {N} c upper e size good spelled =
    let long : length (text upper e.digest) ≡ 2 * N = omega (arith, length-text upper e.digest, size) in
    record {
      spelled = rw (take_at (text upper e.digest) (32 ∷ mark e.binary ∷ e.name.now) (2 * N) long) spelled;
      behind = drop_at (text upper e.digest) (32 ∷ mark e.binary ∷ e.name.now) (2 * N) long;
      named = (named e.name.now good).0;
    }

-- the first line of a list
first : {N : ℕ} (upper : Bool) (e : Entry N) (es : List (Entry N)) → bad e ≡ false → lines_of (list_of upper (e ∷ es)) ≡ line_of upper e ∷ lines_of (list_of upper es)
first upper e es good =
    let line = line_of upper e in let rest = list_of upper es in
    rw (append_assoc line (10 ∷ []) rest, slice_split_at newline line 10 rest (line-one-line upper e good) refl)
    (front-kept line (slice_split newline rest) (omega (arith, length-slice_split newline rest)))

read-back : {N : ℕ} (c : CheckCase) (upper : Bool) (es : List (Entry N)) → ((e : Entry N) → HasDigest e → Spells c (text upper e.digest) e.digest)
    → AllByRecursion HasDigest es → AllGood es → Lists c (list_of upper es) es
read-back c upper [] spelled sizes good = tt
read-back c upper (e ∷ es) spelled sizes good =
    let here = All-head (λ x. bad x ≡ false) e es good in let others = All-tail (λ x. bad x ≡ false) e es good in
    rw (first upper e es here) (line-is c upper e sizes.0.0 here (spelled e sizes.0), read-back c upper es spelled sizes.1 others)

pub returns : goal.returns
returns c = record {
  inverts = λ n upper entries sizes none.
      let law = c.decoding_inverts_encoding.ensures.inverts upper in
      let good = all-good entries none in
      (read-back (strict upper) upper entries (λ e is. (law e.digest is.1).0) sizes good, read-back policy.None upper entries (λ e is. (law e.digest is.1).1) sizes good);
}
