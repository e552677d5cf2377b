-- A decoder may have been fed as many pairs of zeros as it has counted, or white space, and then the digit that waits.
use Rattle.std.proofs.Common.{◌≡◌, arith, ℕ, zero, suc, Bool, true, false, List, [], ◌++◌, ◌-◌, ◌+◌, ◌*◌, ◌/◌, ◌%◌, ◌≤◌}
use Rattle.std.proofs.Common.{get_or, replicate, length, length-append, Option, None, Some, refl}
use Rattle.std.specs.Prelude.{IsSome}
use Rattle.std.specs.Option.{ForSome, option_to_list}
use Rattle.std.proofs.lemmas.Bool.Decides.{nat_tests}
use Rattle.std.proofs.lemmas.List.{get_or-replicate, length-replicate}
use Rattle.hex_core.specs.declared.digit.CheckCase.{CheckCase}
use Rattle.hex_core.specs.Digit.{value}
use Rattle.hex_core.specs.Text.{Spells}
use Rattle.hex_io.specs.Reading.{SpellsBut, digits_in}
use Rattle.hex_codec.specs.Spaced.{is_solid, unspaced}
use Rattle.hex_io.proofs.DecoderLemmas.{spells-but, spells-none}
use Rattle.hex_io.proofs.laws.every_decoder_has_been_fed.Goals as goal

zeros-spelled : (c : CheckCase) (n : ℕ) → Spells c (replicate (2 * n) 48) (replicate n 0)
zeros-spelled c n =
    let size = length-replicate {A = ℕ} n 0 in record {
      twice = omega (arith, size, length-replicate {A = ℕ} (2 * n) 48);
      each = λ i lt.
          let zero_at : get_or (replicate n 0) i 0 ≡ 0 = get_or-replicate {A = ℕ} n i 0 0 (omega (arith, lt, size)) in let digit = get_or-replicate {A = ℕ} (2 * n) in
          record { high = rw (digit (2 * i) 48 0 (omega (arith, lt, size)), zero_at) refl; low = rw (digit (2 * i + 1) 48 0 (omega (arith, lt, size)), zero_at) refl };
    }

digit-kept : (c : CheckCase) (o : Option ℕ) (blanks : ℕ) → ForSome o (λ d. IsSome (value c d))
    → unspaced (replicate blanks 32 ++ option_to_list o) ≡ option_to_list o
digit-kept c o (suc n) read = digit-kept c o n read
digit-kept c None zero read = refl
digit-kept c (Some d) zero read = let is = read d refl in let solid : is_solid d ≡ true = grind (arith, nat_tests, is) in rw solid refl

was-fed : (c : CheckCase) (skips : Bool) (position : ℕ) (o : Option ℕ) → ForSome o (λ d. IsSome (value c d)) → length (option_to_list o) ≤ position
    → (skips ≡ false → position % 2 ≡ length (option_to_list o))
    → (fed : List ℕ) × (written : List ℕ) × ((position ≡ length fed) × SpellsBut c (digits_in (record { case = c; skips = skips }) fed) written (option_to_list o))
was-fed c false position o read counted paired =
    let half = position / 2 in let zeros = replicate (2 * half) 48 in let fed = zeros ++ option_to_list o in
    let size = length-append zeros (option_to_list o) in
    (fed, replicate half 0, (omega (arith, paired refl, size, length-replicate {A = ℕ} (2 * half) 48), spells-but c fed zeros (replicate half 0) o refl (zeros-spelled c half) read))
was-fed c true position o read counted paired =
    let blanks = position - length (option_to_list o) in let fed = replicate blanks 32 ++ option_to_list o in
    let size = length-append (replicate blanks 32) (option_to_list o) in
    (fed, [], (omega (arith, counted, size, length-replicate {A = ℕ} blanks 32), rw (digit-kept c o blanks read) (spells-none c o read)))

pub returns : goal.returns
returns c = record {
  fed = λ decoder. let r = decoder.reading in
      was-fed r.case r.skips decoder.position decoder.waiting decoder.tested decoder.counted decoder.paired;
}
