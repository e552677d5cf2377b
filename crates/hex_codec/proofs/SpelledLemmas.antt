-- A source spells one list at most, and where it spells one nothing is refused.
use Rattle.std.proofs.Common.{◌≡◌, ◌/◌, ◌%◌, ◌≤◌, ℕ, List, length, get_or, None, Result, Ok, Err, refl, ap, arith}
use Rattle.std.proofs.lemmas.Bool.Decides.{nat_tests}
use Rattle.std.proofs.lemmas.Grind.{same_number_lists}
use Rattle.hex_core.specs.declared.digit.CheckCase.{CheckCase}
use Rattle.hex_core.specs.declared.error.Error.{Error}
use Rattle.std.specs.Borrow.{MutBor}
use base.Logic.{SProp, comm∗, emp, emp∗, ent, mono_l, sep, via}
use contract.Monad.{fact, fact_i}
use denote.Triple.Walked.{needs}
use seplogic.Ra.Ura.{Ura}
use Rattle.hex_core.specs.Calls.{Decodes, DecodesFront}
use Rattle.hex_core.specs.Refusal.{decode_refusal, first_invalid_char}
use Rattle.hex_core.specs.Text.{Spells}
use Rattle.hex_core.proofs.LawProofs.{valid-spelled}
use Rattle.hex_codec.specs.Calls.{FrontIsSpelled, LentIsSpelled}

pub one_list : (c : CheckCase) (s xs ys : List ℕ) → Spells c s xs → Spells c s ys → xs ≡ ys
one_list c s xs ys first second =
    let a = first.twice in let b = second.twice in
    same_number_lists xs ys (omega arith) (λ k lt.
    let x = first.each k lt in let y = second.each k (omega arith) in
    let high : get_or xs k 0 / 16 ≡ get_or ys k 0 / 16 = cc (x.high, y.high) in
    let low : get_or xs k 0 % 16 ≡ get_or ys k 0 % 16 = cc (x.low, y.low) in
    omega arith)

pub none_invalid : (c : CheckCase) (s bytes : List ℕ) → Spells c s bytes → first_invalid_char c s ≡ None
none_invalid c s bytes spelled = rw (valid-spelled c s bytes spelled) refl

accepted : (c : CheckCase) (s bytes : List ℕ) (room : ℕ) → Spells c s bytes → length bytes ≤ room → decode_refusal c s room ≡ None
accepted c s bytes room spelled fits =
    let none = none_invalid c s bytes spelled in let twice = spelled.twice in grind (arith, nat_tests)

pub front_spelled : (c : CheckCase) (s old new : List ℕ) (result : Result ℕ Error) → Decodes c s old new result → FrontIsSpelled c s old new result
front_spelled c s old new (Ok n) answer = λ bytes spelled fits.
    let same = one_list c s answer.1.0 bytes answer.1.1 spelled in
    rw (← same) (ap Ok answer.1.2, answer.1.3)
front_spelled c s old new (Err e) answer = λ bytes spelled fits.
    let none = accepted c s bytes (length old) spelled fits in absurd (cc (answer.0, none))

pub lent_spelled : (c : CheckCase) (s : List ℕ) (room : ℕ) (result : Result (MutBor (List ℕ)) Error) → DecodesFront c s room result → LentIsSpelled c s room result
lent_spelled c s room (Ok front) answer = λ bytes spelled fits. one_list c s front.now bytes answer.1 spelled
lent_spelled c s room (Err e) answer = λ bytes spelled fits. let none = accepted c s bytes room spelled fits in absurd (cc (answer, none))

-- what is had beside a fact is had beside what follows from it too
pub also : {M : Type 1} (𝓤 : Ura M) (P : SProp 𝓤) (φ ψ : Type 0) → (φ → ψ) → ent 𝓤 (sep 𝓤 P (fact 𝓤 φ)) (sep 𝓤 P (sep 𝓤 (fact 𝓤 φ) (fact 𝓤 ψ)))
also 𝓤 P φ ψ follows = needs 𝓤 φ P (λ x.
    let second = via 𝓤 (fact 𝓤 φ) (fact_i 𝓤 φ (emp 𝓤) x) (via 𝓤 _ (emp∗ 𝓤 (fact 𝓤 φ)) (mono_l 𝓤 (fact 𝓤 φ) (fact_i 𝓤 ψ (emp 𝓤) (follows x)))) in
    let both = via 𝓤 _ second (comm∗ 𝓤 (fact 𝓤 ψ) (fact 𝓤 φ)) in
    via 𝓤 _ (emp∗ 𝓤 P) (via 𝓤 _ (mono_l 𝓤 P both) (comm∗ 𝓤 (sep 𝓤 (fact 𝓤 φ) (fact 𝓤 ψ)) P)))
