-- What the exported functions return.
use Rattle.std.specs.Prelude.{◌≡◌, ◌↔◌, ℕ, ◌==◌, if◌then◌else◌, Bool, false, IsTrue, List, slice_index}
use Rattle.std.specs.Prelude.{Option, Some, None, MatchOption, Result, Ok, Err}
use Rattle.hex_core.specs.declared.digit.CheckCase.{CheckCase}
use Rattle.hex_core.specs.declared.digit.CheckCase.TheVariants as policy
use Rattle.hex_core.specs.declared.error.Error.{Error}
use Rattle.hex_core.specs.declared.error.Error.TheVariants.{InvalidChar, OutputTooSmall, OddLength}
use Rattle.hex_core.specs.Calls.{Decodes, Encodes}
use Rattle.hex_core.specs.Search.{first_invalid}
use Rattle.hex_codec.specs.declared.group.Group.{Group}
use Rattle.hex_codec.specs.declared.grouped.GroupFault.{GroupFault}
use Rattle.hex_codec.specs.declared.grouped.GroupFault.TheVariants as fault
use Rattle.hex_codec.specs.GroupCalls.{Reads, WritesGrouped}
use Rattle.hex_codec.specs.GroupedWriting.{MakesGroup}
use Rattle.hex_codec.specs.Spaced.{DecodesSpaced}
use Rattle.faster_hex_c.specs.declared.Answer.{Answer}

-- the policy that a number names, or `None` if it names none
abbrev pub policy_of : ℕ → Option CheckCase
policy_of n =
    if n == 0 then Some policy.None
    else if n == 1 then Some policy.Lower
    else if n == 2 then Some policy.Upper
    else None

-- the answer for a number that names no policy
abbrev pub no_policy : Answer
no_policy = record { number = 0; status = 5; byte = 0 }

-- the answer for a result. Of the errors in the last equation, functions that write to a destination return only Overflow
abbrev pub answer_of : Result ℕ Error → Answer
answer_of (Ok written) = record { number = written; status = 0; byte = 0 }
answer_of (Err OddLength) = record { number = 0; status = 1; byte = 0 }
answer_of (Err (OutputTooSmall required)) = record { number = required; status = 2; byte = 0 }
answer_of (Err (InvalidChar index byte)) = record { number = index; status = 3; byte = byte }
answer_of (Err e) = record { number = 0; status = 4; byte = 0 }

-- the answer for the first invalid byte of a source, if there is one
abbrev pub answer_for : List ℕ → Option ℕ → Answer
answer_for s None = record { number = 0; status = 0; byte = 0 }
answer_for s (Some i) = record { number = i; status = 3; byte = slice_index s i }

-- decoding as the library does it, with its result as the answer
abbrev pub DecodesTo : CheckCase → List ℕ → List ℕ → List ℕ → Answer → Type 0
DecodesTo c s old new answer = (result : Result ℕ Error) × Decodes c s old new result × (answer ≡ answer_of result)

-- encoding as the library does it, with its result as the answer
abbrev pub EncodesTo : Bool → List ℕ → List ℕ → List ℕ → Answer → Type 0
EncodesTo upper bytes old new answer = (result : Result ℕ Error) × Encodes upper bytes old new result × (answer ≡ answer_of result)

-- decoding under the policy that the number n names. If n names none, the destination is unchanged
abbrev pub DecodesBy : ℕ → List ℕ → List ℕ → List ℕ → Answer → Type 0
DecodesBy n s old new answer = MatchOption (policy_of n) ((answer ≡ no_policy) × (new ≡ old)) (λ c. DecodesTo c s old new answer)

-- decoding where white space is skipped, as the library does it, under the policy that the number n names. If n
-- names none, the destination is unchanged
abbrev pub DecodesSpacedBy : ℕ → List ℕ → List ℕ → List ℕ → Answer → Type 0
DecodesSpacedBy n s old new answer = MatchOption (policy_of n) ((answer ≡ no_policy) × (new ≡ old))
    (λ c. (result : Result ℕ Error) × DecodesSpaced c s old new result × (answer ≡ answer_of result))

-- the answer is true exactly if all bytes are valid under the policy that the number n names, and false if n
-- names none
abbrev pub ChecksBy : ℕ → List ℕ → Bool → Type 0
ChecksBy n s answer = MatchOption (policy_of n) (answer ≡ false) (λ c. IsTrue answer ↔ (first_invalid c s ≡ None))

-- the answer for the first invalid byte under the policy that the number n names
abbrev pub FindsInvalid : ℕ → List ℕ → Answer → Type 0
FindsInvalid n s answer = MatchOption (policy_of n) (answer ≡ no_policy) (λ c. answer ≡ answer_for s (first_invalid c s))

-- the answer for numbers that make no group
abbrev pub no_group : Answer
no_group = record { number = 0; status = 6; byte = 0 }

-- the answer for a result of decoding a grouped text
abbrev pub group_answer_of : Result ℕ GroupFault → Answer
group_answer_of (Ok written) = record { number = written; status = 0; byte = 0 }
group_answer_of (Err (fault.OutputTooSmall required)) = record { number = required; status = 2; byte = 0 }
group_answer_of (Err (fault.InvalidByte index byte)) = record { number = index; status = 3; byte = byte }
group_answer_of (Err fault.BadLength) = record { number = 0; status = 7; byte = 0 }

-- `Holds` is true of the group that two numbers make. If they make none, the destination is unchanged
abbrev pub ByGroup : ℕ → ℕ → List ℕ → List ℕ → Answer → (Group → Type 0) → Type 0
ByGroup every sep old new answer Holds =
    (made : Option Group) × MakesGroup every sep made × MatchOption made ((answer ≡ no_group) × (new ≡ old)) Holds

-- encoding in the group that two numbers make, with its result as the answer
abbrev pub EncodesGrouped : ℕ → ℕ → Bool → List ℕ → List ℕ → List ℕ → Answer → Type 0
EncodesGrouped every sep upper bytes old new answer = ByGroup every sep old new answer
    (λ group. (result : Result ℕ Error) × WritesGrouped group upper bytes old new result × (answer ≡ answer_of result))

-- decoding in the group that two numbers make, under the policy that the number n names. The policy is tested
-- first
abbrev pub DecodesGrouped : ℕ → ℕ → ℕ → List ℕ → List ℕ → List ℕ → Answer → Type 0
DecodesGrouped n every sep s old new answer = MatchOption (policy_of n) ((answer ≡ no_policy) × (new ≡ old)) (λ c. ByGroup every sep old new answer
    (λ group. (result : Result ℕ GroupFault) × Reads c group s old new result × (answer ≡ group_answer_of result)))
