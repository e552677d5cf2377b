-- What the functions that read and write a list return, and what writing changes in a sink.
use Rattle.std.specs.Prelude.{◌≡◌, ℕ, Bool, List, Some, None, Result, Ok, Err, MatchResult, vec_items}
use Rattle.std.specs.declared.vec.Vec.{Vec}
use Rattle.hex_core.specs.declared.digit.CheckCase.{CheckCase}
use Rattle.hex_io.specs.SinkState.{SinkState, Stops, Takes}
use Rattle.hex_io.specs.declared.digests.Entry.{Entry}
use Rattle.hex_io.specs.declared.digests.ListFault.{ListFault}
use Rattle.hex_io.specs.declared.digests.ListWriteFault.{ListWriteFault}
use Rattle.hex_io.specs.declared.digests.ListWriteFault.TheVariants.{BadName, Write}
use Rattle.hex_io.specs.Lists.{Lists, ReadFailure, first_bad_name, list_of}

-- reading a source: the result is the entries whose list it is, or an error of `ReadFailure`
abbrev pub ReadsList : {A : Type 0} → CheckCase → (N : ℕ) → List ℕ → Result (Vec (Entry N) A) ListFault → Type 0
ReadsList c N s result = MatchResult result (λ entries. Lists c s (vec_items entries)) (λ e. ReadFailure c N s e)

-- writing entries, by the states of the sink before and after. After `Ok` the sink took the list. After
-- `BadName` its state is unchanged, and the error has the first bad name. After `Write` the puts ended early
abbrev pub WritesList : {N : ℕ} → Bool → List (Entry N) → SinkState → SinkState → Result (Unit {0}) ListWriteFault → Type 0
WritesList upper entries old new (Ok _) = (first_bad_name entries ≡ None) × Takes old new (list_of upper entries)
WritesList upper entries old new (Err (BadName entry)) = (first_bad_name entries ≡ Some entry) × (new ≡ old)
WritesList upper entries old new (Err (Write _)) = (first_bad_name entries ≡ None) × Stops old new (list_of upper entries)
