-- The result of reading a field of a record.
use Rattle.std.specs.Prelude.{◌≡◌, ℕ, List, MatchOption, Option, None, Some, Result, Ok, Err}
use Rattle.serde_json.specs.Data.{Data}
use Rattle.faster_hex.specs.declared.adapters.AdapterError.{AdapterError}
use Rattle.faster_hex.specs.Adapters.{Reads, array_read_refusal}
use Rattle.faster_hex.specs.WireFormats.{withpfx_ignorecase}

-- the result is `None` if there is no field. Otherwise it is the four bytes as which the field is read, or
-- their error
abbrev pub AnswersField : Option Data → Result (Option (List ℕ)) AdapterError → Type 0
AnswersField field (Ok None) = field ≡ None
AnswersField field (Ok (Some id)) = MatchOption field ⊥ (λ d. Reads withpfx_ignorecase None d id)
AnswersField field (Err e) = MatchOption field ⊥ (λ d. array_read_refusal withpfx_ignorecase 4 d ≡ Some e)
