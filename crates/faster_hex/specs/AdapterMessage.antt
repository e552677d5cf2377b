-- The text that an error of the JSON modules prints.
use Rattle.std.specs.Prelude.{ℕ, List, ◌++◌, codes}
use Rattle.std.specs.Fmt.{decimal}
use Rattle.hex_core.specs.Message.{error_text}
use Rattle.faster_hex.specs.declared.adapters.AdapterError.{AdapterError}
use Rattle.faster_hex.specs.declared.adapters.AdapterError.TheVariants.{NotText, InvalidPrefix, InvalidLength, OverBound, Codec}

-- the text of an error. For an error of the codec it is the text of that error
abbrev pub adapter_error_text : AdapterError → List ℕ
adapter_error_text NotText = codes "expected a string"
adapter_error_text InvalidPrefix = codes "invalid prefix"
adapter_error_text InvalidLength = codes "invalid length"
adapter_error_text (OverBound max actual) = codes "expected at most " ++ (decimal max ++ (codes " decoded bytes, got " ++ decimal actual))
adapter_error_text (Codec e) = error_text e
