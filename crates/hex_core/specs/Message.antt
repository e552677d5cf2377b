-- The text that an error prints.
use Rattle.std.specs.Prelude.{ℕ, List, ◌++◌, codes}
use Rattle.std.specs.Fmt.{decimal}
use Rattle.hex_core.specs.declared.error.Error.{Error}
use Rattle.hex_core.specs.declared.error.Error.TheVariants.{InvalidChar, OutputTooSmall, LengthMismatch, OddLength, Overflow, OutOfMemory}
use Rattle.hex_core.specs.Text.{digits, lowercase}

-- the text of an error, byte for byte
abbrev pub error_text : Error → List ℕ
error_text (InvalidChar index byte) = codes "invalid hex byte 0x" ++ (digits lowercase byte ++ (codes " at index " ++ decimal index))
error_text (OutputTooSmall required) = codes "output requires at least " ++ (decimal required ++ codes " bytes")
error_text (LengthMismatch expected actual) = codes "expected " ++ (decimal expected ++ (codes " decoded bytes, got " ++ decimal actual))
error_text OddLength = codes "hex input length must be even"
error_text Overflow = codes "encoded length overflow"
error_text OutOfMemory = codes "out of memory"
