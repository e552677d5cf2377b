-- The text that an error of decoding grouped digits prints.
use Rattle.std.specs.Prelude.{ℕ, List, ◌++◌, codes}
use Rattle.std.specs.Fmt.{decimal}
use Rattle.hex_core.specs.declared.error.Error.TheVariants as codec
use Rattle.hex_core.specs.Message.{error_text}
use Rattle.hex_core.specs.Text.{digits, lowercase}
use Rattle.hex_codec.specs.declared.grouped.GroupFault.{GroupFault}
use Rattle.hex_codec.specs.declared.grouped.GroupFault.TheVariants.{BadLength, OutputTooSmall, InvalidByte}

-- the text of an error, byte for byte
abbrev pub group_fault_text : GroupFault → List ℕ
group_fault_text BadLength = codes "invalid length of grouped hex"
group_fault_text (OutputTooSmall required) = error_text (codec.OutputTooSmall required)
group_fault_text (InvalidByte index byte) = codes "invalid byte 0x" ++ (digits lowercase byte ++ (codes " at index " ++ decimal index))
