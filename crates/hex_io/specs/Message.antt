-- The texts that the errors of this crate print.
use Rattle.std.specs.Prelude.{ℕ, List, ◌++◌, codes}
use Rattle.std.specs.Fmt.{decimal}
use Rattle.hex_core.specs.declared.error.Error.TheVariants.{InvalidChar}
use Rattle.hex_core.specs.Message.{error_text}
use Rattle.hex_io.specs.declared.digests.LineFault.{LineFault}
use Rattle.hex_io.specs.declared.digests.LineFault.TheVariants.{BadMark, InvalidByte, ShortLine}
use Rattle.hex_io.specs.declared.digests.ListFault.{ListFault}
use Rattle.hex_io.specs.declared.digests.ListFault.TheVariants.{Line, OutOfMemory}
use Rattle.hex_io.specs.declared.sink.WriteFault.{WriteFault}
use Rattle.hex_io.specs.declared.sink.WriteFault.TheVariants.{Sink, TookNothing}
use Rattle.hex_io.specs.declared.stream.StreamFault.{StreamFault}
use Rattle.hex_io.specs.declared.stream.StreamFault.TheVariants.{Codec, Read, Write}
use Rattle.hex_io.specs.declared.digests.ListWriteFault.{ListWriteFault}
use Rattle.hex_io.specs.declared.digests.ListWriteFault.TheVariants as list

-- the text of the error of a sink
abbrev pub sink_fault_text : List ℕ
sink_fault_text = codes "sink refused"

-- the text of an error of writing to a sink
abbrev pub write_fault_text : WriteFault → List ℕ
write_fault_text (Sink _) = sink_fault_text
write_fault_text TookNothing = codes "sink took nothing"

-- the text of an error of decoding or encoding a stream
abbrev pub stream_fault_text : StreamFault → List ℕ
stream_fault_text Read = codes "read failed"
stream_fault_text (Codec e) = error_text e
stream_fault_text (Write fault) = write_fault_text fault

-- the text of the fault of a line
abbrev pub line_fault_text : LineFault → List ℕ
line_fault_text ShortLine = codes "line too short"
line_fault_text (InvalidByte index byte) = error_text (InvalidChar index byte)
line_fault_text BadMark = codes "invalid mark"

-- the text of an error of reading a list
abbrev pub list_fault_text : ListFault → List ℕ
list_fault_text (Line line why) = codes "line " ++ (decimal line ++ (codes ": " ++ line_fault_text why))
list_fault_text OutOfMemory = codes "out of memory"

-- the text of an error of writing a list
abbrev pub list_write_fault_text : ListWriteFault → List ℕ
list_write_fault_text (list.BadName entry) = codes "invalid name in entry " ++ decimal entry
list_write_fault_text (list.Write fault) = write_fault_text fault
