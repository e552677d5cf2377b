-- The hasher took what is before the next byte.
use Rattle.std.proofs.Common.{◌≡◌, ◌++◌, take}
use Rattle.callers.proofs.checksum.HasherSink.put.Given as goal

abbrev pub invariant-loop-byte : goal.invariant-loop-byte
invariant-loop-byte l = l.self ≡ l.initial.self ++ take l.byte-index l.fn.piece
