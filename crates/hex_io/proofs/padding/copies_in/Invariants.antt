-- The front of the buffer is the copies so far, which have at most four bytes each.
use Rattle.std.proofs.Common.{◌≡◌, ◌≤◌, ◌*◌, take}
use Rattle.std.specs.List.{repeat}
use Rattle.hex_io.proofs.padding.copies_in.Given as goal

abbrev pub invariant-copies : goal.invariant-copies
invariant-copies l = record {
  front : take l.end l.buffer ≡ repeat l.counter l.piece;
  short : l.end ≤ 4 * l.counter;
}
