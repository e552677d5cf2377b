use Rattle.std.proofs.Common.{◌<◌, ◌^◌}
use Rattle.std.specs.Int.{bytes_high_first}
use Rattle.hex_core.proofs.SpellsLemmas.{SpellsBelow}
use Rattle.hex_core.proofs.look_ups.word_of.Given as goal

abbrev pub invariant-pairs : goal.invariant-pairs
invariant-pairs l = record {
  small : l.word < 256 ^ l.i;
  spelled : SpellsBelow l.fn.case l.src (bytes_high_first l.i l.word) l.i;
}
