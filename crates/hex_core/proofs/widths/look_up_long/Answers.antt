use Rattle.std.proofs.Common.{map, ap, ◌∙◌}
use Rattle.hex_core.specs.inside.Tables.{long_entry}
use Rattle.hex_core.proofs.LookupLemmas.{chunk_mapped}
use Rattle.hex_core.proofs.widths.look_up_long.Goals as goal

pub returns : goal.returns
returns g c =
    let f = long_entry c.args.row in
    rw (c.narrowed.ensures, c.look_up_row_of_64.ensures) (chunk_mapped f 0 g.row.N c.widened.result ∙ ap (map f) c.widened.ensures)
