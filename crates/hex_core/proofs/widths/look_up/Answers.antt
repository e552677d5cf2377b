use Rattle.std.proofs.Common.{map, ap, ◌∙◌}
use Rattle.hex_core.specs.inside.Tables.{entry}
use Rattle.hex_core.proofs.LookupLemmas.{chunk_mapped}
use Rattle.hex_core.proofs.widths.look_up.Goals as goal

pub returns : goal.returns
returns g c =
    let f = entry c.args.row in
    rw (c.narrowed.ensures, c.look_up_64.ensures) (chunk_mapped f 0 g.row.N c.widened.result ∙ ap (map f) c.widened.ensures)
