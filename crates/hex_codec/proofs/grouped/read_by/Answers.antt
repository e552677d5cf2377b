-- The text is as long as that of the count, and the first wrong byte is inside the source.
use Rattle.std.proofs.Common.{sym, ◌∙◌, length}
use Rattle.std.proofs.lemmas.List.{length-take-le}
use Rattle.hex_codec.specs.GroupedWriting.{piece_len}
use Rattle.hex_codec.proofs.CountLemmas.{count-told}
use Rattle.hex_codec.proofs.PartLemmas.{invalid-inside}
use Rattle.hex_codec.proofs.grouped.read_by.Goals as goal

pub first_invalid_in_text-requires : goal.first_invalid_in_text-requires
first_invalid_in_text-requires c =
    let count = rw c.every.ensures.value at (sym c.byte_count.ensures ∙ c.in-Some.is) in
    sym (count-told (piece_len c.args.group) (length c.args.src.now) c.in-Some.count count)

pub bounds-src-index : goal.bounds-src-index
bounds-src-index c =
    invalid-inside c.args.case c.args.group c.args.src.now c.in-Some-first_invalid_in_text.index (sym c.first_invalid_in_text.ensures ∙ c.in-Some-first_invalid_in_text.is)

pub read_pieces-requires-clause-long : goal.read_pieces-requires-clause-long
read_pieces-requires-clause-long c =
    let count = rw c.every.ensures.value at (sym c.byte_count.ensures ∙ c.in-Some.is) in
    rw (length-take-le c.in-Some.count c.args.dst.now c.if-dst-count.false)
    (sym (count-told (piece_len c.args.group) (length c.args.src.now) c.in-Some.count count))
