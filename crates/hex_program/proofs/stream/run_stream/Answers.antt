-- What an operation put, or why it put no more.
use Rattle.std.proofs.Common.{rules, ◌≡◌, List, ℕ, refl}
use Rattle.std.proofs.lemmas.Result.{err_from_is_err_and}
use Rattle.hex_core.specs.Text.{lowercase, text}
use Rattle.hex_codec.specs.declared.group.Group.{Group}
use Rattle.hex_codec.specs.GroupedWriting.{grouped, piece_len, separator}
use Rattle.hex_program.specs.declared.stream.StreamOp.TheVariants.{Encode, EncodeLines}
use Rattle.hex_program.proofs.StreamServing.{decoded, joined, line-ended, line-failed, lines-failed, lines-of}
use Rattle.hex_program.proofs.stream.run_stream.Goals as goal

-- a group of this length and this separator joins the pieces by it
by-lines : (lines : Group) → piece_len lines ≡ 30 → separator lines ≡ 10 → (bytes : List ℕ) → grouped lines lowercase bytes ≡ joined bytes
by-lines lines long newline bytes = simp (long, newline) refl

pub returns-in_ok-encode_stream-in-Encode : goal.returns-in_ok-encode_stream-in-Encode
returns-in_ok-encode_stream-in-Encode g c = λ after kept.
    let law = c.puts_in_a_row_are_one.ensures in let st = g.S.Sink.state in let left = g.R.Read.remaining c.encode_stream.new.reader in
    let read = c.in_ok-encode_stream-in-Encode.ensures.answer in
    let ends = line-ended Encode read.0 (text lowercase read.0) _ left after (st c.args.sink.now) (st c.encode_stream.new.sink) (st c.put_all.new.sink) kept
    law.taken law.stopped refl (λ part. part) refl read.2.1 read.2.2 c.put_all.result c.map_err.result c.put_all.ensures.puts c.map_err.ensures.cases in
    rw c.in-Encode.is (record { input = read.0; read = read.1; begun = ends.0; end = ends.1 })

pub returns-in_err-encode_stream-in-Encode : goal.returns-in_err-encode_stream-in-Encode
returns-in_err-encode_stream-in-Encode g c = λ after kept.
    let st = g.S.Sink.state in let left = g.R.Read.remaining c.encode_stream.new.reader in let here = c.in_err-encode_stream-in-Encode in
    let read = here.ensures.answer in let end = err_from_is_err_and c.from_residual.result c.from_residual.ensures.1 in
    let ends = line-failed read.0 left after (st c.args.sink.now) (st c.encode_stream.new.sink) kept here.field-0.0 read.2 in
    rw (c.in-Encode.is, end.1, end.2) (record { input = read.0; read = read.1; begun = ends.0; end = ends.1 })

pub returns-in_default : goal.returns-in_default
returns-in_default g c = λ after kept.
    let law = c.puts_in_a_row_are_one.ensures in let st = g.S.Sink.state in let left = g.R.Read.remaining c.encode_grouped_stream.new.reader in
    let read = c.in_ok-encode_grouped_stream-in-EncodeLines.ensures.answer in let put = c.put_all-in_default in let done = c.map_err-in_default in
    let took = rw (by-lines c.unwrap-lines.result (search rules) (search rules) read.0) at read.2.1 in
    let ends = line-ended EncodeLines read.0 (joined read.0) _ left after (st c.args.sink.now) (st c.encode_grouped_stream.new.sink) (st put.new.sink) kept
    law.taken law.stopped (lines-of read.0 (search rules)) (λ part. part) refl took read.2.2 put.result done.result put.ensures.puts done.ensures.cases in
    rw c.in-EncodeLines.is (record { input = read.0; read = read.1; begun = ends.0; end = ends.1 })

pub returns-in_err-encode_grouped_stream-in-EncodeLines : goal.returns-in_err-encode_grouped_stream-in-EncodeLines
returns-in_err-encode_grouped_stream-in-EncodeLines g c = λ after kept.
    let st = g.S.Sink.state in let left = g.R.Read.remaining c.encode_grouped_stream.new.reader in let here = c.in_err-encode_grouped_stream-in-EncodeLines in
    let read = here.ensures.answer in let back = c.from_residual-in_err-encode_grouped_stream-in-EncodeLines in let end = err_from_is_err_and back.result back.ensures.1 in
    let same = by-lines c.unwrap-lines.result (search rules) (search rules) in
    let ends = lines-failed (grouped c.unwrap-lines.result lowercase) same read.0 left after (st c.args.sink.now) (st c.encode_grouped_stream.new.sink) kept here.field-0.0 read.2 in
    rw (c.in-EncodeLines.is, end.1, end.2) (record { input = read.0; read = read.1; begun = ends.0; end = ends.1 })

pub returns-in-Decode : goal.returns-in-Decode
returns-in-Decode g c = λ after kept.
    let st = g.S.Sink.state in let left = g.R.Read.remaining c.decode_spaced_stream.new.reader in let read = c.decode_spaced_stream.ensures.answer in
    let ends = decoded left after (st c.args.sink.now) (st c.decode_spaced_stream.new.sink) kept _ read.0 c.decode_spaced_stream.result c.map.result read.2 c.map.ensures.cases in
    rw c.in-Decode.is (record { input = read.0; read = read.1; begun = ends.0; end = ends.1 })
