-- The digits of the bytes of one read more are put behind those of the bytes before.
use Rattle.std.proofs.Common.{rules, ◌+◌, ◌^◌, ◌≤◌, arith, sym, [], ◌++◌, length-append, take, refl}
use Rattle.std.proofs.KnownBytes.{Consumes-nil, Consumes-trans}
use Rattle.std.proofs.lemmas.List.{length-take-le, take-append-le}
use Rattle.std.proofs.lemmas.Result.{err_from_is_err_and}
use Rattle.hex_io.proofs.ContinueLemmas.{no-digits}
use Rattle.hex_io.proofs.PutsLemmas.{Stops-then, Takes-none, Takes-then}
use Rattle.hex_io.proofs.stream.encode_by.Goals as goal

pub reads-init : goal.reads-init
reads-init g c = ([], Consumes-nil _, refl, rw no-digits (Takes-none (g.S.Sink.state c.args.sink.now)))

pub returns-in_err-put_all : goal.returns-in_err-put_all
returns-in_err-put_all g c =
    let so_far = c.reads.invariant in let st = g.S.Sink.state in
    let next = rw (take-append-le c.in-Ok.count c.read_again.new.buf _ c.in-Ok.ensures.bound.0) at (c.added_digits-digits.ensures so_far.0 (sym so_far.2)) in
    let (_, is, gives) = err_from_is_err_and c.from_residual.result c.from_residual.ensures.1 in (
      so_far.0 ++ take c.in-Ok.count c.read_again.new.buf,
      Consumes-trans _ _ _ _ _ so_far.1 c.in-Ok.ensures.bytes.0,
      rw (is, gives, ← next) (Stops-then (st c.args.sink.now) (st c.reads.sink) (st c.put_all.new.sink) _ _ so_far.3 c.in_err-put_all.ensures.puts),
    )

pub returns-in_err-total : goal.returns-in_err-total
returns-in_err-total g c =
    let so_far = c.reads.invariant in let piece = take c.in-Ok.count c.read_again.new.buf in
    let size = length-take-le c.in-Ok.count c.read_again.new.buf c.in-Ok.ensures.bound.0 in
    let next = rw (take-append-le c.in-Ok.count c.read_again.new.buf _ c.in-Ok.ensures.bound.0) at (c.added_digits-digits.ensures so_far.0 (sym so_far.2)) in
    let (_, is, gives) = err_from_is_err_and c.from_residual-in_err-total.result c.from_residual-in_err-total.ensures.1 in (
      so_far.0 ++ piece,
      Consumes-trans _ _ _ _ _ so_far.1 c.in-Ok.ensures.bytes.0,
      rw (is, gives) (
        search rules,
        (let many : 2 ^ 64 ≤ c.reads.total + c.in-Ok.count = search rules in omega (arith, many, so_far.2, size, length-append so_far.0 piece)),
        rw (← next) (Takes-then _ _ _ _ _ so_far.3 c.in_ok-put_all.ensures.puts),
      ),
    )
