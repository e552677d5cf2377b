-- The next line is read, or is the first one with a fault.
use Rattle.std.proofs.Common.{◌≡◌, [], ◌∷◌, ◌++◌, arith}
use Rattle.hex_io.proofs.LineLemmas.{clear-first, line-at, read-more}
use Rattle.hex_io.proofs.digests.read_in.Goals as goal

pub returns-then-is_err : goal.returns-then-is_err
returns-then-is_err g c =
    let step = line-at c.args.src.now c.loop-at.at c.line_end-end.result c.loop-at-test.true c.line_end-end.ensures.end in
    let so_far = c.loop-at.invariant.so_far in
    record { answer = clear-first c.args.case g.row.N c.args.src.now so_far.done _ _ (rw step at so_far.lines) so_far.clear c.in-Ok.ensures.0 }

pub returns-in-Err : goal.returns-in-Err
returns-in-Err g c =
    let step = line-at c.args.src.now c.loop-at.at c.line_end-end.result c.loop-at-test.true c.line_end-end.ensures.end in
    let so_far = c.loop-at.invariant.so_far in
    record { answer = record { before = so_far.done; here = _; after = _; lines = rw step at so_far.lines; clear = so_far.clear; count = so_far.count; fault = c.in-Err.ensures } }

pub loop-at-preserved : goal.loop-at-preserved
loop-at-preserved g c =
    let step = line-at c.args.src.now c.loop-at.at c.line_end-end.result c.loop-at-test.true c.line_end-end.ensures.end in
    let items : c.push.new.self.items ≡ c.loop-at.entries.items ++ c.in-Ok.entry ∷ [] = rw c.if-is_err.ensures.negation at c.push.ensures.items in
    record {
      so_far = rw items (read-more _ _ _ _ _ _ _ c.in-Ok.entry step c.in-Ok.ensures.0 c.in-Ok.ensures.1 c.loop-at.invariant.so_far);
      bound = omega (arith, c.loop-at.invariant.bound);
    }
