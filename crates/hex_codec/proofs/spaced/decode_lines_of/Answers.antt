-- The next line is decoded too.
use Rattle.std.proofs.Common.{◌≡◌, ◌+◌, ◌-◌, ◌/◌, ◌∙◌, ◌<◌, ◌≤◌, arith, length, length-drop, take, drop}
use Rattle.std.proofs.Math.Nat.{add-sub_cancel_left, mul-le-mul_right}
use Rattle.std.proofs.lemmas.List.{length-take-le}
use Rattle.std.proofs.lemmas.Slice.{take-put_mid}
use Rattle.hex_codec.proofs.SpacedLemmas.{decoded-more, length-put, line-more}
use Rattle.hex_codec.proofs.spaced.decode_lines_of.Goals as goal

pub slice_bounds-decode_valid-end-in-lines : goal.slice_bounds-decode_valid-end-in-lines
slice_bounds-decode_valid-end-in-lines c =
    omega (arith, c.lines-test.true, c.requires.room, c.lines.invariant.1, c.lines.invariant.2.same, mul-le-mul_right {m = c.lines.counter + 1} {n = c.args.lines.count} (c.args.lines.len / 2) (omega (arith, c.lines-test.true)))

pub lines-preserved : goal.lines-preserved
lines-preserved c =
    let s = c.args.src.now in let len = c.args.lines.len in let gap = c.args.lines.gap in let at = c.lines.at in let i = c.lines.counter in let pairs = len / 2 in
    let done = c.lines.done in let dst = c.lines.dst in let part = c.decode_valid.new.dst in let before = c.lines.invariant.2 in let lines = c.requires.lines in
    let inside : i < c.args.lines.count = omega (arith, c.lines-test.true) in
    let digits = rw (← c.lines.invariant.0) at (lines.digits i inside) in let space = rw (← c.lines.invariant.0) at (lines.space i inside) in
    let line = line-more c.args.case s at len gap digits space in
    let spelled = rw (add-sub_cancel_left at len) at c.decode_valid.ensures.digits in
    let end = mul-le-mul_right {m = i + 1} {n = c.args.lines.count} (len + gap) (omega (arith, inside)) in
    let room : done + pairs ≤ length dst = omega (arith, c.requires.room, c.lines.invariant.1, before.same, mul-le-mul_right {m = i + 1} {n = c.args.lines.count} pairs (omega (arith, inside))) in
    let fits : at + (len + gap) ≤ length s = omega (arith, lines.inside, end, c.lines.invariant.0) in
    let size : length part ≡ pairs = omega (arith, spelled.twice, length-take-le len (drop at s) (omega (arith, fits, length-drop at s))) in
    let same = length-put done (done + pairs - done) dst part (omega (arith, room)) (omega (arith, size)) in
    let long : done + pairs ≡ done + length part = omega (arith, size) in (
      omega (arith, c.lines.invariant.0),
      omega (arith, c.lines.invariant.1),
      record {
        inside = fits;
        same = same ∙ before.same;
        room = rw same room;
        spelled = decoded-more c.args.case s dst _ (take len (drop at s)) part at (at + (len + gap)) done (done + pairs) before.spelled line spelled
            (take-put_mid done (done + pairs - done) dst part (done + pairs) long before.room);
      },
    )

pub returns : goal.returns
returns c =
    let all : c.lines.counter ≡ c.args.lines.count = omega (arith, c.lines.auto.counter-end, c.lines-test.false) in
    rw (← all, ← c.lines.invariant.0, ← c.lines.invariant.1) c.lines.invariant.2
