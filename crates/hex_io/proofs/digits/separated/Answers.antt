-- A separator, and behind it a chunk's text.
use Rattle.std.proofs.Common.{◌<◌, ◌-◌, Ok, arith, drop, length, length-drop, refl}
use Rattle.std.proofs.lemmas.List.{length-take-le}
use Rattle.hex_codec.specs.GroupedWriting.{grouped, separator}
use Rattle.hex_io.proofs.ChunkFacts.{filled-front}
use Rattle.hex_io.proofs.ContinueLemmas.{alone, behind, inside, one-mark}
use Rattle.hex_io.proofs.digits.separated.Goals as goal
use Rattle.hex_io.proofs.digits.separated.Goals.{else-follows, then-follows}

pub write_with_room-end-requires : goal.write_with_room-end-requires
write_with_room-end-requires c =
    let old = c.args.buffer.now in let start = c.from-start.result in
    let front = length-drop start old in
    let rest = length-take-le (length old - start) (drop start old) (omega (arith, front)) in
    omega (arith, rest, one-mark c.args.follows, c.from-start.ensures, c.requires.room, c.requires.some)

pub returns : goal.returns
returns c =
    let shown = grouped c.args.group c.args.upper c.args.bytes.now in
    let answer = c.write_with_room-end.ensures.answer in
    let fits = inside _ shown _ _ (Ok c.write_with_room-end.result) _ refl answer in
    let front = filled-front _ shown _ _ (Ok c.write_with_room-end.result) _ refl answer in
    let some : 0 < length c.args.buffer.now = omega (arith, c.requires.room, c.requires.some) in
    elim c.if-follows.branch [
      | then-follows w ↦ rw (w.buffer-is, w.sep.ensures.value, c.from-start.ensures, w.if-follows.true)
          (behind (separator c.args.group) _ c.write_with_room-end.result c.args.buffer.now _ shown some fits front.1)
      | else-follows w ↦ rw (w.buffer-is, c.from-start.ensures, w.if-follows.false)
          (alone _ c.write_with_room-end.result c.args.buffer.now _ shown fits front.1)
    ]
