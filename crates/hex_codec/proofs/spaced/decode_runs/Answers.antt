-- The next digits are decoded too.
use Rattle.std.proofs.Common.{◌≡◌, ◌≢◌, ◌+◌, ◌-◌, ◌*◌, ◌/◌, ◌∙◌, ◌≤◌, ℕ, List, Option, Some, None, arith, ap, sym, refl, length, take, drop, not, length-drop, slice_set, [], ◌∷◌}
use Rattle.std.specs.Prelude.{IsSome}
use Rattle.std.proofs.Math.ListN.{length-set}
use Rattle.std.proofs.lemmas.List.{get_or-drop, length-take-le, take_more_set, take_rest}
use Rattle.std.proofs.lemmas.List.Quantifiers.{position-Some}
use Rattle.std.proofs.lemmas.Nat.{mul-le}
use Rattle.std.proofs.Math.Seq.{take-append-add}
use Rattle.hex_codec.proofs.ListLemmas.{put-behind}
use Rattle.hex_core.specs.declared.digit.CheckCase.{CheckCase}
use Rattle.hex_core.specs.Text.{Spells}
use Rattle.hex_codec.specs.Spaced.{is_solid, unspaced}
use Rattle.hex_codec.proofs.SpacedLemmas.{decoded-more, digit-at, length-put, lines-room, more-digits, pair-next, solid-there, unspaced-more, unspaced-start}
use Rattle.hex_codec.proofs.spaced.decode_runs.Goals as goal

there : (o : Option ℕ) → o ≢ None → IsSome o
there (Some i) some = refl
there None some = absurd (some refl)

-- the digits behind those that are decoded have room
room-behind : (c : CheckCase) (s dst : List ℕ) (at done : ℕ) → length (unspaced s) ≡ 2 * length dst → done ≤ length dst
    → Spells c (unspaced (take at s)) (take done dst) → length (unspaced (drop at s)) ≤ 2 * (length dst - done)
room-behind c s dst at done twice room before = omega (arith, twice, before.twice, length-take-le done dst room, unspaced-start at s)

pub decode_lines-requires-clause-room : goal.decode_lines-requires-clause-room
decode_lines-requires-clause-room c =
    let head = c.args.head in lines-room c.args.case c.args.src.now head.len head.gap head.count (length c.args.dst.now) c.requires.lines (omega (arith, c.requires.twice))

pub decode_lines-requires-then-lines-gt0-clause-room : goal.decode_lines-requires-then-lines-gt0-clause-room
decode_lines-requires-then-lines-gt0-clause-room c =
    let s = c.args.src.now in let at = c.runs.at in let done = c.runs.done in let dst = c.runs.dst in let found = c.lines_of-lines.result in let before = c.runs.invariant in
    let lines = rw (take_rest s at) at c.lines_of-lines.ensures in
    let behind = room-behind c.args.case s dst at done (c.requires.twice ∙ ap (λ n. 2 * n) (sym before.same)) before.room before.spelled in
    rw (take_rest dst done, length-drop done dst) (lines-room c.args.case (drop at s) found.len found.gap found.count (length dst - done) lines behind)

pub runs-smaller-then-lines-gt0 : goal.runs-smaller-then-lines-gt0
runs-smaller-then-lines-gt0 c =
    let found = c.lines_of-lines.result in
    let some = mul-le 1 1 found.count (found.len + found.gap) (omega (arith, c.if-lines-gt0.true)) (omega (arith, c.lines_of-lines.ensures.some (omega (arith, c.if-lines-gt0.true)))) in
    omega (arith, some, c.runs-test.true)

pub runs-preserved-then-lines-gt0 : goal.runs-preserved-then-lines-gt0
runs-preserved-then-lines-gt0 c =
    let s = c.args.src.now in let at = c.runs.at in let done = c.runs.done in let dst = c.runs.dst in let found = c.lines_of-lines.result in
    let end = found.count * (found.len + found.gap) in let count = found.count * (found.len / 2) in let part = c.decode_lines-then-lines-gt0.new.dst in
    let before = c.runs.invariant in let lines = rw (take_rest s at) at c.decode_lines-then-lines-gt0.ensures in
    let size : length part ≡ length dst - done = lines.same ∙ rw (take_rest dst done) (length-drop done dst) in
    let same = length-put done (length dst - done) dst part (omega (arith, before.room)) size in
    let front = length-take-le done dst before.room in
    record {
      inside = omega (arith, lines.inside, before.inside, length-drop at s);
      same = same ∙ before.same;
      room = rw same (omega (arith, lines.room, size, before.room));
      spelled = decoded-more c.args.case s dst _ _ (take count part) at (at + end) done (done + count) before.spelled (unspaced-more at end s) lines.spelled
          (ap (take (done + count)) (put-behind done dst part before.room size) ∙ rw front at (take-append-add (take done dst) part count));
    }

pub unwrap-requires : goal.unwrap-requires
unwrap-requires c =
    let s = c.args.src.now in let at = c.runs.at in let before = c.runs.invariant in
    let solid = ap not (sym c.is_ascii_whitespace.ensures.value ∙ c.if-is_ascii_whitespace.false) in
    let more = more-digits c.args.case s c.runs.dst at c.runs.done c.runs-test.true solid (c.requires.twice ∙ ap (λ n. 2 * n) (sym before.same)) before.room before.spelled in
    rw (c.first_solid.ensures, take_rest s (at + 1)) (there _ (solid-there (drop (at + 1) s) more.0))

pub pair_byte-requires-clause-high : goal.pair_byte-requires-clause-high
pair_byte-requires-clause-high c =
    let solid = ap not (sym c.is_ascii_whitespace.ensures.value ∙ c.if-is_ascii_whitespace.false) in
    digit-at c.args.case c.args.src.now c.runs.at c.requires.clean c.runs-test.true solid

pub pair_byte-requires-clause-low : goal.pair_byte-requires-clause-low
pair_byte-requires-clause-low c =
    let s = c.args.src.now in let at = c.runs.at in let i = c.unwrap.result in
    let first = rw (take_rest s (at + 1)) at (sym c.first_solid.ensures ∙ c.unwrap.ensures) in
    let told = position-Some is_solid (drop (at + 1) s) i 0 first in
    digit-at c.args.case s (at + 1 + i) c.requires.clean (omega (arith, told.0, length-drop (at + 1) s)) (rw (get_or-drop (at + 1) s i 0) at told.1)

pub bounds-dst-done : goal.bounds-dst-done
bounds-dst-done c =
    let before = c.runs.invariant in
    let solid = ap not (sym c.is_ascii_whitespace.ensures.value ∙ c.if-is_ascii_whitespace.false) in
    (more-digits c.args.case c.args.src.now c.runs.dst c.runs.at c.runs.done c.runs-test.true solid (c.requires.twice ∙ ap (λ n. 2 * n) (sym before.same)) before.room before.spelled).1

pub runs-preserved : goal.runs-preserved
runs-preserved c =
    let s = c.args.src.now in let at = c.runs.at in let i = c.unwrap.result in let before = c.runs.invariant in
    let dst = c.runs.dst in let done = c.runs.done in let byte = c.pair_byte.result in
    let solid = ap not (sym c.is_ascii_whitespace.ensures.value ∙ c.if-is_ascii_whitespace.false) in
    let more = more-digits c.args.case s dst at done c.runs-test.true solid (c.requires.twice ∙ ap (λ n. 2 * n) (sym before.same)) before.room before.spelled in
    let first = rw (take_rest s (at + 1)) at (sym c.first_solid.ensures ∙ c.unwrap.ensures) in
    let pair = pair-next s at c.runs-test.true solid i first in
    let told = position-Some is_solid (drop (at + 1) s) i 0 first in
    let place : at + (i + 2) ≡ at + 1 + i + 1 = omega arith in
    record {
      inside = omega (arith, told.0, length-drop (at + 1) s);
      same = length-set dst done byte ∙ before.same;
      room = rw (length-set dst done byte) (omega (arith, more.1));
      spelled = rw place at (decoded-more c.args.case s dst (slice_set dst done byte) _ (byte ∷ []) at (at + (i + 2)) done (done + 1) before.spelled (unspaced-more at (i + 2) s) (rw pair c.pair_byte.ensures) (take_more_set dst done byte (omega (arith, more.1))));
    }
