-- The first newline is in a block, or behind it.
use Rattle.std.proofs.Common.{rules, tests, length-drop, ◌≡◌, ◌+◌, ◌*◌, ◌/◌, ◌<◌, ◌≤◌, ℕ, List, length, drop, arith, ap, ◌∙◌}
use Rattle.std.specs.List.{position_or_len}
use Rattle.std.specs.Prelude.{not}
use Rattle.std.specs.Simd.Lanes.{chunk}
use Rattle.std.proofs.lemmas.Bool.Decides.{nat_tests}
use Rattle.std.proofs.lemmas.Iterator.{YieldsList-from_slice}
use Rattle.std.proofs.lemmas.Iterator.Search.{position_from_yields_List}
use Rattle.std.proofs.lemmas.List.{take_rest}
use Rattle.std.proofs.lemmas.List.Folds.{prefix_len-append}
use Rattle.std.proofs.lemmas.List.Sums.{prefix_len-le-length}
use Rattle.std.proofs.lemmas.Simd.{chunk-drop, length-chunk}
use Rattle.hex_io.proofs.LineLemmas.{newline}
use Rattle.hex_io.proofs.lines.line_end.Goals as goal

in-block : (s : List ℕ) (at : ℕ) → at + 32 ≤ length s → position_or_len newline (chunk at 32 s) < 32 → position_or_len newline (drop at s) ≡ position_or_len newline (chunk at 32 s)
in-block s at fits found =
    let both = prefix_len-append (λ b. not (newline b)) (chunk at 32 s) (drop (at + 32) s) in
    ap (position_or_len newline) (chunk-drop at 32 s) ∙ grind (arith, nat_tests, both, found, length-chunk at 32 s fits)

behind-block : (s : List ℕ) (at : ℕ) → at + 32 ≤ length s → 32 ≤ position_or_len newline (chunk at 32 s) → position_or_len newline (drop at s) ≡ 32 + position_or_len newline (drop (at + 32) s)
behind-block s at fits none =
    let both = prefix_len-append (λ b. not (newline b)) (chunk at 32 s) (drop (at + 32) s) in
    let most = prefix_len-le-length (λ b. not (newline b)) (chunk at 32 s) in
    ap (position_or_len newline) (chunk-drop at 32 s) ∙ grind (arith, nat_tests, both, most, none, length-chunk at 32 s fits)

pub returns-then-before-lt-LINE_BLOCK-clause-end : goal.returns-then-before-lt-LINE_BLOCK-clause-end
returns-then-before-lt-LINE_BLOCK-clause-end c =
    let found = c.before_newline-before.ensures in
    omega (arith, c.turns.invariant, found, in-block c.args.src.now (32 * c.turns.i) (omega arith) (omega (arith, found)))

pub turns-preserved : goal.turns-preserved
turns-preserved c =
    let next : 32 * c.turns.i + 32 ≡ 32 * (c.turns.i + 1) = omega arith in
    let behind = behind-block c.args.src.now (32 * c.turns.i) (omega arith) (omega (arith, c.before_newline-before.ensures)) in
    rw (← next) (omega (arith, c.turns.invariant, behind))

pub returns-clause-end : goal.returns-clause-end
returns-clause-end c =
    let s = c.args.src.now in let all : c.turns.i ≡ length s / 32 = omega arith in let rest = drop (32 * (length s / 32)) s in
    let yields = YieldsList-from_slice rest (c.iter.ensures.rest ∙ take_rest s (32 * (length s / 32))) in
    let found = position_from_yields_List newline _ _ c.position.result c.position.ensures.ran yields (λ x b q k. search (rules, tests)) in
    let most = prefix_len-le-length (λ b. not (newline b)) rest in
    grind (arith, nat_tests, rw all at c.turns.invariant, found, c.unwrap_or.ensures, most, length-drop (32 * (length s / 32)) s)
