use Rattle.std.proofs.Common.{rules, arith, ap, sym, ◌≡◌, ◌++◌, ◌-◌, ◌/◌, ◌%◌, ℕ, List, [], length, refl, take}
use Rattle.std.proofs.Common.{drop, take-append-drop}
use Rattle.std.specs.Option.{option_to_list}
use Rattle.std.proofs.lemmas.List.{length-take-le}
use Rattle.hex_core.proofs.JoinLemmas.{valid-parts}
use Rattle.hex_io.proofs.DecoderLemmas.{spells-but, spells-none}
use Rattle.hex_io.proofs.stream.decoder.decode_pairs_of.Goals as goal

-- where the whole pairs end
abbrev end_of : List ℕ → ℕ
end_of s = length s - length s % 2

pub returns-in_err-waiting : goal.returns-in_err-waiting
returns-in_err-waiting c =
    let s = c.args.src.now in let end = end_of s in
    rw c.from_residual.ensures (λ none. c.in_err-waiting.ensures (valid-parts c.args.case (take end s) (drop end s) (rw (take-append-drop end s) none)).1, refl)

pub returns-then-end-eq0 : goal.returns-then-end-eq0
returns-then-end-eq0 c =
    let none : end_of c.args.src.now ≡ 0 = search rules in let last = rw none at c.in_ok-waiting.ensures in
    ([], rw (← last.0) (spells-none c.args.case c.in_ok-waiting.waiting last.1), refl)

pub returns-then-not-decode : goal.returns-then-not-decode
returns-then-not-decode c =
    let s = c.args.src.now in let end = end_of s in (
      λ none. c.if-not-decode.ensures.answer.0 (valid-parts c.args.case (take end s) (drop end s) (rw (take-append-drop end s) none)).0,
      rw c.if-not-decode.ensures.answer.1 (take-append-drop (end / 2) c.args.dst.now),
    )

pub returns : goal.returns
returns c =
    let s = c.args.src.now in let end = end_of s in let last = c.in_ok-waiting.ensures in let waiting = c.in_ok-waiting.waiting in
    let parts : s ≡ take end s ++ option_to_list waiting = rw last.0 (sym (take-append-drop end s)) in
    let size = length-take-le end s (omega arith) in
    let long : end / 2 ≡ length c.decode.new.dst = omega (arith, size, c.if-not-decode.ensures.answer.1.twice) in (
      c.decode.new.dst,
      spells-but _ _ _ c.decode.new.dst waiting parts c.if-not-decode.ensures.answer.1 last.1,
      ap (λ k. c.decode.new.dst ++ drop k c.args.dst.now) long,
    )
