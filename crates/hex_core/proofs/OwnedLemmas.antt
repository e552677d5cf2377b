-- What decoding block by block leaves where a source is refused.
use Rattle.std.proofs.Common.{◌≡◌, ℕ, ◌+◌, ◌-◌, ◌*◌, ◌/◌, ◌<◌, ◌≤◌, List, ◌++◌, length, take, drop, get_or, inl, inr}
use Rattle.std.proofs.Common.{refl, sym, ap, ◌∙◌, Option, Some, None, Bool, true, false, arith}
use Rattle.std.specs.Prelude.{slice_range, unwrap_or, option_map}
use borrow.Rule.Slice.PartMut.{put_mid}
use Rattle.std.proofs.lemmas.Bool.{cases_lt}
use Rattle.std.proofs.lemmas.Grind.{common_steps, same_number_lists}
use Rattle.std.proofs.lemmas.Nat.{div-mul-add}
use Rattle.std.proofs.lemmas.List.{ext_get_or, get_or-drop, get_or-take, length-take-le, take-append-drop}
use Rattle.hex_core.specs.declared.digit.CheckCase.{CheckCase}
use Rattle.hex_core.specs.inside.Blocks.{DecodesAt, DecodesRange}
use Rattle.hex_core.specs.Calls.{DecodesWhole}
use Rattle.hex_core.specs.Search.{AllValid, first_invalid}
use Rattle.hex_core.specs.Plans.{StoresBlocks}
use Rattle.hex_core.specs.Text.{Spells, with_front}
use Rattle.hex_core.proofs.BlockLemmas.{decodes_next, decodes_over, decodes_whole, valid_over, valid_whole}
use Rattle.hex_core.proofs.SearchLemmas.{first_is_first, part_valid, valid_before, valid_misses, valid_part}
use Rattle.hex_core.proofs.SpellsLemmas.{front_spells, spelled_along}

-- ---- a part of a source, decoded over a part of a destination

pub part_decodes : (c : CheckCase) (s old part : List ℕ) (at size : ℕ) (done : Bool) → length s ≡ 2 * length old → at + size ≤ length old → length part ≡ size
    → DecodesWhole c (slice_range s (2 * at) (2 * (at + size))) (slice_range old at (at + size)) part done → DecodesAt c s old (put_mid at (at + size - at) old part) at size done
part_decodes c s old part at size true twice inside long answer = (
  (λ t k low lt. valid_part c s (2 * at) (2 * (at + size)) (omega arith) answer.0 k low (omega arith), λ valid. refl),
  record {
    decoded = λ k low lt. spelled_along (answer.1.each (k - at) (omega arith)) (grind (arith, common_steps)) (grind (arith, common_steps)) (grind (arith, common_steps));
    before = λ k lt. grind (arith, common_steps);
    behind = λ k le. grind (arith, common_steps);
  },
  tt,
)
part_decodes c s old part at size false twice inside long answer = (
  (λ t. cc, λ valid. absurd (answer.0 (part_valid c s (2 * at) (2 * (at + size)) (omega arith) (λ k low lt. valid k low (omega arith))))),
  tt,
  same_number_lists _ old (grind (arith, common_steps)) (λ k lt. grind (arith, common_steps, answer.1)),
)

-- ---- whole blocks

-- the first blocks of a source are valid, and were decoded
pub record BlocksDone (c : CheckCase) (size i : ℕ) (s old new : List ℕ) : Type 0 where
  pub valid : AllValid c s 0 (2 * (i * size))
  pub decoded : DecodesRange c s old new 0 (i * size)

pub one_more : {c : CheckCase} {size i : ℕ} {s old mid new : List ℕ} → BlocksDone c size i s old mid → AllValid c s (2 * (i * size)) (2 * (i * size) + 2 * size) → DecodesRange c s mid new (i * size) (i * size + size)
    → BlocksDone c size (i + 1) s old new
one_more {c} {size} {i} {s} blocks valid decoded = record {
  valid = λ k low lt. valid_over c s 0 (2 * (i * size)) (2 * (i * size)) (2 * (i * size) + 2 * size) (omega arith) blocks.valid valid k low (omega arith);
  decoded = decodes_next i size blocks.decoded decoded;
}

-- with what is behind them, all of it
pub all_done : {c : CheckCase} {size i : ℕ} {s old mid new : List ℕ} (rest : ℕ) → BlocksDone c size i s old mid → AllValid c s (2 * (i * size)) (2 * (i * size) + 2 * rest) → DecodesRange c s mid new (i * size) (i * size + rest)
    → i * size + rest ≡ length new → length s ≡ 2 * length new → (first_invalid c s ≡ None) × Spells c s new
all_done {c} {size} {i} {s} rest blocks valid decoded all twice =
    let done = i * size in (
      (valid_whole c s (2 * done + 2 * rest) (omega arith)).0 (valid_over c s 0 (2 * done) (2 * done) (2 * done + 2 * rest) (omega arith) blocks.valid valid),
      decodes_whole (decodes_over blocks.decoded decoded (omega arith) (omega arith) (omega arith)) all twice,
    )

-- ---- what a refusal leaves

-- the first invalid byte is in the block behind those that were decoded
digits_are : {c : CheckCase} {size i : ℕ} {s old new : List ℕ} (o : Option ℕ) → first_invalid c s ≡ o → ¬ (o ≡ None) → 0 < size → BlocksDone c size i s old new
    → (2 * (i * size) + 2 * size ≤ length s → ¬ AllValid c s (2 * (i * size)) (2 * (i * size) + 2 * size))
    → unwrap_or (option_map (λ f. 2 * size * (f / (2 * size))) o) 0 ≡ 2 * (i * size)
digits_are {c} {size} {i} {s} (Some f) e bad some blocks stopped =
    let done = i * size in
    let inside = (first_is_first c s f e).0 in
    let low = valid_misses c s f 0 (2 * done) e blocks.valid (omega arith) in
    let high : f < 2 * done + 2 * size = elim (cases_lt f (2 * done + 2 * size)) [
      | inl lt ↦ lt
      | inr past ↦ absurd (stopped (omega arith) (λ k a b. valid_before c s f e k (omega arith) (omega arith)))
    ] in
    let same : f / (2 * size) ≡ i = ap (λ n. n / (2 * size)) (omega arith) ∙ div-mul-add i (2 * size) (f - i * (2 * size)) (omega arith) in
    ap (λ n. 2 * size * n) same ∙ omega arith
digits_are None e bad some blocks stopped = absurd (bad refl)

front_kept : (old mid : List ℕ) (from : ℕ) → length mid ≡ length old → from ≤ length mid → ((k : ℕ) → from ≤ k → get_or mid k 0 ≡ get_or old k 0)
    → mid ≡ with_front old (take from mid)
front_kept old mid from same inside behind =
    let back : drop from mid ≡ drop from old = ext_get_or 0 (drop from mid) (drop from old) (grind (arith, common_steps)) (λ i h.
    get_or-drop from mid i 0 ∙ behind (from + i) (omega arith) ∙ sym (get_or-drop from old i 0)) in
    sym (take-append-drop from mid) ∙ ap (λ l. take from mid ++ l) (back ∙ ap (λ n. drop n old) (sym (length-take-le from mid inside)))

pub blocks_stored : {c : CheckCase} {size i : ℕ} {s old new : List ℕ} → BlocksDone c size i s old new → length s ≡ 2 * length new → length new ≡ length old → 0 < size → i * size ≤ length new → ¬ (first_invalid c s ≡ None)
    → (2 * (i * size) + 2 * size ≤ length s → ¬ AllValid c s (2 * (i * size)) (2 * (i * size) + 2 * size)) → StoresBlocks (2 * size) c s old new
blocks_stored {c} {size} {i} {s} {old} {new} blocks twice same some inside bad stopped =
    let done = i * size in
    record {
      bytes = take done new;
      spelled = rw (digits_are (first_invalid c s) refl bad some blocks stopped)
          (front_spells c s (take (2 * done) s) new done (length-take-le (2 * done) s (omega arith)) inside (λ k lt. get_or-take (2 * done) s k 0 lt)
          (λ k lt. blocks.decoded.decoded k (omega arith) lt));
      fronted = front_kept old new done same inside blocks.decoded.behind;
    }
