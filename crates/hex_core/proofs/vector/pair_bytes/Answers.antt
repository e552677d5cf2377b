use Rattle.std.proofs.Common.{◌*◌, ◌/◌, ◌%◌, ◌^◌, arith, ◌∙◌}
use Rattle.std.proofs.lemmas.List.{map-id}
use Rattle.std.proofs.lemmas.Simd.{shifts_fit_splat}
use Rattle.hex_core.proofs.LaneLemmas.{pair_bytes_fit, splat_twice}
use Rattle.hex_core.proofs.PairLemmas.{packs_words}
use Rattle.hex_core.proofs.vector.pair_bytes.Goals as goal

pub overflow_shr-result : goal.overflow_shr-result
overflow_shr-result g c = shifts_fit_splat 16 _ g.row.N 8 (omega arith)

pub overflow_cast-result : goal.overflow_cast-result
overflow_cast-result g c = rw (splat_twice (λ a b. a * b % 2 ^ 16) (λ a b. a / 2 ^ b) c.args.v g.row.N 4097 8 c.fits-v.0) (pair_bytes_fit c.args.v)

pub returns : goal.returns
returns g c nibbles long small words =
    map-id _ ∙ splat_twice (λ a b. a * b % 2 ^ 16) (λ a b. a / 2 ^ b) c.args.v g.row.N 4097 8 c.fits-v.0 ∙ rw words (packs_words g.row.N nibbles long small)
