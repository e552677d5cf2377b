use Rattle.std.proofs.lemmas.Simd.{map-map, zip2-map}
use Rattle.hex_core.proofs.ByteLemmas.{admitted_mask, mask_below}
use Rattle.hex_core.proofs.digit_lanes.admitted.Goals as goal

pub returns-clause-mask : goal.returns-clause-mask
returns-clause-mask g c =
    admitted_mask c.args.case c.args.v c.min.result c.zero_bits.result c.fits-v.1
    (simp (c.min.ensures, c.saturating_sub-digits.ensures, c.saturating_sub-past.ensures, c.wrapping_sub.ensures, c.letters.ensures, map-map, zip2-map))
    c.zero_bits.ensures

pub returns-clause-below : goal.returns-clause-below
returns-clause-below g c = mask_below c.args.case c.args.v c.zero_bits.result g.row.N (returns-clause-mask g c) c.fits-v.0
