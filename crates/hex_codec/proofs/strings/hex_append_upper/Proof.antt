-- `hex_append_upper` appends in uppercase.
use Rattle.hex_core.proofs.SliceWalk.Kit.{true_lit}
use Rattle.hex_core.specs.Text.{uppercase}
use Rattle.hex_codec.proofs.AppendWalk.{passes_on}
use Rattle.hex_codec.proofs.strings.append_in.Met as h_met
use Rattle.hex_codec.proofs.strings.hex_append_upper.Statement.{statement}
use Rattle.hex_codec.proofs.strings.hex_append_upper.Code as code

pub hex_append_upper_spec : {M : Type 1} → statement M
hex_append_upper_spec 𝓤 𝓛 𝓜 𝓡 wired A LA g d dd mA mG =
    passes_on 𝓤 𝓛 𝓜 𝓡 A g d dd uppercase _ (λ K Γ E t. true_lit t) _ _ _ _ (code.unfolded 𝓤 𝓛.H 𝓜 𝓡 wired (A, tt) d dd)
    (h_met.met 𝓤 𝓛 𝓜 𝓡 (code.calls-hex_codec::strings::append_in 𝓡.env wired) A LA g d dd mA mG)
