-- `hex_encode` writes lowercase under the plain plan.
use Rattle.hex_core.proofs.SliceWalk.Kit.{refl, id⊢, false_lit, of_opd, bool_vals, bool_Makes, Encodes, EncodesFront}
use Rattle.hex_core.proofs.SliceWalk.Types.{Letters}
use Rattle.hex_core.proofs.SliceWalk.{with_constant}
use Rattle.hex_core.proofs.backend.Backend.encode_slice.Met as g_met
use Rattle.hex_core.specs.Text.{lowercase}
use Rattle.hex_codec.specs.contracts.encode.hex_encode as f
use Rattle.hex_codec.proofs.encode.hex_encode.Statement.{statement}
use Rattle.hex_codec.proofs.encode.hex_encode.Code as code

pub hex_encode_spec : {M : Type 1} → statement M
hex_encode_spec 𝓤 𝓛 𝓜 𝓡 wired =
    with_constant Letters Encodes EncodesFront 𝓤 𝓛 𝓜 𝓡 _ (code.calls-hex_core::backend::Backend::plain 𝓡.env wired)
    (g_met.met 𝓤 𝓛 𝓜 𝓡 (code.calls-hex_core::backend::Backend::encode_slice 𝓡.env wired)) lowercase _ (λ K Γ E t. of_opd t (false_lit t))
    (bool_Makes 𝓛 lowercase (bool_vals lowercase) refl)
    (f.clauses 𝓛 𝓜.mem 𝓡.returns) (λ κs a _ r ws. id⊢ 𝓤 _) _ (code.unfolded 𝓤 𝓛.H 𝓜 𝓡 wired)
