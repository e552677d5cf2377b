-- `decode_slice` decodes, and then lends the front.
use Rattle.hex_core.proofs.SliceWalk.Kit.{refl, Decodes, DecodesFront}
use Rattle.hex_core.proofs.SliceWalk.Types.{Policy}
use Rattle.hex_core.proofs.SliceWalk.{fills_writes, writes_and_lends}
use Rattle.hex_core.proofs.backend.Backend.decode_into.Met as g_met
use Rattle.hex_core.proofs.backend.Backend.decode_slice.Statement.{statement}
use Rattle.hex_core.proofs.backend.Backend.decode_slice.Code as code

pub decode_slice_spec : {M : Type 1} → statement M
decode_slice_spec 𝓤 𝓛 𝓜 𝓡 wired =
    writes_and_lends Policy Decodes DecodesFront (λ c s old. fills_writes _ _ old) 𝓤 𝓛 𝓜 𝓡 (λ κs x f. refl) (λ x. tt) _ _
    (code.unfolded 𝓤 𝓛.H 𝓜 𝓡 wired) (g_met.met 𝓤 𝓛 𝓜 𝓡 (code.calls-hex_core::backend::Backend::decode_into 𝓡.env wired))
