-- `hex_decode_with_case` decodes under the plain plan.
use Rattle.hex_core.proofs.SliceWalk.Kit.{refl, length, sem, Decodes, DecodesFront, LendsAnswer}
use Rattle.hex_core.proofs.SliceWalk.Types.{Policy}
use Rattle.hex_core.proofs.SliceWalk.{with_argument}
use Rattle.hex_core.proofs.backend.Backend.decode_slice.Met as g_met
use Rattle.hex_codec.proofs.SpelledLemmas.{also, lent_spelled}
use Rattle.hex_codec.specs.contracts.decode.hex_decode_with_case as f
use Rattle.hex_codec.proofs.decode.hex_decode_with_case.Statement.{statement}
use Rattle.hex_codec.proofs.decode.hex_decode_with_case.Code as code

pub hex_decode_with_case_spec : {M : Type 1} → statement M
hex_decode_with_case_spec 𝓤 𝓛 𝓜 𝓡 wired =
    with_argument Policy Decodes DecodesFront 𝓤 𝓛 𝓜 𝓡 _ (code.calls-hex_core::backend::Backend::plain 𝓡.env wired)
    (g_met.met 𝓤 𝓛 𝓜 𝓡 (code.calls-hex_core::backend::Backend::decode_slice 𝓡.env wired)) (λ κs x f. refl) (λ x. tt)
    (f.clauses 𝓛 𝓜.mem 𝓡.returns)
    (λ κs a _ r ws. also 𝓤 (sem 𝓛 (LendsAnswer a.1.0 r)) _ _ (lent_spelled a.1.1.0 a.0.now (length a.1.0.now) r)) _ (code.unfolded 𝓤 𝓛.H 𝓜 𝓡 wired)
