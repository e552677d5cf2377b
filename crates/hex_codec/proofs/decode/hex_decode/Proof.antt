-- `hex_decode` accepts both cases under the plain plan.
use Rattle.hex_core.proofs.SliceWalk.Kit.{length, sem, agg, lit, and_then, no_more, Decodes, DecodesFront, LendsAnswer}
use Rattle.hex_core.proofs.SliceWalk.Types.{Policy, vals}
use Rattle.hex_core.proofs.SliceWalk.{with_constant}
use Rattle.hex_core.proofs.backend.Backend.decode_slice.Met as g_met
use Rattle.hex_core.specs.contracts.digit.CheckCase as CC
use Rattle.hex_core.proofs.digit.CheckCase.TheLaws as CL
use Rattle.hex_core.specs.declared.digit.CheckCase.TheVariants as policy
use Rattle.hex_codec.proofs.SpelledLemmas.{also, lent_spelled}
use Rattle.hex_codec.specs.contracts.decode.hex_decode as f
use Rattle.hex_codec.proofs.decode.hex_decode.Statement.{statement}
use Rattle.hex_codec.proofs.decode.hex_decode.Code as code
use denote.Enum.Laws as enum_laws

pub hex_decode_spec : {M : Type 1} → statement M
hex_decode_spec 𝓤 𝓛 𝓜 𝓡 wired =
    with_constant Policy Decodes DecodesFront 𝓤 𝓛 𝓜 𝓡 _ (code.calls-hex_core::backend::Backend::plain 𝓡.env wired)
    (g_met.met 𝓤 𝓛 𝓜 𝓡 (code.calls-hex_core::backend::Backend::decode_slice 𝓡.env wired)) policy.None _ (λ K Γ E t. agg t (and_then t (lit t tt) (no_more t)))
    (enum_laws.makes CC.the_type CL.the_plain 𝓛 policy.None (vals Policy policy.None) (enum_laws.owes CC.the_type CL.the_laws policy.None tt))
    (f.clauses 𝓛 𝓜.mem 𝓡.returns)
    (λ κs a _ r ws. also 𝓤 (sem 𝓛 (LendsAnswer a.1.0 r)) _ _ (lent_spelled policy.None a.0.now (length a.1.0.now) r)) _ (code.unfolded 𝓤 𝓛.H 𝓜 𝓡 wired)
