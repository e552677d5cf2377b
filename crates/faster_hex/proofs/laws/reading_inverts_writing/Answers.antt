-- Behind the prefix stands the text of the bytes, which the format's own policy reads.
use Rattle.std.proofs.Common.{◌≡◌, inl, inr, ℕ, Bool, true, false, List, Some, None, Ok, refl, subst, sym, arith}
use Rattle.std.proofs.lemmas.Bool.Decides.{nat_tests}
use Rattle.hex_core.specs.Laws.{AreBytes, DecodingInvertsEncoding}
use Rattle.hex_core.specs.Text.{Spells, text}
use Rattle.hex_core.proofs.TextLemmas.{length-text}
use Rattle.serde_json.specs.Data.{string}
use Rattle.faster_hex.specs.declared.adapters.WireFormat.{WireFormat}
use Rattle.faster_hex.specs.AdapterLaws.{OptionReadingInvertsWriting, ReadingInvertsWriting}
use Rattle.faster_hex.specs.Adapters.{ReadsItsOwn, payload_in, wire_text}
use Rattle.faster_hex.proofs.laws.reading_inverts_writing.Goals as goal

own : DecodingInvertsEncoding → (p : WireFormat) (bytes : List ℕ) → ReadsItsOwn p → AreBytes bytes → Spells p.case (text p.upper bytes) bytes
own law p bytes (inl either) all = subst (λ c. Spells c (text p.upper bytes) bytes) (sym either) (law p.upper bytes all).1
own law p bytes (inr strict) all = subst (λ c. Spells c (text p.upper bytes) bytes) (sym strict) (law p.upper bytes all).0

behind : (p : WireFormat) (bytes : List ℕ) → payload_in p (string (wire_text p bytes)) ≡ Ok (text p.upper bytes)
behind p bytes = by_prefix p.prefixed refl
  where
    by_prefix : (b : Bool) → p.prefixed ≡ b → payload_in p (string (wire_text p bytes)) ≡ Ok (text p.upper bytes)
    by_prefix true is = let even = length-text p.upper bytes in rw is (grind (arith, nat_tests))
    by_prefix false is = let even = length-text p.upper bytes in rw is (grind (arith, nat_tests))

read : DecodingInvertsEncoding → ReadingInvertsWriting
read law p bytes d own_case all (few, is) =
    record { payload = text p.upper bytes; is_payload = rw is (behind p bytes); spelled = own law p bytes own_case all; within = tt }

read_option : ReadingInvertsWriting → OptionReadingInvertsWriting
read_option law p None d own_case all writes = writes
read_option law p (Some bytes) d own_case all writes = law p bytes d own_case all writes

pub returns : goal.returns
returns c = let law = read c.decoding_inverts_encoding.ensures.inverts in record { bytes = law; option = read_option law }
