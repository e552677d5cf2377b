-- The text of a value is the prefix and a payload that is the text of what it spells.
use Rattle.std.proofs.Common.{◌≡◌, ◌++◌, ℕ, ◌%◌, ◌==◌, Bool, true, false, List, length, take, drop, Some}
use Rattle.std.proofs.Common.{None, Ok, Err, refl, sym, ap, ◌∙◌, subst, take-append-drop, if◌then◌else◌}
use Rattle.std.proofs.lemmas.Slice.Eq.{bytes_eq-Decides}
use Rattle.std.specs.Str.{bytes_eq}
use Rattle.serde_json.specs.Data.{Data, null, boolean, number, string, array, object}
use Rattle.hex_core.specs.Digit.{strict}
use Rattle.hex_core.specs.Laws.{EncodingInvertsStrictDecoding}
use Rattle.hex_core.specs.Text.{Spells}
use Rattle.faster_hex.specs.declared.adapters.WireFormat.{WireFormat}
use Rattle.faster_hex.specs.declared.adapters.AdapterError.TheVariants.{InvalidLength}
use Rattle.faster_hex.specs.Adapters.{Reads, even_payload, prefix, wire_text}
use Rattle.faster_hex.proofs.laws.strict_writing_inverts_reading.Goals as goal

-- the payload that was read is what stands behind the prefix
whole : (odd : Bool) (found payload : List ℕ) → (if odd then Err InvalidLength else Ok found) ≡ Ok payload → found ≡ payload
whole true found payload e = cc
whole false found payload e = cc

parts : (pre t payload : List ℕ) (begins : Bool) → bytes_eq (take (length pre) t) pre ≡ begins → even_payload (if begins then Some (drop (length pre) t) else None) ≡ Ok payload → t ≡ pre ++ payload
parts pre t payload true is e =
    let front : take (length pre) t ≡ pre = (bytes_eq-Decides (take (length pre) t) pre).0 is in
    let back = whole (length (drop (length pre) t) % 2 == 1) (drop (length pre) t) payload e in
    sym (take-append-drop (length pre) t) ∙ ap (λ l. l ++ drop (length pre) t) front ∙ ap (λ l. pre ++ l) back
parts pre t payload false is e = cc

written : EncodingInvertsStrictDecoding → (p : WireFormat) (d : Data) (bytes : List ℕ) → p.case ≡ strict p.upper → Reads p None d bytes → d ≡ string (wire_text p bytes)
written law p null bytes same h = absurd (cc h.is_payload)
written law p (boolean b) bytes same h = absurd (cc h.is_payload)
written law p (number n) bytes same h = absurd (cc h.is_payload)
written law p (array ds) bytes same h = absurd (cc h.is_payload)
written law p (object ms) bytes same h = absurd (cc h.is_payload)
written law p (string t) bytes same h =
    let spelled = law p.upper h.payload bytes (subst (λ c. Spells c h.payload bytes) same h.spelled) in
    ap string (parts (prefix p) t h.payload (bytes_eq (take (length (prefix p)) t) (prefix p)) refl h.is_payload ∙ ap (λ l. prefix p ++ l) (sym spelled))

pub returns : goal.returns
returns c = record { inverts = written c.encoding_inverts_strict_decoding.ensures.inverts }
