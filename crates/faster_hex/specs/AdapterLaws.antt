-- Facts on the JSON formats that follow from the definitions alone.
use Rattle.std.specs.Prelude.{◌≡◌, ◌≢◌, ◌≤◌, ◌↔◌, ℕ, List, length, Option, Some, None, MatchOption, ⊤}
use Rattle.serde_json.specs.Data.{Data, string}
use Rattle.hex_core.specs.Digit.{strict}
use Rattle.hex_core.specs.Laws.{AreBytes}
use Rattle.faster_hex.specs.declared.adapters.WireFormat.{WireFormat}
use Rattle.faster_hex.specs.declared.adapters.AdapterError.TheVariants.{OverBound}
use Rattle.faster_hex.specs.Adapters.{ReadFailure, Reads, ReadsItsOwn, ReadsOption, Writes, WritesOption, array_read_refusal, wire_text}

-- a bounded read accepts exactly what an unbounded read accepts and what has at most that many bytes
abbrev pub BoundedReadsWhatFits : Type 0
BoundedReadsWhatFits = (p : WireFormat) (max : ℕ) (d : Data) (bytes : List ℕ)
    → Reads p (Some max) d bytes ↔ (Reads p None d bytes × (length bytes ≤ max))

-- a read without a bound never returns `OverBound`
abbrev pub UnboundedHasNoBound : Type 0
UnboundedHasNoBound = (p : WireFormat) (d : Data) (max actual : ℕ)
    → ReadFailure p None d (OverBound max actual)
    → ⊥

-- a read into an array never returns `OverBound`
abbrev pub ArrayHasNoBound : Type 0
ArrayHasNoBound = (p : WireFormat) (n : ℕ) (d : Data) (max actual : ℕ)
    → array_read_refusal p n d ≢ Some (OverBound max actual)

-- if a format accepts what it writes, the value that it writes for a list is read as that list
abbrev pub ReadingInvertsWriting : Type 0
ReadingInvertsWriting = (p : WireFormat) (bytes : List ℕ) (d : Data)
    → ReadsItsOwn p
    → AreBytes bytes
    → Writes p bytes d
    → Reads p None d bytes

-- if a format accepts what it writes, the value that it writes for an optional list is read as that optional
-- list
abbrev pub OptionReadingInvertsWriting : Type 0
OptionReadingInvertsWriting = (p : WireFormat) (bytes : Option (List ℕ)) (d : Data)
    → ReadsItsOwn p
    → MatchOption bytes ⊤ AreBytes
    → WritesOption p bytes d
    → ReadsOption p None d bytes

-- no value is written both for `None` and for a list, not even for the empty list
abbrev pub WritesNoneApart : Type 0
WritesNoneApart = (p : WireFormat) (d : Data) (bytes : List ℕ)
    → WritesOption p None d
    → WritesOption p (Some bytes) d
    → ⊥

-- no value is read both as `None` and as a list
abbrev pub ReadsNoneApart : Type 0
ReadsNoneApart = (p : WireFormat) (max : Option ℕ) (d : Data) (bytes : List ℕ)
    → ReadsOption p max d None
    → ReadsOption p max d (Some bytes)
    → ⊥

-- if a format accepts only the letters that it writes, a value that is read as a list is the value that it
-- writes for it
abbrev pub WritingInvertsStrictReading : Type 0
WritingInvertsStrictReading = (p : WireFormat) (d : Data) (bytes : List ℕ)
    → p.case ≡ strict p.upper
    → Reads p None d bytes
    → d ≡ string (wire_text p bytes)
