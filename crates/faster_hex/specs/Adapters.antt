-- Bytes in a JSON value: what writing them gives, and what reading them returns, with all errors.
use Rattle.std.specs.Prelude.{◌≡◌, ◌≢◌, ◌<◌, ◌≤◌, ◌^◌, ◌⊎◌, ℕ, ◌/◌, ◌%◌, ◌==◌, nat_lt, if◌then◌else◌, List, [], ◌++◌}
use Rattle.std.specs.Prelude.{length, take, drop, codes, Option, Some, None, option_map, Result, Ok, Err, IfOk}
use Rattle.std.specs.Prelude.{MatchResult, vec_items, ⊤}
use Rattle.std.specs.Option.{ForSome}
use Rattle.std.specs.Str.{bytes_eq}
use Rattle.std.specs.declared.vec.Vec.{Vec}
use Rattle.serde_json.specs.declared.value.Value.{Value}
use Rattle.serde_json.specs.Data.{Data, null, string}
use Rattle.serde_json.specs.Find.{as_str}
use Rattle.serde_json.specs.View.{view}
use Rattle.hex_core.specs.declared.digit.CheckCase.{CheckCase}
use Rattle.hex_core.specs.declared.digit.CheckCase.TheVariants as policy
use Rattle.hex_core.specs.declared.error.Error.TheVariants as codec
use Rattle.hex_core.specs.Digit.{strict}
use Rattle.hex_core.specs.Refusal.{array_refusal, first_invalid_char}
use Rattle.hex_core.specs.Text.{Spells, text}
use Rattle.hex_codec.specs.Failure.{GrowthFailure}
use Rattle.faster_hex.specs.declared.adapters.WireFormat.{WireFormat}
use Rattle.faster_hex.specs.declared.adapters.AdapterError.{AdapterError}
use Rattle.faster_hex.specs.declared.adapters.AdapterError.TheVariants.{NotText, InvalidPrefix, InvalidLength, OverBound, Codec}

-- the bytes before the digits: `0x`, or nothing
abbrev pub prefix : WireFormat → List ℕ
prefix p = if p.prefixed then codes "0x" else []

-- the text of a list: the prefix and then the digits
abbrev pub wire_text : WireFormat → List ℕ → List ℕ
wire_text p bytes = prefix p ++ text p.upper bytes

-- a format accepts what it writes: it accepts both letter cases, or the case that it writes
abbrev pub ReadsItsOwn : WireFormat → Type 0
ReadsItsOwn p = (p.case ≡ policy.None) ⊎ (p.case ≡ strict p.upper)

-- the value is the one written for a list: its text as a string, whose length fits `usize`
abbrev pub Writes : WireFormat → List ℕ → Data → Type 0
Writes p bytes d = (length (wire_text p bytes) < 2 ^ 64) × (d ≡ string (wire_text p bytes))

-- the value is the one written for an optional list: `null` for `None`, and otherwise as `Writes` says
abbrev pub WritesOption : WireFormat → Option (List ℕ) → Data → Type 0
WritesOption p None d = d ≡ null
WritesOption p (Some bytes) d = Writes p bytes d

-- an error of writing a list: one of making its text in new memory
abbrev pub WriteFailure : WireFormat → List ℕ → AdapterError → Type 0
WriteFailure p bytes (Codec e) = GrowthFailure 0 (length (wire_text p bytes)) e
WriteFailure p bytes _ = ⊥

-- an error of writing an optional list, which `None` never has
abbrev pub OptionWriteFailure : WireFormat → Option (List ℕ) → AdapterError → Type 0
OptionWriteFailure p None e = ⊥
OptionWriteFailure p (Some bytes) e = WriteFailure p bytes e

-- the text after the prefix of a format, or `None` if the prefix is missing
abbrev pub payload : WireFormat → List ℕ → Option (List ℕ)
payload p t = if bytes_eq (take (length (prefix p)) t) (prefix p) then Some (drop (length (prefix p)) t) else None

-- the payload of a text, or the first error: the prefix is missing, or the length of the payload is odd
abbrev pub even_payload : Option (List ℕ) → Result (List ℕ) AdapterError
even_payload None = Err InvalidPrefix
even_payload (Some s) = if length s % 2 == 1 then Err InvalidLength else Ok s

-- the payload of the text of a value, or the first error: the value is no string, or an error of its text
abbrev pub payload_of_text : WireFormat → Option (List ℕ) → Result (List ℕ) AdapterError
payload_of_text p None = Err NotText
payload_of_text p (Some t) = even_payload (payload p t)

-- the payload of a value, or the first error
abbrev pub payload_in : WireFormat → Data → Result (List ℕ) AdapterError
payload_in p d = payload_of_text p (as_str d)

-- n bytes are within the bound, if there is one
abbrev pub Within : Option ℕ → ℕ → Type 0
Within None n = ⊤
Within (Some max) n = n ≤ max

-- the error of reading a payload: more bytes than the bound, else the first invalid byte
abbrev pub refusal_of_payload : Option ℕ → CheckCase → List ℕ → Option AdapterError
refusal_of_payload None c s = option_map Codec (first_invalid_char c s)
refusal_of_payload (Some max) c s =
    if nat_lt max (length s / 2) then Some (OverBound max (length s / 2))
    else option_map Codec (first_invalid_char c s)

-- the error of a value: that of finding its payload, else that of the payload
abbrev pub refusal_of : (List ℕ → Option AdapterError) → Result (List ℕ) AdapterError → Option AdapterError
refusal_of refuses (Err e) = Some e
refusal_of refuses (Ok s) = refuses s

-- the error of reading a value within a bound, except for a failed allocation
abbrev pub read_refusal : WireFormat → Option ℕ → Data → Option AdapterError
read_refusal p max d = refusal_of (refusal_of_payload max p.case) (payload_in p d)

-- the error of reading a value into an array of n bytes: a payload of another length, else the first invalid
-- byte
abbrev pub array_read_refusal : WireFormat → ℕ → Data → Option AdapterError
array_read_refusal p n d = refusal_of (λ s. option_map Codec (array_refusal p.case s n)) (payload_in p d)

-- the value is read as the list: its payload spells the list, which is within the bound
pub record Reads (p : WireFormat) (max : Option ℕ) (d : Data) (bytes : List ℕ) : Type 0 where
  pub payload : List ℕ
  pub is_payload : payload_in p d ≡ Ok payload
  pub spelled : Spells p.case payload bytes
  pub within : Within max (length bytes)

-- the value is read as the optional list: `null` as `None`, and any other value as `Reads` says
abbrev pub ReadsOption : WireFormat → Option ℕ → Data → Option (List ℕ) → Type 0
ReadsOption p max d None = d ≡ null
ReadsOption p max d (Some bytes) = Reads p max d bytes

-- an allocation may fail: the payload is within the bound and not empty
pub record WantsMemory (p : WireFormat) (max : Option ℕ) (d : Data) : Type 0 where
  pub payload : List ℕ
  pub is_payload : payload_in p d ≡ Ok payload
  pub within : Within max (length payload / 2)
  pub nonempty : 0 < length payload

-- an error of reading: a failed allocation, or the error of `read_refusal`
abbrev pub ReadFailure : WireFormat → Option ℕ → Data → AdapterError → Type 0
ReadFailure p max d (Codec codec.OutOfMemory) = WantsMemory p max d
ReadFailure p max d e = read_refusal p max d ≡ Some e

-- writing a list: the result is its value, or an error of `WriteFailure`
abbrev pub AnswersWrite : WireFormat → List ℕ → Result Value AdapterError → Type 0
AnswersWrite p bytes result = MatchResult result (λ value. Writes p bytes (view value)) (λ e. WriteFailure p bytes e)

-- writing an optional list: the result is its value, or an error of `OptionWriteFailure`
abbrev pub AnswersOptionWrite : WireFormat → Option (List ℕ) → Result Value AdapterError → Type 0
AnswersOptionWrite p bytes result = MatchResult result (λ value. WritesOption p bytes (view value)) (λ e. OptionWriteFailure p bytes e)

-- if writing a list succeeds, the value is read as that list
abbrev pub IsReadBack : WireFormat → List ℕ → Result Value AdapterError → Type 0
IsReadBack p bytes result = IfOk result (λ value. Reads p None (view value) bytes)

-- if writing an optional list succeeds, the value is read as that optional list
abbrev pub OptionIsReadBack : WireFormat → Option (List ℕ) → Result Value AdapterError → Type 0
OptionIsReadBack p bytes result = IfOk result (λ value. ReadsOption p None (view value) bytes)

-- reading within a bound: the result is the list as which the value is read, or an error of `ReadFailure`
abbrev pub AnswersRead : {A : Type 0} → WireFormat → Option ℕ → Value → Result (Vec ℕ A) AdapterError → Type 0
AnswersRead p max value result = MatchResult result
    (λ bytes. Reads p max (view value) (vec_items bytes))
    (λ e. ReadFailure p max (view value) e)

-- reading an optional list within a bound: the result is `None` exactly for `null`, and otherwise as in
-- `AnswersRead`
abbrev pub AnswersOptionRead : {A : Type 0} → WireFormat → Option ℕ → Value → Result (Option (Vec ℕ A)) AdapterError → Type 0
AnswersOptionRead p max value result = MatchResult result
    (λ read. ReadsOption p max (view value) (option_map vec_items read))
    (λ e. (view value ≢ null) × ReadFailure p max (view value) e)

-- reading an array of n bytes: the result is the list as which the value is read, or the error of
-- `array_read_refusal`
abbrev pub AnswersArrayRead : WireFormat → ℕ → Value → Result (List ℕ) AdapterError → Type 0
AnswersArrayRead p n value result = MatchResult result
    (λ bytes. Reads p None (view value) bytes)
    (λ e. array_read_refusal p n (view value) ≡ Some e)

-- reading an optional array of n bytes: the result is `None` exactly for `null`, and otherwise as in
-- `AnswersArrayRead`
abbrev pub AnswersOptionArrayRead : WireFormat → ℕ → Value → Result (Option (List ℕ)) AdapterError → Type 0
AnswersOptionArrayRead p n value result = MatchResult result
    (λ read. ReadsOption p None (view value) read)
    (λ e. (view value ≢ null) × (array_read_refusal p n (view value) ≡ Some e))

-- if the value is read as a list of n bytes, reading it into an array of n bytes returns that list
abbrev pub ArrayIsRead : WireFormat → ℕ → Value → Result (List ℕ) AdapterError → Type 0
ArrayIsRead p n value result = (bytes : List ℕ) → Reads p None (view value) bytes → length bytes ≡ n → result ≡ Ok bytes

-- if the value is read as `None` or as a list of n bytes, reading an optional array of n bytes returns this
abbrev pub OptionArrayIsRead : WireFormat → ℕ → Value → Result (Option (List ℕ)) AdapterError → Type 0
OptionArrayIsRead p n value result = (bytes : Option (List ℕ)) → ReadsOption p None (view value) bytes
    → ForSome bytes (λ read. length read ≡ n) → result ≡ Ok bytes

-- if the value is read as a list within the bound, reading it into a new vector returns that list, or the
-- allocation failed
abbrev pub VecIsRead : {A : Type 0} → WireFormat → Option ℕ → Value → Result (Vec ℕ A) AdapterError → Type 0
VecIsRead p max value result = (bytes : List ℕ) → Reads p None (view value) bytes → Within max (length bytes)
    → MatchResult result (λ read. vec_items read ≡ bytes) (λ e. e ≡ Codec codec.OutOfMemory)

-- if the value is read as `None` or as a list within the bound, reading an optional vector returns this, or
-- the allocation failed
abbrev pub OptionVecIsRead : {A : Type 0} → WireFormat → Option ℕ → Value → Result (Option (Vec ℕ A)) AdapterError → Type 0
OptionVecIsRead p max value result = (bytes : Option (List ℕ)) → ReadsOption p None (view value) bytes
    → ForSome bytes (λ read. Within max (length read))
    → MatchResult result (λ read. option_map vec_items read ≡ bytes) (λ e. e ≡ Codec codec.OutOfMemory)
