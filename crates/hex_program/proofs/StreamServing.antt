-- What a run put, and how it ends, is how `fhex-stream` serves an operation.
use Rattle.std.proofs.Common.{◌≡◌, ◌∙◌, ap, sym, refl, arith, ℕ, ◌<◌}
use Rattle.std.proofs.Common.{List, [], ◌∷◌, ◌++◌, length, take, drop, append-nil, append_assoc, Option, None, Result, Ok, Err}
use Rattle.std.specs.Prelude.{MatchResult}
use Rattle.std.specs.List.{flat_map, join_by}
use Rattle.std.specs.Io.KnownBytes.{Appends, IsAtEnd, Keeps}
use Rattle.std.specs.Result.{IsErrAnd, IsOkAnd}
use Rattle.std.proofs.lemmas.Result.{err_from_is_err_and}
use Rattle.hex_core.specs.declared.digit.CheckCase.TheVariants as policy
use Rattle.hex_core.specs.declared.error.Error.{Error}
use Rattle.hex_core.specs.declared.error.Error.TheVariants as error
use Rattle.hex_core.specs.Text.{lowercase, text}
use Rattle.hex_core.proofs.LawProofs.{valid-spelled}
use Rattle.hex_codec.specs.GroupedWriting.{pieces}
use Rattle.hex_codec.proofs.GroupLemmas.{pieces-next}
use Rattle.hex_io.specs.Reading.{SpellsBut, spaced}
use Rattle.hex_codec.specs.Spaced.{unspaced}
use Rattle.hex_io.specs.SinkState.{Puts, SinkState, Stops, Takes}
use Rattle.hex_io.specs.SinkLaws.{StopsInARow, TakesInARow}
use Rattle.hex_io.specs.Stream.{EndsDecoding, EndsEncoding, RefusedBy, Wrote, WroteBefore}
use Rattle.hex_io.specs.declared.sink.WriteFault.{WriteFault}
use Rattle.hex_io.specs.declared.stream.StreamFault.{StreamFault}
use Rattle.hex_io.specs.declared.stream.StreamFault.TheVariants as fault
use Rattle.hex_program.specs.declared.stream.StreamOp.{StreamOp}
use Rattle.hex_program.specs.declared.stream.StreamOp.TheVariants.{Encode, EncodeLines, Decode}
use Rattle.hex_program.specs.Serving.{WritesPart}
use Rattle.hex_program.specs.Streaming.{Begins, EndsStreamOp, IsStreamOutput, RefusesStream, WritesRead, line}
use Rattle.hex_program.specs.inside.{ended_by}
use Rattle.hex_program.proofs.Parts.{part-all, part-of, written}

-- what a run wrote of what was read, and how it ends
abbrev pub Ran : StreamOp → List ℕ → Option (List ℕ) → Option (List ℕ) → Option (List ℕ) → Result (Unit {0}) StreamFault → Type 0
Ran op input left held held' ran = Begins op input held held' × EndsStreamOp op input left held held' (ended_by ran)

-- ---- lines

-- texts that are joined by a mark and end with one are texts that each end with one
joined-marks : (f : List ℕ → List ℕ) (mark p : List ℕ) (ps : List (List ℕ)) → join_by f mark (p ∷ ps) ++ mark ≡ flat_map (λ p. f p ++ mark) (p ∷ ps)
joined-marks f mark p [] = ap (λ l. l ++ mark) (append-nil (f p)) ∙ sym (append-nil (f p ++ mark))
joined-marks f mark p (q ∷ ps) =
    let more = flat_map (λ y. mark ++ f y) ps in
    let same : (f p ++ ((mark ++ f q) ++ more)) ++ mark ≡ (f p ++ mark) ++ ((f q ++ more) ++ mark) = simp append_assoc refl in
    same ∙ ap (λ l. (f p ++ mark) ++ l) (joined-marks f mark q ps)

-- the texts of the pieces, joined by newlines
abbrev pub joined : List ℕ → List ℕ
joined bytes = join_by (text lowercase) (10 ∷ []) (pieces 30 bytes)

-- behind these a newline is missing, unless there is no piece
pub lines-of : (bytes : List ℕ) → 0 < length bytes → joined bytes ++ (10 ∷ []) ≡ flat_map line (pieces 30 bytes)
lines-of bytes some = rw (pieces-next 30 bytes (omega arith) some) (joined-marks (text lowercase) (10 ∷ []) (take 30 bytes) (pieces 30 (drop 30 bytes)))

lines-more : (bytes : List ℕ) → (more : List ℕ) × (joined bytes ++ more ≡ flat_map line (pieces 30 bytes))
lines-more [] = ([], refl)
lines-more (b ∷ bytes) = (10 ∷ [], lines-of (b ∷ bytes) (omega arith))

-- ---- encoding

-- the digits were taken, and then a newline was put
pub line-ended : (op : StreamOp) (bytes digits whole : List ℕ) (left after : Option (List ℕ)) (old mid new : SinkState) → Keeps new.taken after → TakesInARow → StopsInARow
    → digits ++ (10 ∷ []) ≡ whole → (WritesPart old.taken after whole → Begins op bytes old.taken after) → IsStreamOutput op bytes whole → Takes old mid digits → IsAtEnd left
    → (put : Result (Unit {0}) WriteFault) (ran : Result (Unit {0}) StreamFault) → Puts mid new put (10 ∷ [])
    → MatchResult put (λ x. ran ≡ Ok x) (λ e. IsErrAnd ran (λ f. f ≡ fault.Write e)) → Ran op bytes left old.taken after ran
line-ended op bytes digits whole left after old mid new kept takes stops is begins output first end (Ok done) ran puts was =
    let took : Takes old new whole = rw is at (takes old mid new digits (10 ∷ []) puts first) in
    rw was (begins (part-all old new after kept whole [] whole (append-nil whole) took), (end, (whole, output, written old new after kept whole took)))
line-ended op bytes digits whole left after old mid new kept takes stops is begins output first end (Err e) ran puts was =
    let stopped : Stops old new whole = rw is at (stops old mid new digits (10 ∷ []) puts first) in
    let fails = err_from_is_err_and ran was in
    rw (fails.1, fails.2) (begins (part-of old new after kept whole [] whole (append-nil whole) stopped), tt)

pub line-failed : (bytes : List ℕ) (left after : Option (List ℕ)) (old new : SinkState) → Keeps new.taken after → (why : StreamFault)
    → EndsEncoding (text lowercase) bytes left old new (Err why) → Ran Encode bytes left old.taken after (Err why)
line-failed bytes left after old new kept fault.Read h = (part-all old new after kept _ (10 ∷ []) _ refl h, written old new after kept _ h)
line-failed bytes left after old new kept (fault.Codec e) h = (part-all old new after kept _ (10 ∷ []) _ refl h.2, (h.0, h.1, written old new after kept _ h.2))
line-failed bytes left after old new kept (fault.Write why) h = (part-of old new after kept _ (10 ∷ []) _ refl h, tt)

pub lines-failed : (shown : List ℕ → List ℕ) → ((bytes : List ℕ) → shown bytes ≡ joined bytes) → (bytes : List ℕ) (left after : Option (List ℕ)) (old new : SinkState)
    → Keeps new.taken after → (why : StreamFault) → EndsEncoding shown bytes left old new (Err why) → Ran EncodeLines bytes left old.taken after (Err why)
lines-failed shown is bytes left after old new kept fault.Read h =
    let more = lines-more bytes in let took = rw (is bytes) at h in (part-all old new after kept _ more.0 _ more.1 took, written old new after kept _ took)
lines-failed shown is bytes left after old new kept (fault.Codec e) h =
    let more = lines-more bytes in let took = rw (is bytes) at h.2 in (part-all old new after kept _ more.0 _ more.1 took, (h.0, h.1, written old new after kept _ took))
lines-failed shown is bytes left after old new kept (fault.Write why) h = let more = lines-more bytes in (part-of old new after kept _ more.0 _ more.1 (rw (is bytes) at h), tt)

-- ---- decoding

module _ (left after : Option (List ℕ)) (old new : SinkState) (kept : Keeps new.taken after) where
  wrote-by : (digits : List ℕ) (P Q : List ℕ → Type 0) → ((bs : List ℕ) → P bs → Q bs) → Wrote policy.None digits P → Wrote policy.None digits Q
  wrote-by digits P Q by_put wrote = record { bytes = wrote.bytes; waiting = wrote.waiting; spelled = wrote.spelled; put = by_put wrote.bytes wrote.put }

  -- what was written is what the whole pairs of a leading part spell
  begun : (s front rest : List ℕ) → s ≡ front ++ rest → Wrote policy.None (unspaced front) (Takes old new) → Begins Decode s old.taken after
  begun s front rest parts wrote =
      (front, (rest, parts, wrote-by (unspaced front) (Takes old new) (WritesPart old.taken after) (λ bs took. part-all old new after kept bs [] bs (append-nil bs) took) wrote))

  all-wrote : (s : List ℕ) → Wrote policy.None (unspaced s) (Takes old new) → WritesRead Decode s old.taken after
  all-wrote s wrote = wrote-by (unspaced s) (Takes old new) (Appends old.taken after) (written old new after kept) wrote

  refused : (s : List ℕ) (e : Error) → WroteBefore (spaced policy.None) s old new → RefusedBy (spaced policy.None) s left e
      → Begins Decode s old.taken after × RefusesStream s left old.taken after e
  refused s e before why = (
    begun s before.fed before.chunk before.parts before.wrote,
    record { is_refusal = why; front = before.fed; rest = before.chunk; parts = before.parts; short = before.short; wrote = all-wrote before.fed before.wrote },
  )

  failed : (s : List ℕ) (why : StreamFault) → EndsDecoding (spaced policy.None) s left old new (Err why) → Ran Decode s left old.taken after (Err why)
  failed s fault.Read h = (begun s s [] (sym (append-nil s)) h, all-wrote s h)
  failed s (fault.Write why) h =
      let part = wrote-by (unspaced s) (Stops old new) (WritesPart old.taken after) (λ bs stopped. part-of old new after kept bs [] bs (append-nil bs) stopped) h in
      ((s, ([], sym (append-nil s), part)), tt)
  failed s (fault.Codec error.OddLength) h = (begun s s [] (sym (append-nil s)) h.0, (h.1, all-wrote s h.0))
  failed s (fault.Codec e) h = refused s e h.0 h.1

  pub decoded : (P : ℕ → Unit {0} → Type 0) (s : List ℕ) (result : Result ℕ StreamFault) (ran : Result (Unit {0}) StreamFault) → EndsDecoding (spaced policy.None) s left old new result
      → MatchResult result (λ count. IsOkAnd ran (P count)) (λ e. ran ≡ Err e) → Ran Decode s left old.taken after ran
  decoded P s (Ok count) (Ok done) h was =
      let digits = unspaced s in
      let spelled : SpellsBut policy.None digits h.0 [] = record { valid = valid-spelled policy.None digits h.0 h.1; pairs = digits; parts = sym (append-nil digits); spelled = h.1 } in
      (begun s s [] (sym (append-nil s)) (record { bytes = h.0; waiting = None; spelled = spelled; put = h.3 }), (h.4, (h.0, h.1, written old new after kept h.0 h.3)))
  decoded P s (Ok count) (Err e) h was = absurd was
  decoded P s (Err why) ran h was = rw was (failed s why h)
