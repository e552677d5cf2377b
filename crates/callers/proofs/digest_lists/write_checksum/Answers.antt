-- What is written as a list is read as its entry.
use Rattle.std.proofs.Common.{rules, ◌≡◌, ◌∙◌, ℕ, List, ◌∷◌, [], Some, drop, length, take, take-append-drop, refl, subst, sym}
use Rattle.std.specs.Borrow.{MutBor}
use Rattle.hex_core.specs.Text.{lowercase, with_front}
use Rattle.hex_io.specs.declared.sink.SliceSink.{SliceSink}
use Rattle.hex_io.specs.Lists.{list_of}
use Rattle.hex_io.specs.SinkState.{Takes}
use Rattle.hex_io.specs.SliceAndWriterSinks.{fresh_state, slice_state}
use Rattle.callers.specs.DigestLists.{entry_of}
use Rattle.callers.proofs.digest_lists.write_checksum.Goals as goal

taken-over : (buf : MutBor (List ℕ)) (sink : SliceSink) (bytes : List ℕ) → Takes (fresh_state buf) (slice_state sink) bytes → sink.buf.now ≡ with_front buf.now bytes
taken-over buf sink bytes takes =
    let front : take sink.used sink.buf.now ≡ bytes = takes.appended in
    let left : Some (drop sink.used sink.buf.now) ≡ Some (drop (length bytes) buf.now) = takes.filled.0 in
    sym (take-append-drop sink.used sink.buf.now) ∙ cc

pub returns : goal.returns
returns c =
    let e = entry_of c.args.digest.now c.args.name in
    let size : length e.digest ≡ 32 = search rules in
    let read = (c.reading_inverts_writing.ensures.inverts 32 lowercase (e ∷ []) ((size, c.a_slice_holds_bytes.ensures.bytes), tt) c.in_ok-write_to.ensures.answer.0).0 in
    let takes = subst (λ start. Takes start (slice_state c.write_to.new.sink) (list_of lowercase (e ∷ []))) c.new-sink.ensures.fresh c.in_ok-write_to.ensures.answer.1 in
    let front = taken-over (record { ref_ptr = c.args.buffer.ref_ptr; ghost_name = _; now = c.args.buffer.now }) c.write_to.new.sink (list_of lowercase (e ∷ [])) takes in
    (list_of lowercase (e ∷ []), refl, read, search rules, search (rules, front, takes.filled.1))
