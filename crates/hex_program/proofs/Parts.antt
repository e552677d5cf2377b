-- Leading parts of a list that was to be written.
use Rattle.std.specs.Prelude.{List, ℕ, ◌++◌, ◌≡◌, [], Option, Result, Ok, Err}
use Rattle.std.specs.Io.KnownBytes.{Appends, Keeps}
use Rattle.std.proofs.Common.{◌∙◌, ap, sym, append-nil, append_assoc}
use Rattle.std.proofs.KnownBytes.{Appends-kept}
use Rattle.hex_io.specs.SinkState.{SinkState, Stops, Takes}
use Rattle.hex_program.specs.declared.failure.Failure.{Failure}
use Rattle.hex_program.specs.Serving.{WritesPart, Outputs}

-- what a sink took is kept by a flush
module _ (old new : SinkState) (after : Option (List ℕ)) (kept : Keeps new.taken after) where
  pub written : (bs : List ℕ) → Takes old new bs → Appends old.taken after bs
  written bs took = Appends-kept old.taken new.taken after bs took.appended kept

  pub part-all : (bs more all : List ℕ) → bs ++ more ≡ all → Takes old new bs → WritesPart old.taken after all
  part-all bs more all is took = (bs, (more, is, written bs took))

  pub part-of : (bs more all : List ℕ) → bs ++ more ≡ all → Stops old new bs → WritesPart old.taken after all
  part-of bs more all is stopped =
      let begun = stopped.begun in
      let whole = sym (append_assoc begun.front begun.rest more) ∙ ap (λ l. l ++ more) begun.parts ∙ is in
      (begun.front, (begun.rest ++ more, whole, Appends-kept old.taken new.taken after begun.front begun.appended kept))

-- a text that was written, all of it or a leading part
pub written-part : (text : List ℕ) (held held' : Option (List ℕ)) (ended : Result (Unit {0}) Failure) → Outputs text held held' ended → WritesPart held held' text
written-part text held held' (Ok done) wrote = (text, ([], append-nil text, wrote))
written-part text held held' (Err failure) wrote = wrote.1
