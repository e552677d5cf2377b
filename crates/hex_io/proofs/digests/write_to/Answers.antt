-- Where a put failed, the lines of the entries behind it were not put.
use Rattle.std.proofs.Common.{◌≡◌, ℕ, Bool, ◌∷◌, [], ◌++◌, ◌∙◌, sym, append_assoc, take-append-drop}
use Rattle.std.proofs.Concat.{flat_map-take_more}
use Rattle.std.proofs.lemmas.Grind.{flat_map-append}
use Rattle.std.proofs.lemmas.List.{drop_more}
use Rattle.std.proofs.lemmas.Result.{err_from_is_err_and}
use Rattle.hex_core.specs.Text.{text}
use Rattle.hex_io.proofs.PutsLemmas.{Stops-stop, Stops-then, Takes-then}
use Rattle.hex_io.specs.declared.digests.Entry.{Entry}
use Rattle.hex_io.specs.Lists.{line_of, mark}
use Rattle.hex_io.proofs.digests.write_to.Goals as goal

-- the line of an entry, as its parts
parts : {N : ℕ} (upper : Bool) (e : Entry N) → text upper e.digest ++ (32 ∷ mark e.binary ∷ []) ++ e.name.now ≡ line_of upper e
parts upper e = append_assoc (text upper e.digest) (32 ∷ mark e.binary ∷ []) e.name.now

pub loop-entry-preserved : goal.loop-entry-preserved
loop-entry-preserved g c =
    let more = flat_map-take_more (λ e. line_of c.args.upper e ++ 10 ∷ []) c.args.entries.now c.loop-entry.entry-index c.entry-item.result c.loop-entry-test.true in
    rw (← more, ← c.entry-item.is) (Takes-then _ _ _ _ _ c.loop-entry.invariant (rw (parts c.args.upper c.entry-item.result) at c.in_ok-put_line.ensures))

pub returns-in_err-put_line : goal.returns-in_err-put_line
returns-in_err-put_line g c =
    let es = c.args.entries.now in let i = c.loop-entry.entry-index in
    let (_, is, gives) = err_from_is_err_and c.from_residual.result c.from_residual.ensures.1 in record {
      answer = rw (is, gives) (
        sym c.bad_name.ensures ∙ c.in_default.is,
        rw (← take-append-drop i es, flat_map-append, drop_more es i c.entry-item.result c.loop-entry-test.true, ← c.entry-item.is)
            (Stops-then _ _ _ _ _ c.loop-entry.invariant (Stops-stop _ _ _ _ (rw (parts c.args.upper c.entry-item.result) at c.in_err-put_line.ensures))),
      );
    }
