-- What fits is copied behind what was taken, and the rest stays free.
use Rattle.std.proofs.Common.{◌≡◌, ◌+◌, length, ap, refl, ◌∙◌, arith, Some, Ok, rules, length-drop, length-take}
use Rattle.std.proofs.lemmas.List.{drop-drop}
use Rattle.std.proofs.lemmas.Slice.{drop-put_mid, take-put_mid}
use Rattle.hex_io.proofs.sink.SliceSinkSink.put.Goals as goal

pub returns-clause-puts : goal.returns-clause-puts
returns-clause-puts c =
    let used = c.args.self.now.used in let buf = c.args.self.now.buf.now in let end = used + c.min-count.result in
    let part = c.copy_from_slice.new.self in let copied = c.copy_from_slice.ensures.after in
    let size : length part ≡ c.min-count.result = rw copied (simp length-take (omega arith)) in (
      (
        omega arith,
        take-put_mid used _ buf part end (omega (arith, size)) (omega arith) ∙ rw copied,
        (ap Some (drop-put_mid used _ buf part end (omega arith) (omega arith) (omega (arith, size)) ∙ rw drop-drop), refl),
      ),
      search rules,
      λ some le. ap Ok (omega (arith, simp length-drop at le)),
    )
