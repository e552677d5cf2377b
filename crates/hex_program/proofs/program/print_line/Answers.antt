-- The text that was written is what the line displays, with a newline.
use Rattle.std.specs.Prelude.{◌≡◌, ◌++◌, ◌∷◌, [], ℕ, List, Option, Some, None, IfSome, Result}
use Rattle.std.specs.Fmt.{WritesText, option_append}
use Rattle.std.proofs.Common.{◌∙◌, ap}
use Rattle.std.proofs.Output.{contents_after_writes}
use Rattle.hex_program.specs.declared.failure.Failure.{Failure}
use Rattle.hex_program.specs.Serving.{Outputs}
use Rattle.hex_program.proofs.program.print_line.Goals as goal

by_output : {W : Type 0} (took : W → List ℕ → W → Type 0) (bytes : W → List ℕ) → ((w : W) (bs : List ℕ) (v : W) → took w bs v → bytes v ≡ bytes w ++ bs) → (old new : W) (o : Option (List ℕ)) (text : List ℕ) (held held' : Option (List ℕ)) (ended : Result (Unit {0}) Failure)
    → bytes old ≡ [] → text ≡ bytes new → WritesText took old (option_append o (Some (10 ∷ []))) new → Outputs text held held' ended → IfSome o (λ line. Outputs (line ++ 10 ∷ []) held held' ended)
by_output took bytes gives old new None text held held' ended empty is wrote outputs = tt
by_output took bytes gives old new (Some line) text held held' ended empty is wrote outputs =
    let all = contents_after_writes took bytes gives old (line ++ (10 ∷ [])) new wrote in
    let whole : text ≡ line ++ (10 ∷ []) = is ∙ all ∙ ap (λ bs. bs ++ (line ++ (10 ∷ []))) empty in
    rw whole at outputs

pub returns : goal.returns
returns g c =
    by_output (λ s bs t. t.bytes ≡ s.bytes ++ bs) (λ s. s.bytes) (λ w bs v is. is) c.new-text.result c.write_fmt.new.self (g.M.Display.output c.args.line.now) c.as_bytes.result.now _ _ _
    c.new-text.ensures (c.as_bytes.ensures.value ∙ c.deref.ensures.0) c.in-Ok.ensures.writes c.write_text.ensures
