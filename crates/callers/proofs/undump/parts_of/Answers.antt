use Rattle.std.proofs.Common.{◌≡◌, ◌∙◌, ◌∷◌, ◌++◌, [], ℕ, List, append_assoc, ap, drop, subst, sym, take}
use Rattle.std.proofs.Math.Seq.{drop-append_seam, take-append_seam}
use Rattle.std.proofs.lemmas.List.{drop-drop, take_rest}
use Rattle.callers.proofs.undump.parts_of.Goals as goal

pub returns-clause-all : goal.returns-clause-all
returns-clause-all c = λ front back eight is.
    let line = c.args.line.now in let rest : List ℕ = 58 ∷ 32 ∷ back in
    let same = is ∙ append_assoc front (58 ∷ 32 ∷ []) back in
    let behind : drop 8 (front ++ rest) ≡ rest = subst (λ n. drop n (front ++ rest) ≡ rest) eight (drop-append_seam front rest) in
    let last : drop 10 line ≡ back = rw same (sym (drop-drop 2 8 (front ++ rest)) ∙ ap (λ l. drop 2 l) behind) in
    (rw same (subst (λ n. take n (front ++ rest) ≡ front) eight (take-append_seam front rest)), take_rest line 10 ∙ last)
