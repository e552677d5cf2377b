use Rattle.std.proofs.Common.{◌≡◌, ℕ, ◌-◌, ◌%◌, length, get_or, ap, sym, ◌∙◌, arith}
use Rattle.std.proofs.Math.ListN.{length-set, set}
use Rattle.std.proofs.lemmas.List.{get_or-set_other, get_or-set_same}
use borrow.Author.Count.{below_more}
use Rattle.std.specs.Int.{byte_at}
use Rattle.hex_core.proofs.SpellsLemmas.{are_bytes, step}
use Rattle.hex_core.proofs.look_ups.write_word.Goals as goal

pub bytes-preserved : goal.bytes-preserved
bytes-preserved c =
    let i = c.bytes.i in let word = c.args.word in let n = length c.bytes.dst in let at = n - 1 - i in
    let taken = (step i word 0 c.bytes.left (omega arith) (omega arith)).taken c.bytes.invariant.rest in
    let new = set c.bytes.dst at (c.bytes.left % 256) in
    let same : length new ≡ n = length-set c.bytes.dst at (c.bytes.left % 256) in
    record {
      rest = taken.1;
      written = λ k lt. ap (λ m. get_or new (m - 1 - k) 0) same
          ∙ below_more (λ (k : ℕ). get_or new (n - 1 - k) 0 ≡ byte_at k word) i
          (λ k before. get_or-set_other c.bytes.dst at (n - 1 - k) (c.bytes.left % 256) 0 (λ x. absurd (omega arith)) ∙ c.bytes.invariant.written k before)
          (get_or-set_same c.bytes.dst at (c.bytes.left % 256) 0 (omega arith) ∙ taken.0) k lt;
    }

pub returns : goal.returns
returns c =
    let n = length c.args.dst.now in
    let same : length c.bytes.dst ≡ n = omega arith in
    are_bytes n c.args.word c.bytes.dst same (λ k lt. ap (λ m. get_or c.bytes.dst (m - 1 - k) 0) (sym same) ∙ c.bytes.invariant.written k (omega arith))
