-- Each turn writes one more copy behind the copies so far.
use Rattle.std.proofs.Common.{◌∙◌, ap, arith, length}
use Rattle.std.proofs.Concat.{repeat_push}
use Rattle.std.proofs.lemmas.Slice.{take-put_mid}
use Rattle.hex_io.proofs.padding.copies_in.Goals as goal

pub copies-preserved : goal.copies-preserved
copies-preserved c =
    let end = c.copies.end in let copied = c.copy_from_slice.ensures.after in
    record {
      front = take-put_mid end _ c.copies.buffer c.copy_from_slice.new.self _ (omega (arith, ap length copied)) (omega (arith, c.copies.invariant.short)) ∙ rw (copied, c.copies.invariant.front, repeat_push);
      short = omega (arith, c.copies.invariant.short, ap length c.as_bytes-piece.ensures.value, c.encode_utf8.ensures.upper_bound);
    }
