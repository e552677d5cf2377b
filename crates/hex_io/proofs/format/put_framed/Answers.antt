-- The parts that were put, one behind another, are the text, or a beginning of it where one failed.
use Rattle.hex_io.proofs.PutsLemmas.{Puts-stop, Puts-then}
use Rattle.hex_io.proofs.format.put_framed.Goals as goal

pub returns-in_err-put_all : goal.returns-in_err-put_all
returns-in_err-put_all g c =
    rw (c.if-flags.true, ← c.padding_len-padding.ensures, ← c.sign_and_prefix-front.ensures)
    (Puts-stop _ _ c.from_residual.ensures.0 c.in_err-put_all.ensures.puts)

pub returns-in_err-put_copies : goal.returns-in_err-put_copies
unfolding lib.Utf8.encode
returns-in_err-put_copies g c =
    rw (c.if-flags.true, ← c.padding_len-padding.ensures, ← c.sign_and_prefix-front.ensures)
    (Puts-then _ _ _ _ _ _ c.in_ok-put_all.ensures.puts (Puts-stop _ _ c.from_residual-in_err-put_copies.ensures.0 c.in_err-put_copies.ensures))

pub returns-then-flags : goal.returns-then-flags
unfolding lib.Utf8.encode
returns-then-flags g c =
    rw (c.if-flags.true, ← c.padding_len-padding.ensures, ← c.sign_and_prefix-front.ensures)
    (Puts-then _ _ _ _ _ _ c.in_ok-put_all.ensures.puts (Puts-then _ _ _ _ _ _ c.in_ok-put_copies.ensures c.put_digits.ensures.puts))

pub returns-in_err-put_copies-2 : goal.returns-in_err-put_copies-2
returns-in_err-put_copies-2 g c =
    rw (c.if-flags.false, ← c.padding_len-padding.ensures, ← c.before_text-left.ensures)
    (Puts-stop _ _ c.from_residual-in_err-put_copies-2.ensures.0 c.in_err-put_copies-2.ensures)

pub returns-in_err-put_all-2 : goal.returns-in_err-put_all-2
returns-in_err-put_all-2 g c =
    rw (c.if-flags.false, ← c.padding_len-padding.ensures, ← c.before_text-left.ensures, ← c.sign_and_prefix-front.ensures)
    (Puts-then _ _ _ _ _ _ c.in_ok-put_copies-2.ensures (Puts-stop _ _ c.from_residual-in_err-put_all-2.ensures.0 c.in_err-put_all-2.ensures.puts))

pub returns-in_err-put_digits : goal.returns-in_err-put_digits
returns-in_err-put_digits g c =
    rw (c.if-flags.false, ← c.padding_len-padding.ensures, ← c.before_text-left.ensures, ← c.sign_and_prefix-front.ensures)
    (Puts-then _ _ _ _ _ _ c.in_ok-put_copies-2.ensures (Puts-then _ _ _ _ _ _ c.in_ok-put_all-2.ensures.puts
    (Puts-stop _ _ c.from_residual-in_err-put_digits.ensures.0 c.in_err-put_digits.ensures.puts)))

pub returns : goal.returns
returns g c =
    rw (c.if-flags.false, ← c.padding_len-padding.ensures, ← c.before_text-left.ensures, ← c.sign_and_prefix-front.ensures)
    (Puts-then _ _ _ _ _ _ c.in_ok-put_copies-2.ensures (Puts-then _ _ _ _ _ _ c.in_ok-put_all-2.ensures.puts
    (Puts-then _ _ _ _ _ _ c.in_ok-put_digits.ensures.puts c.put_copies-3.ensures)))
