use Rattle.std.proofs.Common.{◌≡◌, ◌*◌, take}
use Rattle.hex_core.specs.Text.{text}
use Rattle.hex_core.proofs.look_ups.write_digits.Given as goal

abbrev pub invariant-digits : goal.invariant-digits
invariant-digits l = take (2 * l.i) l.dst ≡ text l.fn.upper (take l.i l.src)
