-- A list whose end was written.
use Rattle.std.proofs.Common.{◌≡◌, ℕ, ◌-◌, ◌≤◌, List, ◌++◌, length, take, arith}
use Rattle.std.proofs.lemmas.Grind.{common_steps}
use borrow.Rule.Slice.PartMut.{put_mid}

pub put-behind : (a : ℕ) (xs ys : List ℕ) → a ≤ length xs → length ys ≡ length xs - a → put_mid a (length xs - a) xs ys ≡ take a xs ++ ys
put-behind a xs ys inside size = grind (arith, common_steps, inside, size)
