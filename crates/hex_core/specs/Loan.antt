-- What a destination holds after a function has returned its written part, and that part is no longer
-- borrowed.
use Rattle.std.specs.Prelude.{ℕ, List, [], length, drop, ◌++◌, Result, Ok, Err}
use Rattle.std.specs.Borrow.{LendsIfOk, MutBor, Fml, u8, Array}

-- the old bytes of the destination after the returned part
abbrev pub behind : {E : Type 0} → List ℕ → Result (MutBor (List ℕ)) E → List ℕ
behind old (Ok front) = drop (length front.now) old
behind old (Err e) = []

-- after an `Ok`, the destination ends as the returned part as it was last written, followed by the old bytes
-- after it. After an `Err`, it ends unchanged
abbrev pub LendsAnswer : {E : Type 0} → MutBor (List ℕ) → Result (MutBor (List ℕ)) E → Fml
LendsAnswer s r = LendsIfOk (Array u8 0) (Array u8 0) s r (λ front. front ++ behind s.now r) s.now
