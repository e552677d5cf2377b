-- Puts in a row.
use Rattle.std.proofs.Common.{◌≡◌, ℕ, zero, suc, ◌+◌, ◌-◌, ◌<◌, List, [], ◌∷◌, ◌++◌, length, take, Result, Ok, Err}
use Rattle.std.proofs.Common.{IsErr, IfOk, refl, ap, ◌∙◌, arith, append_assoc, length-append, length-drop}
use Rattle.std.proofs.lemmas.List.{drop-drop, length-take-le}
use Rattle.std.proofs.KnownBytes.{Appends-nil, Appends-trans}
use Rattle.hex_io.specs.declared.sink.SinkFault.{SinkFault}
use Rattle.hex_io.specs.SinkState.{FillsBy, Puts, PutsPiece, SinkState, Stops, Takes, one_more, room}

-- the free bytes after some are taken, and then some more
FillsBy-then : (m n : ℕ) (a b c : SinkState) → FillsBy m a b → FillsBy n b c → FillsBy (m + n) a c
FillsBy-then m n a b c p q = (rw (q.0, p.0) (grind (arith, drop-drop)), q.1 ∙ p.1)

-- ---- one put of a nonempty piece

-- it took some bytes
pub PutsPiece-takes : (a b : SinkState) (n : ℕ) (piece : List ℕ) → 0 < n → PutsPiece a b (Ok n) piece → Takes a b (take n piece)
PutsPiece-takes a b zero piece some p = absurd (omega arith)
PutsPiece-takes a b (suc n) piece some p = record { appended = p.0.1; unfailed = p.1; filled = rw (length-take-le (suc n) piece p.0.0) p.0.2 }

-- it took none, or was refused
pub PutsPiece-stops : (a b : SinkState) (r : Result ℕ SinkFault) (piece : List ℕ) → 0 < length piece → IfOk r (λ n. n ≡ 0) → PutsPiece a b r piece → Stops a b piece
PutsPiece-stops a b (Ok zero) [] some none p = absurd (omega arith)
PutsPiece-stops a b (Ok zero) (x ∷ piece) some none p =
    record { begun = record { front = []; rest = x ∷ piece; parts = refl; appended = p.0.1; filled = p.0.2 }; failed = p.1; short = grind (arith, p.2) }
PutsPiece-stops a b (Ok (suc n)) piece some none p = absurd (omega arith)
PutsPiece-stops a b (Err e) piece some none p = record { begun = p.0; failed = p.1; short = grind (arith, p.2) }

-- ---- many puts

-- nothing was put
pub Takes-none : (a : SinkState) → Takes a a []
Takes-none a = record { appended = Appends-nil a.taken; unfailed = refl; filled = (grind arith, refl) }

-- xs was taken, and then ys
pub Takes-then : (a b c : SinkState) (xs ys : List ℕ) → Takes a b xs → Takes b c ys → Takes a c (xs ++ ys)
Takes-then a b c xs ys p q =
    record { appended = Appends-trans _ _ _ _ _ p.appended q.appended; unfailed = q.unfailed ∙ p.unfailed; filled = rw length-append (FillsBy-then _ _ a b c p.filled q.filled) }

-- xs was taken without a failure, and then a put of ys failed
pub Stops-then : (a b c : SinkState) (xs ys : List ℕ) → Takes a b xs → Stops b c ys → Stops a c (xs ++ ys)
Stops-then a b c xs ys p q =
    let left : room b ≡ room a - length xs = rw p.filled.0 (grind (arith, length-drop)) in let begun = q.begun in record {
      begun = record {
        front = xs ++ begun.front;
        rest = begun.rest;
        parts = rw (append_assoc, begun.parts);
        appended = Appends-trans _ _ _ _ _ p.appended begun.appended;
        filled = rw length-append (FillsBy-then _ _ a b c p.filled begun.filled);
      };
      failed = q.failed ∙ ap one_more p.unfailed;
      short = simp length-append (omega (arith, q.short, left));
    }

-- a put of xs failed, and nothing of ys was put
pub Stops-stop : (a b : SinkState) (xs ys : List ℕ) → Stops a b xs → Stops a b (xs ++ ys)
Stops-stop a b xs ys p =
    let begun = p.begun in record {
      begun = record {
        front = begun.front;
        rest = begun.rest ++ ys;
        parts = rw (← append_assoc begun.front begun.rest ys, begun.parts);
        appended = begun.appended;
        filled = begun.filled;
      };
      failed = p.failed;
      short = simp length-append (omega (arith, p.short));
    }

-- xs was taken without a failure, and then ys was put
pub Puts-then : {E : Type 0} (a b c : SinkState) (r : Result (Unit {0}) E) (xs ys : List ℕ) → Takes a b xs → Puts b c r ys → Puts a c r (xs ++ ys)
Puts-then a b c (Ok _) xs ys p q = Takes-then a b c xs ys p q
Puts-then a b c (Err _) xs ys p q = Stops-then a b c xs ys p q

-- a put that failed, handed on as the error that it is
pub Puts-err : {E : Type 0} (a b : SinkState) (r : Result (Unit {0}) E) (bs : List ℕ) → IsErr r → Stops a b bs → Puts a b r bs
Puts-err a b (Ok _) bs err failed = cc
Puts-err a b (Err _) bs err failed = failed

-- a put of xs failed, and nothing of ys was put
pub Puts-stop : {E : Type 0} {a b : SinkState} {xs : List ℕ} (r : Result (Unit {0}) E) (ys : List ℕ) → IsErr r → Stops a b xs → Puts a b r (xs ++ ys)
Puts-stop r ys err failed = Puts-err _ _ r _ err (Stops-stop _ _ _ ys failed)
