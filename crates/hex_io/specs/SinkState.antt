-- The state of a sink, and how puts change it.
use Rattle.std.specs.Prelude.{◌≡◌, ℕ, zero, suc, ◌+◌, ◌-◌, ◌^◌, ◌<◌, ◌≤◌, min, List, [], ◌∷◌, ◌++◌, length, take, drop}
use Rattle.std.specs.Prelude.{Option, Result, Ok, Err, MatchResult, option_map, unwrap_or}
use Rattle.std.specs.Borrow.{GName}
use Rattle.std.specs.Io.KnownBytes.{Appends}
use Rattle.hex_io.specs.declared.sink.SinkFault.{SinkFault}

-- the state of a sink. `taken` is the bytes taken, if its type models them, and `failures` is the number of
-- failed puts. For a sink over a borrowed buffer, `free` is the bytes that are still free, and `loan` is the
-- borrow
pub record SinkState : Type 0 where
  pub taken : Option (List ℕ)
  pub failures : ℕ
  pub free : Option (List ℕ)
  pub loan : Option GName

-- the length of the longest piece that a sink is sure to take whole
abbrev pub room : SinkState → ℕ
room sink = length (unwrap_or sink.free [])

-- the first n free bytes of the same buffer are no longer free
abbrev pub FillsBy : ℕ → SinkState → SinkState → Type 0
FillsBy n old new = (new.free ≡ option_map (drop n) old.free) × (new.loan ≡ old.loan)

-- the sink took a first part of bs, which may be empty or all of it
pub record AppendsBeginning (old new : SinkState) (bs : List ℕ) : Type 0 where
  pub front : List ℕ
  pub rest : List ℕ
  pub parts : front ++ rest ≡ bs
  pub appended : Appends old.taken new.taken front
  pub filled : FillsBy (length front) old new

-- one failure more, but at most as many as a `u64` can count
abbrev pub one_more : ℕ → ℕ
one_more n = min (n + 1) (2 ^ 64 - 1)

-- the number of failures after a put: one more if the put is refused, or takes no byte of a nonempty piece
abbrev pub failures_after : ℕ → Result ℕ SinkFault → List ℕ → ℕ
failures_after n (Ok zero) [] = n
failures_after n (Ok zero) (b ∷ piece) = one_more n
failures_after n (Ok (suc taken)) piece = n
failures_after n (Err fault) piece = one_more n

-- one put of a piece. After `Ok` the sink took so many of its first bytes, and after `Err` it took some first
-- part. A failure is counted, and a nonempty piece that fits is taken whole
abbrev pub PutsPiece : SinkState → SinkState → Result ℕ SinkFault → List ℕ → Type 0
PutsPiece old new result piece = MatchResult result
    (λ n. (n ≤ length piece) × Appends old.taken new.taken (take n piece) × FillsBy n old new)
    (λ _. AppendsBeginning old new piece)
    × (new.failures ≡ failures_after old.failures result piece)
    × (0 < length piece → length piece ≤ room old → result ≡ Ok (length piece))

-- one or more puts, or none, took all of bs, and none of them failed
pub record Takes (old new : SinkState) (bs : List ℕ) : Type 0 where
  pub appended : Appends old.taken new.taken bs
  pub unfailed : new.failures ≡ old.failures
  pub filled : FillsBy (length bs) old new

-- puts ended early: they took a first part of bs, one of them failed, and not all of bs fits
pub record Stops (old new : SinkState) (bs : List ℕ) : Type 0 where
  pub begun : AppendsBeginning old new bs
  pub failed : new.failures ≡ one_more old.failures
  pub short : room old < length bs

-- puts in a row. After `Ok` they took all of bs, and after `Err` they ended early
abbrev pub Puts : {E : Type 0} → SinkState → SinkState → Result (Unit {0}) E → List ℕ → Type 0
Puts old new result bs = MatchResult result (λ _. Takes old new bs) (λ _. Stops old new bs)
