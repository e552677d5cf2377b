-- Facts on puts that follow from the definitions alone. In laws on puts in a row the premise on the later put
-- comes first, because it says where the search for the earlier ones begins.
use Rattle.std.specs.Prelude.{List, ℕ, [], ◌++◌, Result, IsErr}
use Rattle.hex_io.specs.declared.sink.WriteFault.{WriteFault}
use Rattle.hex_io.specs.SinkState.{Puts, SinkState, Stops, Takes}

-- if nothing is put, the sink has taken an empty list
abbrev pub TakesNothing : Type 0
TakesNothing = (sink : SinkState) → Takes sink sink []

-- a sink that took one list and then another one took the two lists joined
abbrev pub TakesInARow : Type 0
TakesInARow = (first second third : SinkState) (xs ys : List ℕ)
    → Takes second third ys
    → Takes first second xs
    → Takes first third (xs ++ ys)

-- a sink that took one list and stopped in another one stopped in the two lists joined
abbrev pub StopsInARow : Type 0
StopsInARow = (first second third : SinkState) (xs ys : List ℕ)
    → Stops second third ys
    → Takes first second xs
    → Stops first third (xs ++ ys)

-- a sink that stopped in a list stopped in any longer list that begins with it
abbrev pub StopsEarlier : Type 0
StopsEarlier = (first second : SinkState) (xs ys : List ℕ)
    → Stops first second xs
    → Stops first second (xs ++ ys)

-- if a sink took one list, putting another one has the effect of putting the two lists joined, with the same
-- result
abbrev pub PutsInARow : Type 0
PutsInARow = (first second third : SinkState) (result : Result (Unit {0}) WriteFault) (xs ys : List ℕ)
    → Puts second third result ys
    → Takes first second xs
    → Puts first third result (xs ++ ys)

-- if a sink stopped in a list and the result is an error, this is a failed put of the list
abbrev pub StopsFail : Type 0
StopsFail = (first second : SinkState) (result : Result (Unit {0}) WriteFault) (xs : List ℕ)
    → IsErr result
    → Stops first second xs
    → Puts first second result xs
