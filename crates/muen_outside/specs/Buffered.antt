-- What a put does to a sink where some bytes wait before it.
use Rattle.std.specs.Prelude.{◌≡◌, ℕ, List, [], ◌++◌, Result, Ok, Err}
use Rattle.muen_outside.specs.States.{SinkState}
use Rattle.muen_outside.specs.Puts.{Appended, Failed}

-- a sink and the bytes that wait for it
pub record OutState : Type 0 where
  pub sink : SinkState
  pub waiting : List ℕ

abbrev pub behind : SinkState → List ℕ → OutState
behind sink waiting = record { sink = sink; waiting = waiting }

-- the bytes were put behind those that waited; a front of all these went on to the sink, and the rest waits
pub record Given (bytes : List ℕ) (old new : OutState) : Type 0 where
  pub gone : List ℕ
  pub put : Appended gone old.sink new.sink
  pub rest : gone ++ new.waiting ≡ old.waiting ++ bytes

-- only a front of what waited and of the bytes was appended, the sink has counted a fault, and nothing waits
pub record Lost (bytes : List ℕ) (old new : OutState) : Type 0 where
  pub put : Failed (old.waiting ++ bytes) old.sink new.sink
  pub none : new.waiting ≡ []

-- the bytes were put behind those that waited, or the sink has failed
abbrev pub Gives : {E : Type 0} → List ℕ → OutState → OutState → Result (Unit {0}) E → Type 0
Gives bytes old new (Ok u) = Given bytes old new
Gives bytes old new (Err e) = Lost bytes old new

-- all that waited was appended, and nothing waits
pub record Emptied (old new : OutState) : Type 0 where
  pub put : Appended old.waiting old.sink new.sink
  pub none : new.waiting ≡ []

-- all that waited was put, or the sink has failed
abbrev pub Flushed : {E : Type 0} → OutState → OutState → Result (Unit {0}) E → Type 0
Flushed old new (Ok u) = Emptied old new
Flushed old new (Err e) = Lost [] old new
