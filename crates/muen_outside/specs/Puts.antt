-- What a put does to a sink.
use Rattle.std.specs.Prelude.{◌≡◌, ℕ, ◌+◌, ◌≤◌, List, ◌++◌, Result, Ok, Err, length, take}
use Rattle.muen_outside.specs.States.{SinkState}

abbrev pub gave : SinkState → List ℕ → SinkState
gave s bytes = record { given = s.given ++ bytes; faults = s.faults }

-- all the bytes were handed on
pub record Appended (bytes : List ℕ) (old new : SinkState) : Type 0 where
  pub state : new ≡ gave old bytes

-- a front of the bytes was handed on, and the call has failed
pub record Failed (bytes : List ℕ) (old new : SinkState) : Type 0 where
  pub front : ℕ
  pub fits : front ≤ length bytes
  pub state : new ≡ record { given = old.given ++ take front bytes; faults = old.faults + 1 }

-- the bytes were put, or only a front of them where it has failed
abbrev pub Puts : {E : Type 0} → List ℕ → SinkState → SinkState → Result (Unit {0}) E → Type 0
Puts bytes old new (Ok u) = Appended bytes old new
Puts bytes old new (Err e) = Failed bytes old new
