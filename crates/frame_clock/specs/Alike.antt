-- Systems that run alike.
use Rattle.std.specs.Prelude.{◌≡◌, ℕ, ◌<◌, List}
use Rattle.std.specs.List.{AllZip}
use Rattle.frame_clock.specs.Run.{Turned, Clocked, Ran}

-- the states are alike, and the lines are the same
pub record AreAlikeTurns {S T L : Type 0} (Same : S → T → Type 0) (a : Turned S L) (b : Turned T L) : Type 0 where
  pub state : Same a.state b.state
  pub line : b.line ≡ a.line

pub record AreAlikeRuns {S T L : Type 0} (Same : S → T → Type 0) (a : Ran S L) (b : Ran T L) : Type 0 where
  pub state : Same a.state b.state
  pub lines : b.lines ≡ a.lines

-- what one does in a state the other does in each that is alike, in turns at ticks below a bound
pub record AreAlike {S T I J L : Type 0} (Same : S → T → Type 0) (SameInput : I → J → Type 0) (most : ℕ) (a : Clocked S I L) (b : Clocked T J L) : Type 0 where
  pub begins : (tick : ℕ) (s : S) (t : T) → Same s t → Same (a.begins tick s) (b.begins tick t)
  pub takes : (i : I) (j : J) (s : S) (t : T) → SameInput i j → Same s t → Same (a.takes i s) (b.takes j t)
  pub turn : (cpu tick : ℕ) (s : S) (t : T) → tick < most → Same s t → AreAlikeTurns Same (a.turn cpu tick s) (b.turn cpu tick t)

-- in each tick below a bound the inputs are alike, in their order, and CPUs have the same order
pub record AreAlikeTicks {I J : Type 0} (SameInput : I → J → Type 0) (most : ℕ) (inputs : ℕ → List I) (inputs' : ℕ → List J) (order order' : ℕ → List ℕ) : Type 0 where
  pub taken : (tick : ℕ) → tick < most → AllZip SameInput (inputs tick) (inputs' tick)
  pub orders : (tick : ℕ) → tick < most → order tick ≡ order' tick
