-- A sink in memory that grows, as its callers see it.
use Rattle.std.specs.Prelude.{ℕ, List}
use Rattle.muen_outside.specs.States.{SinkState}

pub record Growing : Type 0 where
  pub given : List ℕ
  -- how many bytes it can hold before more memory is asked for
  pub room : ℕ
  -- how many calls have failed
  pub faults : ℕ

abbrev pub growing_state : Growing → SinkState
growing_state s = record { given = s.given; faults = s.faults }
