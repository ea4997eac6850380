-- A sink in memory as its callers see it.
use Rattle.std.specs.Prelude.{ℕ, ◌-◌, List, length, Bool, ◌||◌, min, nat_lt, ◌==◌, if◌then◌else◌}
use Rattle.std.specs.List.{list_any}
use Rattle.muen_outside.specs.States.{SinkState}

pub record Filling : Type 0 where
  pub text : List ℕ
  -- how many bytes it can hold
  pub room : ℕ
  -- the numbers of the calls that fail
  pub fails : List ℕ
  -- how many bytes such a call appends at most
  pub keep : ℕ
  -- how many calls there were, up to 2 ^ 64 - 1
  pub calls : ℕ
  -- how many calls have failed
  pub faults : ℕ

-- the next call's number is listed
abbrev pub next_sink_call_fails : Filling → Bool
next_sink_call_fails s = list_any (λ n. n == s.calls) s.fails

-- how many of n bytes the next call appends
abbrev pub taken : Filling → ℕ → ℕ
taken s n = min (min (if next_sink_call_fails s then s.keep else n) n) (s.room - length s.text)

-- the next call fails on n bytes
abbrev pub fails_at : Filling → ℕ → Bool
fails_at s n = next_sink_call_fails s || nat_lt (taken s n) n

abbrev pub sink_of : Filling → SinkState
sink_of s = record { given = s.text; faults = s.faults }
