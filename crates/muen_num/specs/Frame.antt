-- Minor frames of a scheduling plan (Muen kernel report: minor frames).
use Rattle.std.specs.Prelude.{ℕ}

-- a minor frame: the number of its scheduling group, and its ticks
pub record Frame : Type 0 where
  pub group : ℕ
  pub ticks : ℕ
