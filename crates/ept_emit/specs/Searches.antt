-- Windows that end by an address.
use Rattle.std.specs.Prelude.{ℕ, ◌+◌, ◌<◌, ◌≤◌, List, length, slice_index_or}
use Rattle.ept_emit.specs.declared.window.Window.{Window}

-- k windows end by an address, and those behind them don't
pub record IsPast (ws : List Window) (lo k : ℕ) : Type 0 where
  pub within : k ≤ length ws
  pub before : (j : ℕ) (d : Window) → j < k → (slice_index_or ws j d).guest + (slice_index_or ws j d).size ≤ lo
  pub after : (j : ℕ) (d : Window) → k ≤ j → j < length ws → lo < (slice_index_or ws j d).guest + (slice_index_or ws j d).size
