-- Positions that are alike: the walk comes to the same tables, and one window has them, or none has any.
use Rattle.std.specs.Prelude.{◌≡◌, ℕ, ◌+◌, ◌/◌, ◌<◌, ◌≤◌}
use Rattle.dma_check.specs.Held.{has_address}
use Rattle.dma_check.specs.Views.{addr_of, source_of}
use Rattle.dma_check.specs.declared.held.DmaWindow.{DmaWindow}
use Rattle.machine_layout.specs.Walks.{entry_size}

-- both are of one source, and one entry of each table of this level, or above it, stands for both
pub record IsAlike (p x level : ℕ) : Type 0 where
  pub source : source_of p ≡ source_of x
  pub part : addr_of p / entry_size level ≡ addr_of x / entry_size level

-- the window has each address up to the second, or none, as it has the first
abbrev pub Keeps : ℕ → ℕ → DmaWindow → Type 0
Keeps low high w = (a : ℕ) → low ≤ a → a < high → has_address a w ≡ has_address low w

-- so many positions from x on are like it
abbrev pub AreAlike : ℕ → ℕ → ℕ → Type 0
AreAlike x count level = (p : ℕ) → x ≤ p → p < x + count → IsAlike p x level
