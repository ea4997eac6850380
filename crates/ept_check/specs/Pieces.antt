-- Parts of the work.
use Rattle.std.specs.Prelude.{Option, ℕ, ◌+◌, ◌/◌, ◌<◌, ◌≤◌, ◌⊎◌, not, Bool}
use Rattle.std.specs.List.{list_any}
use Rattle.ept_check.specs.Entries.{ended}
use Rattle.ept_check.specs.Sound.{IsWhole}
use Rattle.ept_check.specs.Tables.{addr_of}
use Rattle.ept_emit.specs.declared.window.Window.{Window}
use Rattle.machine_layout.specs.Walks.{addresses_from}
use Rattle.machine_layout.specs.declared.walk.Walk.{Walk}
use Rattle.muen_num.specs.Access.{kind_bit}
use Rattle.muen_num.specs.declared.access.AccessKind.{AccessKind}

-- where an entry that references no table leads the positions for which it stands
abbrev pub led_by_entry : (ℕ → Bool) → ℕ → ℕ → ℕ → ℕ → AccessKind → Walk
led_by_entry there level e rights q kind = ended there level e (addr_of q) (kind_bit kind) rights

-- from this table on, the walk for an address reads outside the tables
unfoldable pub leaves : (ℕ → ℕ → Option ℕ) → (ℕ → Bool) → ℕ → ℕ → ℕ → Bool
leaves entry is_table addr level t = list_any (λ at. not (is_table (at / 4096))) (addresses_from entry addr level t)

-- the window neither begins nor ends between two addresses
pub record HasNoEdgeBetween (low high : ℕ) (w : Window) : Type 0 where
  pub begins : (w.guest ≤ low) ⊎ (high ≤ w.guest)
  pub ends : (w.guest + w.size ≤ low) ⊎ (high ≤ w.guest + w.size)

-- the window shows whole pages, and has the address
pub record Holds (addr : ℕ) (w : Window) : Type 0 where
  pub whole : IsWhole w
  pub low : w.guest ≤ addr
  pub high : addr < w.guest + w.size
