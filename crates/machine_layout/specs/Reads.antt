-- Which tables a walk reads (Intel SDM volume 3, "VMX Support for Address Translation").
use Rattle.std.specs.Prelude.{◌≡◌, ℕ, ◌-◌, ◌/◌, ◌<◌, ◌≤◌, List, length, slice_index}
use Rattle.machine_layout.specs.Memory.{Page}
use Rattle.machine_layout.specs.Walks.{addresses_read}

-- the walk for an address reads an entry of the table of this level in this page: entries are read from the PML4 table, of
-- level 3, on down
pub record Reads (m : List Page) (eptp addr level page : ℕ) : Type 0 where
  pub depth : level ≤ 3
  pub within : 3 - level < length (addresses_read m eptp addr)
  pub here : slice_index (addresses_read m eptp addr) (3 - level) / 4096 ≡ page
