-- Where the tables lead, before the rights are judged.
use Rattle.std.specs.Prelude.{◌≡◌, ℕ, ◌+◌, ◌%◌, ◌<◌, Bool, List, slice_index_or}
use Rattle.machine_layout.specs.Walks.{entry_address, leaf_end}
use Rattle.machine_layout.specs.declared.walk.Walk.{Walk}
use Rattle.machine_layout.specs.declared.walk.Walk.TheVariants.{At, Violation, Misconfigured}
use Rattle.ept_walk.specs.declared.trace.End.{End}
use Rattle.ept_walk.specs.declared.trace.End.TheVariants.{Absent, Invalid, Leads}

-- the walk that ends there, for an access that wants these rights
abbrev pub judged : (ℕ → Bool) → ℕ → ℕ → End → Walk
judged there addr want Absent = Violation 0
judged there addr want Invalid = Misconfigured
judged there addr want (Leads t) = leaf_end there addr want t.rights t.address

-- the walk for an address that is so many bytes later in the same page
abbrev pub offset_walk : ℕ → Walk → Walk
offset_walk offset (At address) = At (address + offset)
offset_walk offset (Violation rights) = Violation rights
offset_walk offset Misconfigured = Misconfigured

-- they lead to the first byte of a page, if anywhere
abbrev pub LeadsToPage : End → Type 0
LeadsToPage Absent = Unit {0}
LeadsToPage Invalid = Unit {0}
LeadsToPage (Leads t) = t.address % 4096 ≡ 0

-- q is the address of an entry of a table that is in one of these pages, the tables of four levels
pub record IsEntryOf (tables : List ℕ) (q : ℕ) : Type 0 where
  pub level : ℕ
  pub within : level < 4
  pub index : ℕ
  pub few : index < 512
  pub is : q ≡ entry_address (slice_index_or tables level 0) index
