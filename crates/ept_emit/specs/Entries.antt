-- The entries that the emitted tables have (Intel SDM volume 3, "VMX Support for Address Translation": the formats of the
-- EPT PML4 entry, and of the PDPTE, the PDE and the PTE that map a page or reference a table).
use Rattle.std.specs.Prelude.{◌≡◌, ℕ, zero, suc, ◌+◌, ◌-◌, ◌*◌, ◌%◌, ◌^◌, ◌<◌, ◌≤◌, ◌==◌, ◌&&◌, ◌||◌, nat_le, Bool, List, take, drop, Option}
use Rattle.std.specs.List.{find}
use Rattle.ept_emit.specs.declared.window.Leaf.{Leaf}
use Rattle.ept_emit.specs.declared.window.Leaf.TheVariants.{Small, Large, Huge}
use Rattle.ept_emit.specs.declared.window.Window.{Window}
use Rattle.ept_emit.specs.Pages.{guest_range_of, touches}
use Rattle.machine_layout.specs.Memory.{le_number}
use Rattle.machine_layout.specs.Walks.{entry_size}
use Rattle.policy_types.specs.Rights.{rights_bits}
use Rattle.policy_types.specs.declared.rights.Caching.{Caching}
use Rattle.policy_types.specs.declared.rights.Rights.{Rights}
use Rattle.policy_types.specs.declared.rights.Caching.TheVariants.{Uc, Wc, Wt, Wp, Wb}

-- the level of the tables whose entries map pages of this size
abbrev pub level_of : Leaf → ℕ
level_of Small = 0
level_of Large = 1
level_of Huge = 2

-- the memory type as bits 5:3 have it
abbrev pub type_of : Caching → ℕ
type_of Uc = 0
type_of Wc = 1
type_of Wt = 4
type_of Wp = 5
type_of Wb = 6

-- bit 7 of an entry that maps a page: set above a page table
abbrev pub size_bit : ℕ → ℕ
size_bit zero = 0
size_bit (suc level) = 128

-- entry e of a level, counted over all tables of the level, stands for the addresses from span level * e on. It may map a
-- page of the window where those are the window's, and the window lets pages be so large. At the lowest level the entry of
-- an address of the window always may
abbrev pub is_whole : Window → ℕ → ℕ → Bool
is_whole w level e =
    (level == 0)
    || (nat_le level (level_of w.leaf) && (nat_le w.guest (entry_size level * e) && nat_le (entry_size level * e + entry_size level) (w.guest + w.size)))

-- an entry that maps a page of the window
abbrev pub leaf_entry : Window → ℕ → ℕ → ℕ
leaf_entry w level e = w.address + (entry_size level * e - w.guest) + size_bit level + 8 * type_of w.caching + rights_bits w.rights

-- an entry that references the table in a page, and lets through what these rights allow
abbrev pub table_entry : Rights → ℕ → ℕ
table_entry pointers page = 4096 * page + rights_bits pointers

-- the window that holds one of the n addresses from lo on, the first of them
abbrev pub window_touching : List Window → ℕ → ℕ → Option Window
window_touching ws lo n = find (λ w. touches (guest_range_of w) lo n) ws

-- the word of 8 bytes in tables that lie in one run of bytes: entry i of table k is word 512 * k + i
abbrev pub word_at : List ℕ → ℕ → ℕ
word_at bytes j = le_number (take 8 (drop (8 * j) bytes))

-- what tables can be emitted for: whole pages, of addresses that there are, and that pages of the wanted size can map
pub record IsEmittable (w : Window) : Type 0 where
  pub some : 0 < w.size
  pub guest : w.guest % 4096 ≡ 0
  pub size : w.size % 4096 ≡ 0
  pub address : w.address % 4096 ≡ 0
  pub end : w.guest + w.size ≤ 2 ^ 48
  pub address_end : w.address + w.size ≤ 2 ^ 40
  pub aligned : w.address % entry_size (level_of w.leaf) ≡ w.guest % entry_size (level_of w.leaf)
