-- What the emitted tables mean (Intel SDM volume 3, "VMX Support for Address Translation").
use Rattle.std.specs.Prelude.{◌≡◌, ◌⊎◌, ℕ, suc, ◌+◌, ◌-◌, ◌*◌, ◌/◌, ◌^◌, ◌<◌, ◌≤◌, ◌&&◌, nat_lt, nat_le, Bool, true, if◌then◌else◌, List, length, take, drop, All, IfSome, Option, Some, None}
use Rattle.std.specs.List.{find}
use Rattle.ept_emit.specs.declared.window.Window.{Window}
use Rattle.machine_layout.specs.declared.walk.Walk.{Walk}
use Rattle.machine_layout.specs.declared.walk.Walk.TheVariants.{At, Violation}
use Rattle.machine_layout.specs.Memory.{Page, is_there, page_of}
use Rattle.machine_layout.specs.Walks.{addresses_read, entry_size, leaf_size, leaf_type, walk_of}
use Rattle.muen_num.specs.declared.access.AccessKind.{AccessKind}
use Rattle.policy_types.specs.Rights.{allows, rights_bits}
use Rattle.ept_emit.specs.Entries.{level_of, type_of, word_at}
use Rattle.machine_layout.specs.Reads.{Reads}

-- the extended-page-table pointer of tables whose PML4 table is at `at`: write back in bits 2:0, the length of walks minus
-- one in bits 5:3, no flags of accesses in bit 6
abbrev pub eptp_of : ℕ → ℕ
eptp_of at = at + (6 + 8 * 3)

-- ---- what windows say

-- the address is one of the window
abbrev pub holds : ℕ → Window → Bool
holds addr w = nat_le w.guest addr && nat_lt addr (w.guest + w.size)

-- the window that holds an address
abbrev pub window_at : List Window → ℕ → Option Window
window_at ws addr = find (holds addr) ws

abbrev pub translation_in : Option Window → ℕ → AccessKind → Walk
translation_in None addr kind = Violation 0
translation_in (Some w) addr kind =
    if allows w.rights kind then At (w.address + (addr - w.guest)) else Violation (rights_bits w.rights)

-- where a window leads an access: to its physical address, where the window has the right for it
abbrev pub translation : List Window → ℕ → AccessKind → Walk
translation ws addr kind = translation_in (window_at ws addr) addr kind

-- the aligned range around an address that a page of this level maps lies wholly in the window
pub record IsInside (w : Window) (level addr : ℕ) : Type 0 where
  pub begins : w.guest ≤ entry_size level * (addr / entry_size level)
  pub ends : entry_size level * (addr / entry_size level) + entry_size level ≤ w.guest + w.size

-- the size is the greatest of those up to the window's whose aligned range around the address lies wholly in the window
pub record IsGreatestSize (w : Window) (addr size : ℕ) : Type 0 where
  pub level : ℕ
  pub is : size ≡ entry_size level
  pub allowed : level ≤ level_of w.leaf
  pub inside : IsInside w level addr
  pub greatest : (higher : ℕ) → higher ≤ level_of w.leaf → IsInside w higher addr → higher ≤ level

-- ---- a memory that has the tables

-- each page of the tables stands in memory, from the address `at` on
abbrev pub HasTables : List Page → ℕ → List ℕ → Type 0
HasTables m at bytes = (k : ℕ) → 4096 * k < length bytes → page_of m (at / 4096 + k) ≡ Some (take 4096 (drop (4096 * k) bytes))

-- each page that a window leads to is there
abbrev pub HasWindowPages : List Page → List Window → Type 0
HasWindowPages m ws = All (λ w. (k : ℕ) → w.address ≤ 4096 * k → 4096 * k < w.address + w.size → is_there m k ≡ true) ws

-- some walk for an address up to a last one reads the table in this page
pub record IsReadBy (m : List Page) (eptp last page : ℕ) : Type 0 where
  pub addr : ℕ
  pub level : ℕ
  pub small : addr ≤ last
  pub reads : Reads m eptp addr level page

-- ---- what tables at an address mean in every memory that has them

-- a walk leads each access where the windows do
abbrev pub AreTranslating : List Window → ℕ → List ℕ → Type 0
AreTranslating ws at tables =
    (m : List Page) (addr : ℕ) (kind : AccessKind) → HasTables m at tables → HasWindowPages m ws → addr < 2 ^ 48
    → walk_of m (eptp_of at) addr kind ≡ translation ws addr kind

-- a walk reads nothing but the tables
abbrev pub AreReadAlone : ℕ → List ℕ → Type 0
AreReadAlone at tables =
    (m : List Page) (addr : ℕ) → HasTables m at tables → addr < 2 ^ 48
    → All (λ address. (at ≤ address) × (address + 8 ≤ at + length tables)) (addresses_read m (eptp_of at) addr)

-- each table is read at one path: its level, and the address bits above it
abbrev pub HaveOnePath : ℕ → List ℕ → Type 0
HaveOnePath at tables =
    (m : List Page) (a b level other page : ℕ) → HasTables m at tables → a < 2 ^ 48 → b < 2 ^ 48
    → Reads m (eptp_of at) a level page → Reads m (eptp_of at) b other page
    → (level ≡ other) × (a / entry_size (suc level) ≡ b / entry_size (suc level))

-- each address of a window is mapped by the greatest page
abbrev pub HaveGreatestPages : List Window → ℕ → List ℕ → Type 0
HaveGreatestPages ws at tables =
    (m : List Page) (addr : ℕ) → HasTables m at tables → addr < 2 ^ 48
    → IfSome (window_at ws addr) (λ w. IsGreatestSize w addr (leaf_size m (eptp_of at) addr))

-- each address of a window is mapped with the window's memory type
abbrev pub HaveMemoryTypes : List Window → ℕ → List ℕ → Type 0
HaveMemoryTypes ws at tables =
    (m : List Page) (addr : ℕ) → HasTables m at tables → addr < 2 ^ 48
    → IfSome (window_at ws addr) (λ w. leaf_type m (eptp_of at) addr ≡ Some (type_of w.caching))

-- along one walk the pages of tables ascend
abbrev pub AreAscending : ℕ → List ℕ → Type 0
AreAscending at tables =
    (m : List Page) (addr level page lower lower_page : ℕ) → HasTables m at tables → addr < 2 ^ 48
    → Reads m (eptp_of at) addr level page → Reads m (eptp_of at) addr lower lower_page → lower < level → page < lower_page

-- tables lie in the order in which ascending addresses read them
abbrev pub AreInOrder : ℕ → List ℕ → Type 0
AreInOrder at tables =
    (m : List Page) (addr level page k : ℕ) → HasTables m at tables → addr < 2 ^ 48 → Reads m (eptp_of at) addr level page
    → at / 4096 ≤ k → k ≤ page → IsReadBy m (eptp_of at) addr k

-- each of so many pages is read by some walk, or is zero
abbrev pub AreReadOrZero : ℕ → ℕ → List ℕ → Type 0
AreReadOrZero pages at tables =
    (m : List Page) (k : ℕ) → HasTables m at tables → k < pages
    → IsReadBy m (eptp_of at) (2 ^ 48 - 1) (at / 4096 + k) ⊎ ((i : ℕ) → i < 512 → word_at tables (512 * k + i) ≡ 0)
