-- When tables are sound: by what is looked up for every address.
use Rattle.std.specs.Prelude.{◌≡◌, ℕ, ◌+◌, ◌*◌, ◌/◌, ◌%◌, ◌^◌, ◌<◌, ◌≤◌, Bool, true, List, length, slice_index}
use Rattle.std.specs.List.{All, AllPairs}
use Rattle.ept_check.specs.Known.{IsSameWalkPath, Reads}
use Rattle.ept_check.specs.Tables.{Tables, look_at, walk_at}
use Rattle.muen_num.specs.Numbers.{is_among}
use Rattle.ept_check.specs.declared.types.SubjectTables.{SubjectTables}
use Rattle.ept_emit.specs.declared.window.Window.{Window}
use Rattle.machine_layout.specs.Memory.{Page, is_there}
use Rattle.machine_layout.specs.Walks.{addresses_from}
use Rattle.muen_num.specs.declared.access.AccessKind.{AccessKind}
use Rattle.phys_mem.specs.Frames.{IsRising}

-- each access is led where the windows lead it, and no entry outside the tables is read
pub record AreSound (v : Tables) : Type 0 where
  pub led : (subject addr : ℕ) (kind : AccessKind) → subject < length v.roots → addr < 2 ^ 48 → walk_at v subject addr kind ≡ look_at v subject addr kind
  pub tables : (subject addr : ℕ) → subject < length v.roots → addr < 2 ^ 48
      → All (λ at. v.is_table (at / 4096) ≡ true) (addresses_from v.entry addr 3 (slice_index v.roots subject))

-- no table is read on two paths
abbrev pub HasOnePathPerTable : Tables → Type 0
HasOnePathPerTable v =
    (p m q l t : ℕ) → p < 2 ^ 36 * length v.roots → q < 2 ^ 36 * length v.roots → Reads v p m t → Reads v q l t → IsSameWalkPath p m q l

-- ---- what is given

-- a window shows whole pages, of addresses that there are
pub record IsWhole (w : Window) : Type 0 where
  pub guest : w.guest % 4096 ≡ 0
  pub size : w.size % 4096 ≡ 0
  pub address : w.address % 4096 ≡ 0
  pub end : w.guest + w.size ≤ 2 ^ 48
  pub address_end : w.address + w.size ≤ 2 ^ 40

-- memory has each page that a window shows
abbrev pub HasPages : (ℕ → Bool) → Window → Type 0
HasPages there w = (k : ℕ) → w.address ≤ 4096 * k → 4096 * k < w.address + w.size → there k ≡ true

-- each ends where the next one begins, or before it
abbrev pub AreApart : List Window → Type 0
AreApart ws = AllPairs (λ a b. a.guest + a.size ≤ b.guest) ws

-- the windows of a subject
pub record AreSubjectWindows (there : ℕ → Bool) (ws : List Window) : Type 0 where
  pub whole : All IsWhole ws
  pub pages : All (HasPages there) ws
  pub apart : AreApart ws

-- the pages that are declared to be tables are numbered in order, and memory has each of them
pub record AreTables (m : List Page) (pages : List ℕ) : Type 0 where
  pub rising : IsRising pages
  pub there : (t : ℕ) → is_among pages t ≡ true → is_there m t ≡ true
  pub small : (t : ℕ) → is_among pages t ≡ true → t < 2 ^ 40
  pub few : length pages ≤ 2 ^ 40

-- so it is with the windows of each subject
pub record CanBeChecked (m : List Page) (pages : List ℕ) (subjects : List SubjectTables) : Type 0 where
  pub tables : AreTables m pages
  pub windows : All (λ s. AreSubjectWindows (is_there m) s.windows) subjects
  pub few : length subjects ≤ 2 ^ 20
