-- The tables of several subjects in one memory, and the windows that they are held against (Intel SDM volume 3, the extended
-- page table mechanism). A position counts the pages of guest addresses of all subjects, subject by subject.
use Rattle.std.specs.Prelude.{ℕ, ◌-◌, ◌*◌, ◌/◌, ◌%◌, ◌^◌, ◌==◌, Bool, List, [], map, slice_index, slice_index_or, slice_get, Option, option_map}
use Rattle.ept_check.specs.declared.types.SubjectTables.{SubjectTables}
use Rattle.ept_emit.specs.Emitted.{translation}
use Rattle.ept_emit.specs.declared.window.Window.{Window}
use Rattle.machine_layout.specs.Memory.{Page, is_there}
use Rattle.machine_layout.specs.Walks.{addresses_from, entry_of, root_of, walk_from}
use Rattle.machine_layout.specs.declared.walk.Walk.{Walk}
use Rattle.muen_num.specs.Access.{kind_bit}
use Rattle.muen_num.specs.declared.access.AccessKind.{AccessKind}
use Rattle.muen_num.specs.Numbers.{is_among}

pub record Tables : Type 0 where
  -- entry i of the table in a page, where memory has it
  pub entry : ℕ → ℕ → Option ℕ
  -- memory has this page
  pub there : ℕ → Bool
  -- the page is declared to be a table
  pub is_table : ℕ → Bool
  -- the page of each subject's PML4 table
  pub roots : List ℕ
  -- each subject's windows
  pub windows : List (List Window)

-- those in a memory, where these pages are declared to be tables
abbrev pub tables_in : List Page → List ℕ → List SubjectTables → Tables
tables_in m pages subjects = record {
  entry = entry_of m;
  there = is_there m;
  is_table = is_among pages;
  roots = map (λ s. root_of s.eptp) subjects;
  windows = map (λ s. s.windows) subjects;
}

-- ---- positions

abbrev pub subject_of : ℕ → ℕ
subject_of q = q / 2 ^ 36

abbrev pub addr_of : ℕ → ℕ
addr_of q = 4096 * (q % 2 ^ 36)

abbrev pub root_at : Tables → ℕ → ℕ
root_at v q = slice_index v.roots (subject_of q)

abbrev pub windows_at : Tables → ℕ → List Window
windows_at v q = slice_index_or v.windows (subject_of q) []

-- ---- where a walk ends, and where the windows lead

abbrev pub walk_at : Tables → ℕ → ℕ → AccessKind → Walk
walk_at v subject addr kind = walk_from v.entry v.there addr (kind_bit kind) 3 (slice_index v.roots subject) 7

abbrev pub look_at : Tables → ℕ → ℕ → AccessKind → Walk
look_at v subject addr kind = translation (slice_index_or v.windows subject []) addr kind

abbrev pub walk : Tables → ℕ → AccessKind → Walk
walk v q kind = walk_at v (subject_of q) (addr_of q) kind

abbrev pub expected_walk : Tables → ℕ → AccessKind → Walk
expected_walk v q kind = look_at v (subject_of q) (addr_of q) kind

-- ---- what a walk reads

-- the addresses of the entries that it reads, in order
unfoldable pub addresses : Tables → ℕ → List ℕ
addresses v q = addresses_from v.entry (addr_of q) 3 (root_at v q)

-- the page of the table of a level that it reads
unfoldable pub table_read : Tables → ℕ → ℕ → Option ℕ
table_read v q level = option_map (λ at. at / 4096) (slice_get (addresses v q) (3 - level))
