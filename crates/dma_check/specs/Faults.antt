-- **The first fault** of tables: of all tests in order, the first that fails (this project's own).
use Rattle.std.specs.Prelude.{ℕ, zero, suc, ◌-◌, ◌*◌, ◌/◌, ◌^◌, ◌==◌, ◌&&◌, not, if◌then◌else◌, Bool, true, false, List, [], ◌∷◌, Option, Some, None}
use Rattle.std.specs.Option.{option_map_or}
use Rattle.std.specs.List.{list_any}
use Rattle.dma_check.specs.Sources.{SOURCES}
use Rattle.dma_check.specs.Views.{View, addr_of, bus_of, devfn_of, source_of, table_at, walk_at}
use Rattle.dma_check.specs.declared.fault.FaultKind.{FaultKind}
use Rattle.dma_check.specs.declared.fault.FaultKind.TheVariants.{Lacks, Leak, Outside, Twice}
use Rattle.dma_check.specs.declared.fault.TableFault.{TableFault}
use Rattle.ept_check.specs.Faults.{same_table}
use Rattle.ept_check.specs.Search.{when}
use Rattle.machine_layout.specs.Walks.{entry_size}
use Rattle.muen_num.specs.Range.{numbers_below}
use Rattle.muen_num.specs.Search.{first_in, first_of}

-- ---- the tables that a walk comes to

-- how many steps below the root table they are
abbrev pub steps : List ℕ
steps = 0 ∷ 1 ∷ 2 ∷ 3 ∷ 4 ∷ 5 ∷ []

-- one that isn't in the file
unfoldable pub is_outside : View → ℕ → Bool
is_outside v q = list_any (λ n. option_map_or (λ t. not (v.is_table t)) (table_at v q n) false) steps

-- one path to a table: there is one root table; a context table is its bus's; a second-level table stands below the highest
-- table of a source, which all sources share whose context entries refer to it, for a range of addresses
abbrev pub same_way : View → ℕ → ℕ → ℕ → Bool
same_way v p q zero = true
same_way v p q (suc zero) = bus_of (source_of p) == bus_of (source_of q)
same_way v p q (suc (suc n)) =
    same_table (table_at v p 2) (table_at v q 2) && (addr_of p / entry_size (4 - n) == addr_of q / entry_size (4 - n))

abbrev pub same_path : View → ℕ → ℕ → ℕ → ℕ → Bool
same_path v p m q n = (m == n) && same_way v p q n

-- the table m steps below the root for p and that n steps below it for q are one table on two paths
abbrev pub is_clash : View → ℕ → ℕ → ℕ → ℕ → Bool
is_clash v q n p m = same_table (table_at v p m) (table_at v q n) && not (same_path v p m q n)

-- a table that this walk, or that for an earlier position, comes to on another path
unfoldable pub is_twice : View → ℕ → Bool
is_twice v q = list_any (λ p. list_any (λ n. list_any (λ m. is_clash v q n p m) steps) steps) (numbers_below (suc q))

-- ---- where accesses come to

-- to read, and to write
abbrev pub writes : List Bool
writes = false ∷ true ∷ []

abbrev pub same_end : Option ℕ → Option ℕ → Bool
same_end None None = true
same_end (Some a) (Some b) = a == b
same_end (Some a) None = false
same_end None (Some b) = false

-- the address to which an access comes, where that isn't declared
abbrev pub astray : Option ℕ → Option ℕ → Option ℕ
astray None told = None
astray (Some a) told = if same_end (Some a) told then None else Some a

-- it comes to none, and one is declared
abbrev pub is_lack : Option ℕ → Option ℕ → Bool
is_lack None (Some b) = true
is_lack None None = false
is_lack (Some a) told = false

-- ---- in order

abbrev pub fault_of_kind : FaultKind → ℕ → TableFault
fault_of_kind kind q = record { kind = kind; bus = bus_of (source_of q); devfn = devfn_of (source_of q); addr = addr_of q }

-- of where accesses are led, against what is declared
abbrev pub contents : (ℕ → Bool) → (ℕ → Bool → Option ℕ) → (ℕ → Bool → Option ℕ) → ℕ → Option TableFault
contents is_memory walked told q =
    first_of (
    when (list_any (λ write. option_map_or (λ a. not (is_memory a)) (astray (walked q write) (told q write)) false) writes) (fault_of_kind Outside q)
    ∷ when (list_any (λ write. option_map_or is_memory (astray (walked q write) (told q write)) false) writes) (fault_of_kind Leak q)
    ∷ when (list_any (λ write. is_lack (walked q write) (told q write)) writes) (fault_of_kind Lacks q)
    ∷ []
    )

abbrev pub walk : View → ℕ → Bool → Option ℕ
walk v q write = walk_at v (source_of q) (addr_of q) write

abbrev pub expected : View → ℕ → Bool → Option ℕ
expected v q write = v.declared (source_of q) (addr_of q) write

unfoldable pub fault_at : View → ℕ → Option TableFault
fault_at v q =
    first_of (when (is_outside v q) (fault_of_kind Outside q) ∷ when (is_twice v q) (fault_of_kind Twice q) ∷ contents v.is_memory (walk v) (expected v) q ∷ [])

-- how many positions there are
unfoldable pub positions : ℕ
positions = 2 ^ 48 * SOURCES

-- source by source, by bus, device and function, and for each its addresses ascending, each by its tests in order
unfoldable pub table_fault : View → Option TableFault
table_fault v = first_in (fault_at v) (numbers_below positions)
