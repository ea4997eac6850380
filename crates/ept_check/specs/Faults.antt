-- **The first fault** of tables: of all tests in order, the first that fails (this project's own).
use Rattle.std.specs.Prelude.{ℕ, suc, ◌*◌, ◌/◌, ◌^◌, ◌==◌, ◌&&◌, not, Bool, true, false, List, [], ◌∷◌, length, Option, Some, None}
use Rattle.std.specs.List.{list_any}
use Rattle.ept_check.specs.Search.{when}
use Rattle.ept_check.specs.Tables.{Tables, addr_of, addresses, expected_walk, subject_of, table_read, walk}
use Rattle.ept_check.specs.declared.types.TableFault.{TableFault}
use Rattle.ept_check.specs.declared.types.FaultKind.{FaultKind}
use Rattle.ept_check.specs.declared.types.FaultKind.TheVariants.{Lacks, Leak, Outside, Twice}
use Rattle.machine_layout.specs.Walks.{entry_size}
use Rattle.machine_layout.specs.declared.walk.Walk.{Walk}
use Rattle.machine_layout.specs.declared.walk.Walk.TheVariants.{At, Misconfigured, Violation}
use Rattle.muen_num.specs.Range.{numbers_below}
use Rattle.muen_num.specs.Search.{first_in, first_of}
use Rattle.muen_num.specs.declared.access.AccessKind.{AccessKind}
use Rattle.muen_num.specs.declared.access.AccessKind.TheVariants.{Fetch, Read, Write}

-- ---- the tests at a position

-- an entry is read outside the tables
unfoldable pub is_outside : Tables → ℕ → Bool
is_outside v q = list_any (λ at. not (v.is_table (at / 4096))) (addresses v q)

abbrev pub same_table : Option ℕ → Option ℕ → Bool
same_table None b = false
same_table (Some t) None = false
same_table (Some t) (Some u) = t == u

-- a path: the subject, the level, and the address above the table
abbrev pub same_path : ℕ → ℕ → ℕ → ℕ → Bool
same_path p m q l =
    (subject_of p == subject_of q) && ((m == l) && (addr_of p / entry_size (suc m) == addr_of q / entry_size (suc l)))

-- the table of level m for p and that of level l for q are one table on two paths
abbrev pub is_clash : Tables → ℕ → ℕ → ℕ → ℕ → Bool
is_clash v q l p m = same_table (table_read v p m) (table_read v q l) && not (same_path p m q l)

abbrev pub levels : List ℕ
levels = 0 ∷ 1 ∷ 2 ∷ 3 ∷ []

-- a table is read that is read on another path, for this position or an earlier one
unfoldable pub is_twice : Tables → ℕ → Bool
is_twice v q = list_any (λ p. list_any (λ l. list_any (λ m. is_clash v q l p m) levels) levels) (numbers_below (suc q))

abbrev pub kinds : List AccessKind
kinds = Read ∷ Write ∷ Fetch ∷ []

abbrev pub is_at : Walk → Bool
is_at (At address) = true
is_at (Violation rights) = false
is_at Misconfigured = false

abbrev pub same : Walk → Walk → Bool
same (At a) (At b) = a == b
same (Violation a) (Violation b) = a == b
same Misconfigured Misconfigured = true
same (At a) (Violation b) = false
same (At a) Misconfigured = false
same (Violation a) (At b) = false
same (Violation a) Misconfigured = false
same Misconfigured (At b) = false
same Misconfigured (Violation b) = false

-- some kind of access is led to an address to which the windows don't lead it
abbrev pub is_leak : (AccessKind → Walk) → (AccessKind → Walk) → Bool
is_leak walked told = list_any (λ kind. is_at (walked kind) && not (same (walked kind) (told kind))) kinds

-- some kind of access ends at no address, and not as the windows say
abbrev pub is_lack : (AccessKind → Walk) → (AccessKind → Walk) → Bool
is_lack walked told = list_any (λ kind. not (is_at (walked kind)) && not (same (walked kind) (told kind))) kinds

-- ---- in order

abbrev pub table_fault_of_kind : FaultKind → ℕ → TableFault
table_fault_of_kind kind q = record { kind = kind; subject = subject_of q; addr = addr_of q }

-- of where accesses are led, against where the windows lead them
abbrev pub contents : (ℕ → AccessKind → Walk) → (ℕ → AccessKind → Walk) → ℕ → Option TableFault
contents walked told q =
    first_of (when (is_leak (walked q) (told q)) (table_fault_of_kind Leak q) ∷ when (is_lack (walked q) (told q)) (table_fault_of_kind Lacks q) ∷ [])

unfoldable pub table_fault_at : Tables → ℕ → Option TableFault
table_fault_at v q =
    first_of (when (is_outside v q) (table_fault_of_kind Outside q) ∷ when (is_twice v q) (table_fault_of_kind Twice q) ∷ contents (walk v) (expected_walk v) q ∷ [])

-- subject by subject, and for each its guest pages ascending, each by its tests in order
unfoldable pub table_fault : Tables → Option TableFault
table_fault v = first_in (table_fault_at v) (numbers_below (2 ^ 36 * length v.roots))
