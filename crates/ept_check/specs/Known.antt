-- What is known of the tables that were entered so far.
use Rattle.std.specs.Prelude.{◌≡◌, ℕ, zero, suc, ◌/◌, ◌<◌, ◌≤◌, ◌⊎◌, Bool, true, Option, Some, None, bit_and, if◌then◌else◌}
use Rattle.ept_check.specs.Entries.{leads_on, pages}
use Rattle.ept_check.specs.Tables.{Tables, addr_of, root_at, table_read}
use Rattle.machine_layout.specs.Walks.{bits_of, index_at}

-- ---- the table, and the rights so far, to which the walk for a position comes on a level, `up` levels below the first

abbrev pub by_entry : ℕ → ℕ → Option ℕ → Option (ℕ × ℕ)
by_entry level r None = None
by_entry level r (Some e) = if leads_on level e then Some (bits_of e 12 51, bit_and r (bits_of e 0 2)) else None

abbrev pub by_table : Tables → ℕ → ℕ → Option (ℕ × ℕ) → Option (ℕ × ℕ)
by_table v q level None = None
by_table v q level (Some s) = by_entry level s.1 (v.entry s.0 (index_at level (addr_of q)))

unfoldable pub come : Tables → ℕ → ℕ → ℕ → Option (ℕ × ℕ)
come v q zero level = Some (root_at v q, 7)
come v q (suc up) level = by_table v q (suc level) (come v q up (suc level))

-- ---- reads

-- the walk for position p reads the table t on level m
pub record Reads (v : Tables) (p m t : ℕ) : Type 0 where
  pub depth : m ≤ 3
  pub here : table_read v p m ≡ Some t

-- it is a read for a position before x, or for q on level l or above
abbrev pub IsBefore : ℕ → ℕ → ℕ → ℕ → ℕ → Type 0
IsBefore p m x q l = (p < x) ⊎ ((p ≡ q) × (l ≤ m))

-- such a read of the table
pub record IsReadBefore (v : Tables) (t x q l : ℕ) : Type 0 where
  pub p : ℕ
  pub m : ℕ
  pub reads : Reads v p m t
  pub before : IsBefore p m x q l

-- one path: the level, and the subject and the address above the table
pub record IsSameWalkPath (p m q l : ℕ) : Type 0 where
  pub level : m ≡ l
  pub above : p / pages (suc m) ≡ q / pages (suc m)

-- the tables that were seen are those of the reads before, and each of these was on one path
pub record Known (v : Tables) (seen : ℕ → Bool) (x q l : ℕ) : Type 0 where
  pub only : (t : ℕ) → seen t ≡ true → IsReadBefore v t x q l
  pub all : (p m t : ℕ) → Reads v p m t → IsBefore p m x q l → seen t ≡ true
  pub apart : (p m o n t : ℕ) → Reads v p m t → Reads v o n t → IsBefore p m x q l → IsBefore o n x q l → IsSameWalkPath p m o n
  pub tables : (t : ℕ) → seen t ≡ true → v.is_table t ≡ true
