-- Paths by which walks come to tables, and what is known of the tables that were come to so far.
use Rattle.std.specs.Prelude.{◌≡◌, ◌≢◌, ℕ, zero, suc, ◌+◌, ◌-◌, ◌*◌, ◌/◌, ◌<◌, ◌≤◌, ◌⊎◌, nat_le, ◌||◌, not, Bool, true, false, if◌then◌else◌, List, Option, Some, None, unwrap_or, slice_get, option_and_then, slice_index_or}
use Rattle.std.specs.Option.{option_map_or}
use Rattle.dma_check.specs.Sound.{Comes}
use Rattle.dma_check.specs.Views.{View, addr_of, bus_of, source_of, table_at}
use Rattle.dma_check.specs.declared.path.Way.{Way}
use Rattle.dma_check.specs.declared.path.Path.{Path}
use Rattle.machine_layout.specs.Walks.{entry_size}

-- the path by which the walk for a position comes to the table so many steps below the root
abbrev pub way_of : View → ℕ → ℕ → Way
way_of v q zero = record { depth = 0; highest = 0; part = 0 }
way_of v q (suc zero) = record { depth = 1; highest = 0; part = bus_of (source_of q) }
way_of v q (suc (suc n)) = record { depth = suc (suc n); highest = unwrap_or (table_at v q 2) 0; part = addr_of q / entry_size (4 - n) }

-- the tables to which the walk for a position comes
pub record IsPath (v : View) (q : ℕ) (path : Path) : Type 0 where
  pub root : table_at v q 0 ≡ Some path.root
  pub context : path.context ≡ table_at v q 1
  pub level_3 : path.level_3 ≡ table_at v q 2
  pub level_2 : path.level_2 ≡ table_at v q 3
  pub level_1 : path.level_1 ≡ table_at v q 4
  pub level_0 : path.level_0 ≡ table_at v q 5

-- the table is one that some walk comes to by this path, of the first k steps of all positions
pub record IsMarked (v : View) (k t : ℕ) (w : Way) : Type 0 where
  pub p : ℕ
  pub m : ℕ
  pub before : 6 * p + m < k
  pub comes : Comes v p m t
  pub way : way_of v p m ≡ w

-- of the first k steps of all positions, in order, each table has its one path
pub record Marked (v : View) (seen : ℕ → Option Way) (k : ℕ) : Type 0 where
  pub only : (t : ℕ) (w : Way) → seen t ≡ Some w → IsMarked v k t w
  pub all : (p m t : ℕ) → 6 * p + m < k → Comes v p m t → seen t ≡ Some (way_of v p m)

-- the path that stands beside a page, in a list from the root table's page on
abbrev pub seen_in : ℕ → List (Option Way) → ℕ → Option Way
seen_in root ways t = if nat_le root t then slice_index_or ways (t - root) None else None

-- the walk comes to no table any more where the entries of the level's tables differ
pub record Reaches (v : View) (q level : ℕ) : Type 0 where
  pub few : level ≤ 4
  pub stops : (level ≡ 0) ⊎ (table_at v q (6 - level) ≡ None)

-- what came of marking a table with a path: it has it now, or had it; it has another; or there is none
abbrev pub HasOne : (ℕ → Option Way) → (ℕ → Option Way) → ℕ → Way → Type 0
HasOne old new t w = ((old t ≡ Some w) × ((u : ℕ) → new u ≡ old u)) ⊎ ((old t ≡ None) × ((new t ≡ Some w) × ((u : ℕ) → u ≢ t → new u ≡ old u)))

abbrev pub HasAnother : (ℕ → Option Way) → ℕ → Way → Type 0
HasAnother old t w = (o : Way) × ((old t ≡ Some o) × (o ≢ w))

abbrev pub Marks : (ℕ → Option Way) → (ℕ → Option Way) → Option ℕ → Way → Bool → Type 0
Marks old new None w one = (one ≡ true) × ((u : ℕ) → new u ≡ old u)
Marks old new (Some t) w true = HasOne old new t w
Marks old new (Some t) w false = HasAnother old t w

-- a page is one of so many from the root table's on, where there is one
abbrev pub IsWithin : ℕ → ℕ → Option ℕ → Type 0
IsWithin root count None = Unit {0}
IsWithin root count (Some t) = (root ≤ t) × (t < root + count)

-- the tables are pages of a file of so many
pub record AreWithin (path : Path) (count : ℕ) : Type 0 where
  pub some : 0 < count
  pub context : IsWithin path.root count path.context
  pub level_3 : IsWithin path.root count path.level_3
  pub level_2 : IsWithin path.root count path.level_2
  pub level_1 : IsWithin path.root count path.level_1
  pub level_0 : IsWithin path.root count path.level_0

-- some of the tables isn't one
abbrev pub is_out : (ℕ → Bool) → Option ℕ → Bool
is_out is_table table = option_map_or (λ t. not (is_table t)) table false

abbrev pub has_outside : (ℕ → Bool) → Path → Bool
has_outside is_table path =
    not (is_table path.root)
    || (is_out is_table path.context
    || (is_out is_table path.level_3
    || (is_out is_table path.level_2
    || (is_out is_table path.level_1
    || is_out is_table path.level_0))))

-- where the tables to which a position's walk comes are these, and of the steps before it each table has its one path
abbrev pub WhereMarked : List (Option Way) → Path → ℕ → (View → Type 0) → Type 0
WhereMarked ways path q Holds = (v : View) → IsPath v q path → Marked v (seen_in path.root ways) (6 * q) → Holds v
