-- When tables are sound: by where each access of each source comes to.
use Rattle.std.specs.Prelude.{◌≡◌, ℕ, ◌+◌, ◌*◌, ◌^◌, ◌<◌, Bool, true, Some}
use Rattle.dma_check.specs.Faults.{positions, same_path}
use Rattle.dma_check.specs.Sources.{SOURCES}
use Rattle.dma_check.specs.Views.{View, table_at, walk_at}

-- so many steps below the root table the walk for a position comes to a table
pub record Comes (v : View) (q n t : ℕ) : Type 0 where
  pub depth : n < 6
  pub here : table_at v q n ≡ Some t

-- each source reads and writes where it is declared and nowhere else, by each address, and no walk comes to a table that the file
-- hasn't
pub record AreSound (v : View) : Type 0 where
  pub led : (source addr : ℕ) (write : Bool) → source < SOURCES → addr < 2 ^ 48 → walk_at v source addr write ≡ v.declared source addr write
  pub tables : (source addr n t : ℕ) → source < SOURCES → addr < 2 ^ 48 → Comes v (2 ^ 48 * source + addr) n t → v.is_table t ≡ true

-- no table is come to on two paths
abbrev pub HasOnePathPerTable : View → Type 0
HasOnePathPerTable v =
    (p m q n t : ℕ) → p < positions → q < positions → Comes v p m t → Comes v q n t → same_path v p m q n ≡ true
