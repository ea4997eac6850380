-- Tables of subjects stand for what a policy needs of an image.
use Rattle.std.specs.Prelude.{ℕ, List}
use Rattle.ept_check.specs.Sound.{AreSound, CanBeChecked, HasOnePathPerTable}
use Rattle.ept_check.specs.Tables.{tables_in}
use Rattle.ept_check.specs.declared.types.SubjectTables.{SubjectTables}
use Rattle.image_pack.specs.declared.parts.Image.{Image}
use Rattle.image_memory.specs.Memory.{memory_of}
use Rattle.image_soundness.specs.Sound.{ForEachSubject, HasWalks, ReadsTables}
use Rattle.policy_lawful.specs.source.Source.{Source}
use Rattle.image_soundness.specs.Paths.{HasOnePathPerTable as HasOnePath}

-- these, with these pages as tables
pub record StandForTables (p : Source) (i : Image) (pages : List ℕ) (subjects : List SubjectTables) : Type 0 where
  pub checkable : CanBeChecked (memory_of i) pages subjects
  -- sound tables have the walks and read the tables that the policy needs
  pub walks : AreSound (tables_in (memory_of i) pages subjects) → ForEachSubject p i (HasWalks p i)
  pub reads : AreSound (tables_in (memory_of i) pages subjects) → ForEachSubject p i (λ s q. ReadsTables i q)
  -- and tables that do are sound
  pub sound : ForEachSubject p i (HasWalks p i) → ForEachSubject p i (λ s q. ReadsTables i q) → AreSound (tables_in (memory_of i) pages subjects)
  -- no table is read on two paths where none is in the image
  pub one_path : HasOnePath i → HasOnePathPerTable (tables_in (memory_of i) pages subjects)
