-- The subjects of an image, made one after another.
use Rattle.std.specs.Prelude.{◌≡◌, ℕ, ◌+◌, List, ◌++◌, drop, length, map, zip}
use Rattle.std.specs.List.{enumerate_from}
use Rattle.event_emit.specs.declared.event_tables.EventTables.{EventTables}
use Rattle.image_emit.specs.Made.{subject_part}
use Rattle.image_pack.specs.declared.parts.SubjectPart.{SubjectPart}
use Rattle.region_alloc.specs.Placed.{Placement}

-- the subjects from an index on, with what these raise
abbrev pub parts_from : Placement → ℕ → List EventTables → List SubjectPart
parts_from x index events =
    map (subject_part x) (enumerate_from index (zip (drop index x.expanded.lawful.subjects) (zip (drop index x.expanded.grants) events)))

-- the first subjects are made, and what the others raise is left
pub record IsParting (x : Placement) (events left : List EventTables) (parts : List SubjectPart) : Type 0 where
  pub whole : parts ++ parts_from x (length parts) left ≡ parts_from x 0 events
  pub many : length parts + length left ≡ length events
