-- Parts of an image that are made one after another.
use Rattle.std.specs.Prelude.{◌≡◌, ℕ, List, [], ◌++◌, map, zip, slice_index_or}
use Rattle.std.specs.List.{All, AllZip, enumerate_from, flat_map}
use Rattle.image_pack.specs.Form.{IsBytes}
use Rattle.event_emit.specs.Tables.{AreTables}
use Rattle.event_emit.specs.declared.event_tables.EventTables.{EventTables}
use Rattle.image_emit.specs.Made.{kernel_bytes, subject_part}
use Rattle.image_pack.specs.declared.parts.SpanPart.{SpanPart}
use Rattle.image_pack.specs.declared.parts.SubjectPart.{SubjectPart}
use Rattle.region_alloc.specs.Placed.{Placement}
use Rattle.subject_emit.specs.Pages.{ArePages}
use Rattle.subject_emit.specs.declared.subject_pages.SubjectPages.{SubjectPages}

-- the pages of each subject
abbrev pub AreAllPages : Placement → List SubjectPages → Type 0
AreAllPages x pages = AllZip (λ e q. ArePages x e.0 e.1.0 e.1.1 q) (enumerate_from 0 (zip x.expanded.lawful.subjects x.expanded.grants)) pages

-- what spans hold, of things and of some pages of the subjects: bytes
pub record IsHeld (x : Placement) (things : List (List ℕ)) (spans : List SpanPart) (held : List (List ℕ)) : Type 0 where
  pub pages : List SubjectPages
  pub are : AreAllPages x pages
  pub bytes : All IsBytes held
  pub held_by : held ≡ map (λ s. slice_index_or (things ++ flat_map kernel_bytes pages) s.number []) spans

-- the subjects of an image, with some tables of events
pub record AreParts (x : Placement) (parts : List SubjectPart) : Type 0 where
  pub events : List EventTables
  pub are : AllZip (AreTables x.expanded.lawful) x.expanded.lawful.subjects events
  pub made : parts ≡ map (subject_part x) (enumerate_from 0 (zip x.expanded.lawful.subjects (zip x.expanded.grants events)))
