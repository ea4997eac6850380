use Rattle.std.proofs.Common.{◌<◌, ℕ}
use Rattle.std.specs.Prelude.{slice_index_or, zip}
use Rattle.image_pack.specs.declared.parts.SubjectPart.{SubjectPart}
use Rattle.image_soundness.specs.Sound.{HasBitmaps}
use Rattle.policy_lawful.specs.Resolution.{source_of}
use Rattle.policy_lawful.specs.source.Subject.{Subject}
use Rattle.image_checks.proofs.bitmaps.first_by_bitmaps.Given as goal

-- those so far have their bitmaps
abbrev pub invariant-loop-index : goal.invariant-loop-index
invariant-loop-index l =
    (j : ℕ) (d : Subject × SubjectPart) → j < l.index
    → HasBitmaps (source_of l.fn.expanded.lawful) l.fn.image (slice_index_or (zip (source_of l.fn.expanded.lawful).subjects l.fn.image.subjects) j d).0 (slice_index_or (zip (source_of l.fn.expanded.lawful).subjects l.fn.image.subjects) j d).1
