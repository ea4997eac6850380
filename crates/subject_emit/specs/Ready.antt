-- What the tables of a subject need.
use Rattle.std.specs.Prelude.{◌≡◌, ℕ, ◌+◌, ◌*◌, ◌%◌, ◌<◌, ◌≤◌, length}
use Rattle.std.specs.List.{All}
use Rattle.ept_emit.specs.Pages.{AreApart, ept_pages, ranges_of}
use Rattle.ept_emit.specs.Entries.{IsEmittable}
use Rattle.expand_kernel.specs.Numbered.{IsWhole}
use Rattle.expand_kernel.specs.granted.Grants.{Grants}
use Rattle.muen_num.specs.declared.limits.TheConstants.{PAGE, PHYSICAL_END}
use Rattle.region_alloc.specs.Placed.{Placement}
use Rattle.subject_emit.specs.Mapped.{mapped_windows}
use Rattle.subject_emit.specs.Pages.{tables_at}

-- tables can be emitted for the subject at an index, which is granted this: its windows show the whole of what is there, each of
-- them can be mapped, and the tables lie at whole pages of physical addresses that there are
pub record IsReady (x : Placement) (subject : ℕ) (g : Grants) : Type 0 where
  pub there : subject < length x.expanded.lawful.subjects
  pub whole : All (IsWhole x.expanded.lawful) g.windows
  pub emittable : All IsEmittable (mapped_windows x g)
  pub apart : AreApart (ranges_of (mapped_windows x g))
  pub at : tables_at x subject % PAGE ≡ 0
  pub end : tables_at x subject + PAGE * ept_pages (ranges_of (mapped_windows x g)) ≤ PHYSICAL_END
