-- The guest addresses of a subject's windows are the same wherever what they show lies.
use Rattle.std.proofs.Common.{◌≡◌, ◌+◌, ◌≤◌, sym, ap, subst}
use Rattle.std.specs.List.{AllPairs}
use Rattle.ept_emit.specs.Pages.{AreApart, ept_pages, guest_range_of, ranges_of}
use Rattle.ept_emit.specs.declared.window.GuestRange.{GuestRange}
use Rattle.ept_emit.specs.declared.window.Window.{Window}
use Rattle.expand_kernel.specs.granted.Grants.{Grants}
use Rattle.expand_kernel.specs.ByIndex.{granted_ranges}
use Rattle.muen_num.proofs.Lists.{map-map}
use Rattle.muen_num.proofs.Pairs.{pairs_unmapped}
use Rattle.region_alloc.specs.Placed.{Placement}
use Rattle.subject_emit.specs.Mapped.{mapped, mapped_windows}

-- ---- of a subject

module _ (x : Placement) (g : Grants) where
  pub ranges_same : ranges_of (mapped_windows x g) ≡ granted_ranges g.windows
  ranges_same = map-map guest_range_of (mapped x) g.windows

  pub pages_same : ept_pages (ranges_of (mapped_windows x g)) ≡ ept_pages (granted_ranges g.windows)
  pages_same = ap ept_pages ranges_same

  abbrev is_before : GuestRange → GuestRange → Type 0
  is_before a b = a.guest + a.size ≤ b.guest

  pub apart_mapped : AreApart (granted_ranges g.windows) → AllPairs (λ (a b : Window). a.guest + a.size ≤ b.guest) (mapped_windows x g)
  apart_mapped h = pairs_unmapped guest_range_of is_before (mapped_windows x g) (subst AreApart (sym ranges_same) h)
