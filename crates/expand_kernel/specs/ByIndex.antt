-- The regions of a resolved policy by number: those of its things, and the kernel's by the windows that are granted.
use Rattle.std.specs.Prelude.{ℕ, ◌+◌, ◌*◌, List, ◌++◌, length, map}
use Rattle.std.specs.List.{All, flat_map, zip}
use Rattle.ept_emit.specs.Pages.{AreApart, IsMapped, ept_pages}
use Rattle.ept_emit.specs.declared.window.GuestRange.{GuestRange}
use Rattle.expand_grants.specs.declared.granted.GrantedWindow.{GrantedWindow}
use Rattle.expand_grants.specs.declared.granted.Grants.{Grants}
use Rattle.expand_kernel.specs.Regions.{kernel_regions}
use Rattle.muen_num.specs.declared.limits.TheConstants.{KERNEL_REGIONS}
use Rattle.policy_lawful.specs.Resolution.{Resolution}
use Rattle.policy_lawful.specs.Things.{placed_things, region_of_thing}
use Rattle.policy_lawful.specs.declared.resolved.Subject.{Subject}
use Rattle.policy_lawful.specs.declared.thing.Region.{Region}

-- ---- of the kernel

-- the number of the first region of the kernel for the subject at an index
abbrev pub kernel_first : Resolution → ℕ → ℕ
kernel_first r subject = length (placed_things r) + KERNEL_REGIONS * subject

-- the guest addresses of a window
abbrev pub granted_range : GrantedWindow → GuestRange
granted_range w = record { guest = w.guest; size = w.size }

abbrev pub granted_ranges : List GrantedWindow → List GuestRange
granted_ranges windows = map granted_range windows

-- windows that ascend, share no address, aren't empty, and end where guest addresses do
pub record CanMap (windows : List GrantedWindow) : Type 0 where
  pub mapped : All IsMapped (granted_ranges windows)
  pub apart : AreApart (granted_ranges windows)

-- the kernel's regions for a subject with these grants
abbrev pub kernel_for : Subject × Grants → List Region
kernel_for (s, g) = kernel_regions s.name (ept_pages (granted_ranges g.windows))

-- those for subjects with their grants, in turn
unfoldable pub kernel_for_each : List Subject → List Grants → List Region
kernel_for_each subjects grants = flat_map kernel_for (zip subjects grants)

-- ---- all

-- those of the things that are placed, and then the kernel's
abbrev pub regions_by_number : Resolution → List Grants → List Region
regions_by_number r grants = map region_of_thing (placed_things r) ++ kernel_for_each r.subjects grants
