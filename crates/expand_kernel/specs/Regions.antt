-- The regions of physical memory of a policy, in the order of their numbers (Muen system policy: memory regions; the kernel's
-- own regions are this project's).
use Rattle.std.specs.Prelude.{ℕ, ◌+◌, ◌*◌, List, [], ◌∷◌, ◌++◌, map}
use Rattle.std.specs.List.{flat_map}
use Rattle.ept_emit.specs.Pages.{ept_pages}
use Rattle.ept_emit.specs.declared.window.GuestRange.{GuestRange}
use Rattle.expand_kernel.specs.declared.kernel.KernelRegion.{KernelRegion}
use Rattle.expand_kernel.specs.declared.kernel.KernelRegion.TheVariants.{IoBitmaps, MsrArea, MsrBitmap, State as StatePage, Tables}
use Rattle.policy_lawful.specs.declared.thing.Region.{Region}
use Rattle.policy_lawful.specs.declared.thing.RegionKind.TheVariants.{Kernel}
use Rattle.muen_num.specs.declared.limits.TheConstants.{PAGE}
use Rattle.muen_num.specs.declared.tag.TagPart.TheVariants.{State, Ept, Iobm, Msrbm, Msrs}
pub use Rattle.policy_lawful.specs.Things.{anywhere, region_of}
use Rattle.policy_lawful.specs.Thing.{placed_items}
use Rattle.policy_lawful.specs.Windows.{Window, windows_of}
use Rattle.policy_lawful.specs.source.Source.{Source}
use Rattle.policy_lawful.specs.source.Subject.{Subject}

-- ---- of the kernel

-- the guest addresses of a window
abbrev pub window_range : {X : Type 0} → Window X → GuestRange
window_range w = record { guest = w.guest; size = w.size }

-- a subject's state page, EPT tables, two pages of I/O bitmaps, MSR bitmap and MSR area, where its tables take so many pages
abbrev pub kernel_regions : List ℕ → ℕ → List Region
kernel_regions subject pages =
    anywhere Kernel subject State PAGE
    ∷ anywhere Kernel subject Ept (pages * PAGE)
    ∷ anywhere Kernel subject Iobm (2 * PAGE)
    ∷ anywhere Kernel subject Msrbm PAGE
    ∷ anywhere Kernel subject Msrs PAGE
    ∷ []

-- a subject's regions of the kernel, in the order of their numbers
abbrev pub kernel_order : List KernelRegion
kernel_order = StatePage ∷ Tables ∷ IoBitmaps ∷ MsrBitmap ∷ MsrArea ∷ []

-- the number of one of them, by that of the first
abbrev pub kernel_number : KernelRegion → ℕ → ℕ
kernel_number StatePage first = first
kernel_number Tables first = first + 1
kernel_number IoBitmaps first = first + 2
kernel_number MsrBitmap first = first + 3
kernel_number MsrArea first = first + 4

-- one of them, where the subject's tables take so many pages
abbrev pub kernel_region : List ℕ → ℕ → KernelRegion → Region
kernel_region subject pages StatePage = anywhere Kernel subject State PAGE
kernel_region subject pages Tables = anywhere Kernel subject Ept (pages * PAGE)
kernel_region subject pages IoBitmaps = anywhere Kernel subject Iobm (2 * PAGE)
kernel_region subject pages MsrBitmap = anywhere Kernel subject Msrbm PAGE
kernel_region subject pages MsrArea = anywhere Kernel subject Msrs PAGE

abbrev pub kernel_regions_of : Source → Subject → List Region
kernel_regions_of p s = kernel_regions s.name (ept_pages (map window_range (windows_of p s)))

-- ---- all

-- by number: what is placed of the policy's things, the kernel's for each subject
unfoldable pub regions_of : Source → List Region
regions_of p = map region_of (placed_items p) ++ flat_map (kernel_regions_of p) p.subjects
