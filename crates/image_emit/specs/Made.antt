-- What the image of a placed policy is made of, and the image that it makes (this project's own format).
use Rattle.std.specs.Prelude.{◌≡◌, ℕ, ◌==◌, ◌&&◌, true, List, [], ◌∷◌, ◌++◌, length, map, zip, take, position, slice_index_or, Option, option_and_then, unwrap_or}
use Rattle.std.specs.Str.{bytes_eq}
use Rattle.std.specs.List.{AllZip, enumerate_from, flat_map, list_all, list_any}
use Rattle.std.specs.List.Sorted.{IsPermutation}
use Rattle.ept_emit.specs.Emitted.{eptp_of}
use Rattle.event_emit.specs.Tables.{AreTables}
use Rattle.image_soundness.specs.TablesOf.{AreDevices}
use Rattle.event_emit.specs.declared.event_tables.EventTables.{EventTables}
use Rattle.expand_kernel.specs.granted.Grants.{Grants}
use Rattle.expand_kernel.specs.ByIndex.{kernel_first}
use Rattle.expand_kernel.specs.Expansion.{IsExpansion}
use Rattle.expand_kernel.specs.ByIndex.{kernel_first}
use Rattle.expand_kernel.specs.Regions.{kernel_number}
use Rattle.expand_kernel.specs.declared.kernel.KernelRegion.TheVariants.{IoBitmaps, MsrArea, MsrBitmap, State}
use Rattle.image_pack.specs.Parts.{IsParts, counted_image}
use Rattle.image_pack.specs.SpanConditions.{AreSpans}
use Rattle.image_pack.specs.declared.parts.DevicePart.{DevicePart}
use Rattle.image_pack.specs.declared.parts.Image.{Image}
use Rattle.image_pack.specs.declared.parts.SpanPart.{SpanPart}
use Rattle.image_pack.specs.declared.parts.SubjectPart.{SubjectPart}
use Rattle.image_pack.specs.plan.Plan.{Plan}
use Rattle.msrbm_emit.specs.Area.{msr_count}
use Rattle.muen_num.specs.Naming.{is_name}
use Rattle.image_soundness.specs.PlanOf.{IsPlanOf}
use Rattle.policy_lawful.specs.Lawful.{IsLawful}
use Rattle.policy_lawful.specs.Resolution.{IsResolved, Resolution, source_of}
use Rattle.policy_lawful.specs.declared.resolved.Subject.{Subject}
use Rattle.region_alloc.specs.Placed.{AreDisjoint, AreInside, IsPlacement, Placement}
use Rattle.span_emit.specs.SpansOf.{spans_of}
use Rattle.subject_emit.specs.Pages.{ArePages, tables_at}
use Rattle.subject_emit.specs.declared.subject_pages.SubjectPages.{SubjectPages}

-- what an image is made of
pub record Made : Type 0 where
  pub placed : Placement
  -- the bytes of the regions that aren't the kernel's, by number
  pub things : List (List ℕ)
  -- of each subject
  pub pages : List SubjectPages
  pub events : List EventTables
  pub devices : List DevicePart
  pub plan : Plan
  -- by their addresses
  pub spans : List SpanPart

abbrev pub policy_of : Made → Resolution
policy_of m = m.placed.expanded.lawful

-- ---- the image

-- what the kernel's regions for a subject hold, in order
abbrev pub kernel_bytes : SubjectPages → List (List ℕ)
kernel_bytes q = q.state ∷ q.tables ∷ q.ports ∷ q.msrs ∷ q.area ∷ []

-- what each region holds, by number
abbrev pub region_bytes : Made → List (List ℕ)
region_bytes m = m.things ++ flat_map kernel_bytes m.pages

-- what a span has in the image; a device's memory, whose numbers come behind the regions', has nothing
abbrev pub content_at : Made → SpanPart → List ℕ
content_at m s = slice_index_or (region_bytes m) s.number []

-- the number of the group in which the subject at an index stands
abbrev pub group_at : Resolution → ℕ → ℕ
group_at r index = unwrap_or (position (λ g. list_any (λ n. n == index) g.subjects) r.scheduling.groups) 0

-- the subject at an index, with what it is granted and the events that it raises
abbrev pub subject_part : Placement → ℕ × (Subject × (Grants × EventTables)) → SubjectPart
subject_part x (index, (s, (g, t))) = record {
  cpu = s.cpu;
  group = group_at x.expanded.lawful index;
  msrs = msr_count g.msrs;
  state = kernel_number State (kernel_first x.expanded.lawful index);
  iobm = kernel_number IoBitmaps (kernel_first x.expanded.lawful index);
  msrbm = kernel_number MsrBitmap (kernel_first x.expanded.lawful index);
  area = kernel_number MsrArea (kernel_first x.expanded.lawful index);
  eptp = eptp_of (tables_at x index);
  name = s.name;
  calls = t.calls;
  traps = t.traps;
}

abbrev pub subject_parts : Made → List SubjectPart
subject_parts m =
    map (subject_part m.placed) (enumerate_from 0 (zip (policy_of m).subjects (zip m.placed.expanded.grants m.events)))

-- the number of the region whose first byte chooses the next major frame
abbrev pub choice_region : Resolution → Option ℕ
choice_region r = option_and_then (λ t. position (λ m. bytes_eq m.name t.region) r.memory) r.scheduling.tau0

unfoldable pub image_of : Made → Image
image_of m =
    counted_image (policy_of m).processor.logical_cpus (choice_region (policy_of m)) m.spans (subject_parts m) m.plan m.devices (map (content_at m) m.spans)

-- ---- what is known of what it is made of

-- the regions that aren't the kernel's have as many bytes as their sizes say
pub record IsFilled (x : Placement) (things : List (List ℕ)) : Type 0 where
  pub many : length things ≡ kernel_first x.expanded.lawful 0
  pub sizes : map (λ bytes. length bytes) things ≡ map (λ r. r.size) (take (length things) x.expanded.regions)

pub record IsMade (m : Made) : Type 0 where
  pub resolved : IsResolved (policy_of m)
  pub lawful : IsLawful (source_of (policy_of m))
  pub expansion : IsExpansion m.placed.expanded
  pub placement : IsPlacement m.placed
  pub inside : AreInside (policy_of m).memory_blocks m.placed.expanded.regions m.placed.addresses
  pub disjoint : AreDisjoint m.placed.expanded.regions m.placed.addresses
  -- names are names
  pub subjects_named : list_all (λ s. is_name s.name) (policy_of m).subjects ≡ true
  pub devices_named : list_all (λ d. is_name d.name && list_all (λ i. is_name i.name) d.irqs) (policy_of m).devices ≡ true
  pub filled : IsFilled m.placed m.things
  pub pages : AllZip (λ e q. ArePages m.placed e.0 e.1.0 e.1.1 q) (enumerate_from 0 (zip (policy_of m).subjects m.placed.expanded.grants)) m.pages
  pub events : AllZip (AreTables (policy_of m)) (policy_of m).subjects m.events
  pub devices : AreDevices (policy_of m) (length m.placed.expanded.regions) (policy_of m).devices m.devices
  pub plan : IsPlanOf (source_of (policy_of m)) m.plan
  pub spans : AreSpans m.spans
  pub numbered : IsPermutation (spans_of m.placed) m.spans

-- the image that some such parts make
pub record IsImageOf (x : Placement) (things : List (List ℕ)) (i : Image) : Type 0 where
  pub made : Made
  pub is : IsMade made
  pub placed : made.placed ≡ x
  pub held : made.things ≡ things
  pub image : i ≡ image_of made

-- .. which keeps the conditions of its format
pub record IsEmitted (x : Placement) (things : List (List ℕ)) (i : Image) : Type 0 where
  pub made : IsImageOf x things i
  pub parts : IsParts i
