-- The conditions on the parts of an image in plain words, each over all parts that it speaks of.
use Rattle.std.specs.Prelude.{◌≡◌, ℕ, ◌*◌, ◌<◌, ◌≤◌, ◌^◌, true, false, List, length, map, Option, Some, None, if◌then◌else◌}
use Rattle.std.specs.List.{All, AllPairs, AllZip, enumerate_from, list_all}
use Rattle.std.specs.Str.{bytes_eq}
use Rattle.muen_num.specs.Naming.{is_name}
use Rattle.muen_num.specs.declared.limits.TheConstants.{FIRST_VECTOR, LAST_VECTOR, MOST_CALLS, MOST_CPUS, MOST_DEVICES, MOST_MAJOR_FRAMES, MOST_MSRS, MOST_PER_DEVICE, MOST_SUBJECTS, PAGE}
use Rattle.muen_num.specs.declared.mode.EventMode.{EventMode}
use Rattle.muen_num.specs.declared.tag.TagPart.TheVariants.{State, Iobm, Msrbm, Msrs}
use Rattle.binary_form.specs.Form.{IsBytes}
use Rattle.frame_clock.specs.Plan.{is_group_on, is_major}
use Rattle.frame_clock.specs.declared.plan.GroupPart.{GroupPart}
use Rattle.image_pack.specs.Codes.{is_device, is_own, is_switch, part_code}
use Rattle.image_pack.specs.Image.{is_between_inclusive, is_eptp, is_first_here, is_kernel_span, window_name}
use Rattle.image_pack.specs.SpanConditions.{AreSpans}
use Rattle.image_pack.specs.declared.outline.Header.{Header}
use Rattle.image_pack.specs.declared.parts.DevicePart.{DevicePart}
use Rattle.image_pack.specs.declared.parts.EventPart.{EventPart}
use Rattle.image_pack.specs.declared.parts.Image.{Image}
use Rattle.image_pack.specs.declared.parts.IrqPart.{IrqPart}
use Rattle.muen_num.specs.declared.devices.IrqTarget.{IrqTarget}
use Rattle.muen_num.specs.declared.devices.PortSpan.{PortSpan}
use Rattle.image_pack.specs.declared.parts.SpanPart.{SpanPart}
use Rattle.image_pack.specs.declared.parts.SubjectPart.{SubjectPart}
use Rattle.image_pack.specs.declared.parts.WindowPart.{WindowPart}

-- ---- counts

-- as many as there may be, and as many as there are
pub record AreCounted (i : Image) : Type 0 where
  pub cpus : is_between_inclusive 1 MOST_CPUS i.header.cpus ≡ true
  pub few_subjects : is_between_inclusive 1 MOST_SUBJECTS i.header.subjects ≡ true
  pub few_groups : is_between_inclusive 1 MOST_SUBJECTS i.header.groups ≡ true
  pub few_majors : is_between_inclusive 1 MOST_MAJOR_FRAMES i.header.majors ≡ true
  pub few_devices : i.header.devices ≤ MOST_DEVICES
  pub subjects : length i.subjects ≡ i.header.subjects
  pub groups : length i.plan.groups ≡ i.header.groups
  pub majors : length i.plan.majors ≡ i.header.majors
  pub devices : length i.devices ≡ i.header.devices
  pub spans : length i.spans ≡ i.header.spans

-- ---- the scheduler subject's region

-- the span whose first byte chooses the next major frame is there, and a region of memory
abbrev pub IsChoice : List SpanPart → Option ℕ → Type 0
IsChoice spans None = Unit {0}
IsChoice spans (Some t) = (t < length spans) × All (λ s. s.number ≡ t → is_own s.kind ≡ true) spans

-- ---- groups and subjects

pub record IsGroup (h : Header) (g : GroupPart) : Type 0 where
  pub cpu : g.cpu < h.cpus
  pub first : g.first < h.subjects

-- a vector that isn't kept for exceptions, up to the last one, or none where the mode needs none
abbrev pub IsVector : EventMode → Option ℕ → Type 0
IsVector mode None = is_switch mode ≡ true
IsVector mode (Some v) = (FIRST_VECTOR ≤ v) × (v ≤ LAST_VECTOR)

-- an event reaches one of so many subjects
abbrev pub IsEvent : ℕ → Option EventPart → Type 0
IsEvent subjects None = Unit {0}
IsEvent subjects (Some e) = (e.target < subjects) × IsVector e.mode e.vector

pub record AreEvents (subjects : ℕ) (events : List (Option EventPart)) : Type 0 where
  pub many : length events ≡ MOST_CALLS
  pub each : All (IsEvent subjects) events

-- a subject with its number
pub record IsSubjectPart (i : Image) (e : ℕ × SubjectPart) : Type 0 where
  pub cpu : e.1.cpu < i.header.cpus
  -- its group is there, and on its CPU
  pub in_group : is_group_on i.plan.groups e.1.cpu e.1.group ≡ true
  -- a group whose first member it is is this one
  pub first : is_first_here i.plan.groups e.0 e.1.group ≡ true
  pub few_msrs : e.1.msrs ≤ MOST_MSRS
  pub state : is_kernel_span i.spans (part_code State) 1 e.1.state ≡ true
  pub iobm : is_kernel_span i.spans (part_code Iobm) 2 e.1.iobm ≡ true
  pub msrbm : is_kernel_span i.spans (part_code Msrbm) 1 e.1.msrbm ≡ true
  pub area : is_kernel_span i.spans (part_code Msrs) 1 e.1.area ≡ true
  pub eptp : is_eptp e.1.eptp ≡ true
  pub called : is_name e.1.name ≡ true
  pub calls : AreEvents i.header.subjects e.1.calls
  pub traps : AreEvents i.header.subjects e.1.traps

-- ---- devices

abbrev pub AreDistinct : List (List ℕ) → Type 0
AreDistinct names = AllPairs (λ a b. bytes_eq a b ≡ false) names

pub record IsRange (r : PortSpan) : Type 0 where
  pub some : r.start ≤ r.end
  pub last : r.end < 2 ^ 16

-- a window is on a device's memory, under this name
abbrev pub IsWindow : List SpanPart → WindowPart → List ℕ → Type 0
IsWindow spans w text = window_name spans w.span ≡ Some text

-- an interrupt reaches nobody, or one of so many subjects under a vector that isn't kept for exceptions
abbrev pub IsReached : ℕ → Option IrqTarget → Type 0
IsReached subjects None = Unit {0}
IsReached subjects (Some t) = (t.subject < subjects) × (FIRST_VECTOR ≤ t.vector) × (t.vector < 2 ^ 8)

pub record IsIrqPart (subjects : ℕ) (q : IrqPart) : Type 0 where
  pub called : is_name q.name ≡ true
  pub reached : IsReached subjects q.target

-- the names of a device's memories differ, and so do those of its interrupts
pub record IsDevicePart (i : Image) (d : DevicePart) : Type 0 where
  pub called : is_name d.name ≡ true
  pub few_ports : length d.ports ≤ MOST_PER_DEVICE
  pub few_windows : length d.windows ≤ MOST_PER_DEVICE
  pub few_irqs : length d.irqs ≤ MOST_PER_DEVICE
  pub ports : All IsRange d.ports
  pub names : List (List ℕ)
  pub windows : AllZip (IsWindow i.spans) d.windows names
  pub windows_differ : AreDistinct names
  pub irqs : All (IsIrqPart i.header.subjects) d.irqs
  pub irqs_differ : AreDistinct (map (λ q. q.name) d.irqs)

-- ---- contents

-- as many bytes as the span has; a device's memory has none in the image
abbrev pub FillsSpan : SpanPart → List ℕ → Type 0
FillsSpan s bytes = length bytes ≡ (if is_device s.kind then 0 else PAGE * s.pages)

-- each of them is a byte
abbrev pub IsContent : SpanPart → List ℕ → Type 0
IsContent s bytes = FillsSpan s bytes × IsBytes bytes

-- ---- the whole

pub record KeepsConditions (i : Image) : Type 0 where
  pub counts : AreCounted i
  pub spans : AreSpans i.spans
  pub choice : IsChoice i.spans i.header.tau0
  pub groups : All (IsGroup i.header) i.plan.groups
  pub subjects : All (IsSubjectPart i) (enumerate_from 0 i.subjects)
  pub majors : list_all (is_major i.plan.groups i.header.cpus) i.plan.majors ≡ true
  pub devices : All (IsDevicePart i) i.devices
  pub devices_differ : AreDistinct (map (λ d. d.name) i.devices)
  pub contents : AllZip IsContent i.spans i.contents
