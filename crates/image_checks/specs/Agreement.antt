-- When a subject and a device of an image agree with what the policy has at their indexes.
use Rattle.std.specs.Prelude.{◌≡◌, ℕ, ◌*◌, List, length, zip, Option, Some, option_map}
use Rattle.std.specs.List.{AllZip}
use Rattle.image_soundness.specs.TablesOf.{AreDevices}
use Rattle.event_emit.specs.declared.event_tables.EventTables.{EventTables}
use Rattle.image_pack.specs.declared.parts.DevicePart.{DevicePart}
use Rattle.image_pack.specs.declared.parts.Image.{Image}
use Rattle.image_pack.specs.declared.parts.SubjectPart.{SubjectPart}
use Rattle.image_pack.specs.declared.parts.WindowPart.{WindowPart}
use Rattle.image_soundness.specs.Memory.{span_at}
use Rattle.image_soundness.specs.Named.{tag_at}
use Rattle.muen_num.specs.declared.limits.TheConstants.{MOST_CALLS, PAGE}
use Rattle.policy_lawful.specs.Resolution.{Resolution, source_of}
use Rattle.policy_lawful.specs.Thing.{device_memory, thing_tag}
use Rattle.policy_lawful.specs.declared.resolved.Subject.{Subject}
use Rattle.policy_lawful.specs.source.Device.{Device}
use Rattle.policy_lawful.specs.source.DeviceMemory.{DeviceMemory}
use Rattle.policy_lawful.specs.source.Subject.{Subject as SourceSubject}

-- ---- subjects

-- a subject has this name and CPU, is in this group and raises these events
pub record SubjectAgrees (s : Subject) (in_group : Option ℕ) (t : EventTables) (q : SubjectPart) : Type 0 where
  pub name : q.name ≡ s.name
  pub cpu : q.cpu ≡ s.cpu
  pub group : in_group ≡ Some q.group
  pub calls : q.calls ≡ t.calls
  pub traps : q.traps ≡ t.traps

-- it has an entry for each call and each trap
pub record IsFull (q : SubjectPart) : Type 0 where
  pub calls : length q.calls ≡ MOST_CALLS
  pub traps : length q.traps ≡ MOST_CALLS

-- the policy's subjects with their parts of the image
abbrev pub subjects_of_both : Resolution → List SubjectPart → List (SourceSubject × SubjectPart)
subjects_of_both r parts = zip (source_of r).subjects parts

-- ---- devices

-- how many bytes the span of a number has
abbrev pub size_at : Image → ℕ → Option ℕ
size_at i number = option_map (λ e. PAGE * e.0.pages) (span_at i number)

-- a window is on this memory of a device, and on all of it
pub record IsWindowOf (i : Image) (device : List ℕ) (m : DeviceMemory) (w : WindowPart) : Type 0 where
  pub tag : tag_at i w.span ≡ Some (thing_tag (device_memory device m.name))
  pub size : size_at i w.span ≡ Some m.size

-- a device has the name and the memory of the policy's, and the ports and interrupts of one that was made
pub record DeviceAgrees (i : Image) (d : Device) (made : DevicePart) (q : DevicePart) : Type 0 where
  pub name : q.name ≡ d.name
  pub ports : q.ports ≡ made.ports
  pub irqs : q.irqs ≡ made.irqs
  pub windows : AllZip (IsWindowOf i d.name) d.memory q.windows

-- the devices that are made of a policy, whose memory is numbered from 0 on
abbrev pub AreMade : Resolution → List DevicePart → Type 0
AreMade r made = AreDevices r 0 r.devices made
