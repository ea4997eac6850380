-- What a subject and a device have to do with each other, by indexes.
use Rattle.std.specs.Prelude.{ℕ, ◌==◌, ◌&&◌, ◌||◌, not, Bool, false, List, length, map}
use Rattle.std.specs.Option.{option_map_or}
use Rattle.std.specs.List.{find, list_any}
use Rattle.std.specs.Str.{bytes_eq}
use Rattle.muen_num.specs.declared.access.AccessKind.{AccessKind}
use Rattle.muen_num.specs.declared.access.AccessKind.TheVariants.{Read, Write}
use Rattle.policy_lawful.specs.Resolution.{Resolution, source_of, subject_named}
use Rattle.policy_lawful.specs.declared.resolved.Subject.{Subject}
use Rattle.policy_lawful.specs.Rights.{allows}
use Rattle.policy_lawful.specs.declared.view.Shown.{Shown}
use Rattle.policy_lawful.specs.declared.view.Shown.TheVariants.{Memory, Device as OnDevice}
use Rattle.policy_lawful.specs.declared.view.View.{View}
use Rattle.policy_lawful.specs.source.Device.{Device}
use Rattle.policy_lawful.specs.source.Domain.{Domain}
use Rattle.policy_lawful.specs.source.Mapping.{Mapping}
use Rattle.flow_report.specs.Marks.{after_rounds}
use Rattle.device_flows.specs.DeviceFlows.{is_subject}
use Rattle.device_flows.specs.Ends.{End, subject, device, ends_of, has_device, leads_to}

-- ---- what is granted of the device at an index

abbrev pub has_ports : Subject → ℕ → Bool
has_ports s k = list_any (λ x. (x.device == k) && not (length x.io_ports == 0)) s.devices

abbrev pub has_interrupts : Subject → ℕ → Bool
has_interrupts s k = list_any (λ x. (x.device == k) && not (length x.irqs == 0)) s.devices

abbrev pub is_on_device : ℕ → Shown → Bool
is_on_device k (OnDevice owner memory) = owner == k
is_on_device k _ = false

abbrev pub has_registers : List View → ℕ → Bool
has_registers views k = list_any (λ v. is_on_device k v.shows) views

-- ---- what a domain has of it

-- a view of this name shows the region of a mapping
abbrev pub shows_region : List ℕ → List ℕ → Shown → Bool
shows_region region name (Memory index) = bytes_eq region name
shows_region region name _ = false

abbrev pub meets : AccessKind → List View → Mapping → Bool
meets other views m = list_any (λ v. allows v.rights other && shows_region m.region v.name v.shows) views

abbrev pub domain_meets : AccessKind → AccessKind → List View → Domain → Bool
domain_meets own other views x = list_any (λ m. allows m.rights own && meets other views m) x.memory

abbrev pub has_dma : List Domain → AccessKind → AccessKind → List View → Device → Bool
has_dma domains own other views d = option_map_or (domain_meets own other views) (find (λ x. has_device x d.name) domains) false

-- ---- both ways

abbrev pub tells_at : List Domain → List View → Subject → ℕ → Device → Bool
tells_at domains views s k d = has_ports s k || has_registers views k || has_dma domains Read Write views d

abbrev pub hears_at : List Domain → List View → Subject → ℕ → Device → Bool
hears_at domains views s k d = has_ports s k || has_registers views k || has_interrupts s k || has_dma domains Write Read views d

-- ---- rows of marks

-- the ends to which this one leads
abbrev pub row_of : Resolution → End → List Bool
row_of r a = map (leads_to (source_of r) a) (ends_of (source_of r))

abbrev pub subject_row : Resolution → Subject → List Bool
subject_row r s = row_of r (subject (subject_named r s))

abbrev pub device_row : Resolution → Device → List Bool
device_row r d = row_of r (device d)

-- for each of these subjects the marks after so many rounds on these rows
abbrev pub sets_after : Resolution → List Subject → List (List Bool) → ℕ → List (List Bool)
sets_after r subjects rows n = map (λ s. after_rounds rows (map (is_subject s.name) (ends_of (source_of r))) n) subjects
