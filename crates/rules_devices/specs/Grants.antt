-- Rule 9 of a resolved policy: how often the parts of devices are granted, with devices and parts by their indexes.
use Rattle.std.specs.Prelude.{◌≡◌, ℕ, ◌<◌, min, ◌==◌, List, [], length, map, nat_le, slice_get, slice_index, slice_index_or, Option, Some, if◌then◌else◌}
use Rattle.std.specs.Option.{option_or}
use Rattle.std.specs.List.{All, enumerate_from, sum_by}
use Rattle.muen_num.specs.Search.{first_in, unless}
use Rattle.policy_lawful.specs.Counts.{Adds, times_among}
use Rattle.policy_lawful.specs.Offences.{two}
use Rattle.policy_lawful.specs.declared.offence.Offence.{Offence}
use Rattle.policy_lawful.specs.declared.resolved.DeviceUse.{DeviceUse}
use Rattle.policy_lawful.specs.declared.resolved.Subject.{Subject}
use Rattle.policy_lawful.specs.source.Device.{Device}
use Rattle.rules_devices.specs.declared.resource.Resource.{Resource}
use Rattle.rules_devices.specs.declared.resource.Resource.TheVariants.{Memory, IoPorts, Irqs}

-- the names of a device's parts of a kind
abbrev pub part_names : Resource → Device → List (List ℕ)
part_names Memory d = map (λ m. m.name) d.memory
part_names IoPorts d = map (λ x. x.name) d.io_ports
part_names Irqs d = map (λ i. i.name) d.irqs

-- the indexes of those that a use grants
abbrev pub indexes_granted : Resource → DeviceUse → List ℕ
indexes_granted Memory u = map (λ m. m.memory) u.memory
indexes_granted IoPorts u = u.io_ports
indexes_granted Irqs u = map (λ i. i.irq) u.irqs

-- how often a use, a subject, or all subjects are granted the part j of the device k
abbrev pub times_by_use : Resource → ℕ → ℕ → DeviceUse → ℕ
times_by_use resource k j u = if u.device == k then times_among (indexes_granted resource u) j else 0

abbrev pub times_by_subject : Resource → ℕ → ℕ → Subject → ℕ
times_by_subject resource k j s = sum_by (times_by_use resource k j) s.devices

abbrev pub times_by_index : Resource → List Subject → ℕ → ℕ → ℕ
times_by_index resource subjects k j = sum_by (times_by_subject resource k j) subjects

-- each use of the subject is of one of so many devices
abbrev pub IsOnDevices : ℕ → Subject → Type 0
IsOnDevices devices s = All (λ u. u.device < devices) s.devices

-- ---- counts: those of 2 and more are alike

-- the counts at an index
abbrev pub counts_at : List (List ℕ) → ℕ → List ℕ
counts_at table k = slice_index_or table k []

-- the same of tables
pub record TableAdds (old new : List (List ℕ)) (more : ℕ → ℕ → ℕ) : Type 0 where
  pub rooms : (k : ℕ) → length (counts_at new k) ≡ length (counts_at old k)
  pub at : (k : ℕ) → Adds (counts_at old k) (counts_at new k) (more k)

-- the table counts how often the parts of these devices are granted
abbrev pub AreGrantCounts : Resource → List Device → List Subject → List (List ℕ) → Type 0
AreGrantCounts resource devices subjects table = (k : ℕ) (d : Device) → slice_get devices k ≡ Some d → (j : ℕ) → j < length (part_names resource d) → min 2 (slice_index (counts_at table k) j) ≡ min 2 (times_by_index resource subjects k j)

-- ---- what was met twice

-- a part with its index, of a device
abbrev pub part_counted : List (List ℕ) → ℕ → List ℕ → ℕ × List ℕ → Option Offence
part_counted table k by (j, name) = unless (nat_le (slice_index (counts_at table k) j) 1) (two by name)

abbrev pub memory_counted : List (List ℕ) → ℕ → Device → Option Offence
memory_counted table k d = first_in (λ x. part_counted table k d.name (x.0, x.1.name)) (enumerate_from 0 d.memory)

abbrev pub ports_counted : List (List ℕ) → ℕ → Device → Option Offence
ports_counted table k d = first_in (λ x. part_counted table k d.name (x.0, x.1.name)) (enumerate_from 0 d.io_ports)

abbrev pub irqs_counted : List (List ℕ) → ℕ → Device → Option Offence
irqs_counted table k d = first_in (λ x. part_counted table k d.name (x.0, x.1.name)) (enumerate_from 0 d.irqs)

-- a device with its index
abbrev pub device_counted : List (List ℕ) → List (List ℕ) → List (List ℕ) → ℕ × Device → Option Offence
device_counted memory io_ports irqs (k, d) =
    option_or (memory_counted memory k d) (option_or (ports_counted io_ports k d) (irqs_counted irqs k d))
