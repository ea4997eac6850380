-- Flows over devices: from subjects to devices, from devices to subjects, and between devices (this project's own: what a policy
-- grants of a device, and what a device may reach by itself).
use Rattle.std.specs.Prelude.{ℕ, ◌==◌, ◌&&◌, ◌||◌, not, Bool, false, List, ◌++◌, length, map}
use Rattle.std.specs.List.{list_any}
use Rattle.std.specs.Str.{bytes_eq}
use Rattle.muen_num.specs.declared.access.AccessKind.{AccessKind}
use Rattle.muen_num.specs.declared.access.AccessKind.TheVariants.{Read, Write}
use Rattle.policy_flows.specs.Flows.{flows_to}
use Rattle.policy_lawful.specs.Dma.{dma_windows}
use Rattle.policy_lawful.specs.Rights.{allows}
use Rattle.policy_lawful.specs.Thing.{Thing, device_memory, same_thing}
use Rattle.policy_lawful.specs.Windows.{windows_of}
use Rattle.policy_lawful.specs.source.Device.{Device}
use Rattle.policy_lawful.specs.source.Domain.{Domain}
use Rattle.policy_lawful.specs.source.Source.{Source}
use Rattle.policy_lawful.specs.source.Subject.{Subject}

-- ---- between a subject and a device

-- ports of the device are granted to the subject
abbrev pub by_ports : Subject → Device → Bool
by_ports s d = list_any (λ x. bytes_eq x.device d.name && not (length x.io_ports == 0)) s.devices

-- an interrupt of the device is
abbrev pub by_interrupt : Subject → Device → Bool
by_interrupt s d = list_any (λ x. bytes_eq x.device d.name && not (length x.irqs == 0)) s.devices

abbrev pub is_memory_of : List ℕ → Thing → Bool
is_memory_of device (device_memory owner memory) = bytes_eq owner device
is_memory_of device _ = false

-- the subject has a window on memory of the device
abbrev pub by_registers : Source → Subject → Device → Bool
by_registers p s d = list_any (λ v. is_memory_of d.name v.thing) (windows_of p s)

-- by itself the device has one kind of access to a thing, and the subject another one
abbrev pub by_dma : Source → AccessKind → AccessKind → Subject → Device → Bool
by_dma p own other s d =
    list_any (λ w. allows w.rights own && list_any (λ v. allows v.rights other && same_thing w.thing v.thing) (windows_of p s)) (dma_windows p d.name)

-- what the subject does can reach the device. To read a register counts too: a device may tell that it was read
unfoldable pub tells : Source → Subject → Device → Bool
tells p s d = by_ports s d || by_registers p s d || by_dma p Read Write s d

-- what the device does can reach the subject
unfoldable pub hears : Source → Subject → Device → Bool
hears p s d = by_ports s d || by_registers p s d || by_interrupt s d || by_dma p Write Read s d

-- ---- between devices

abbrev pub has_device : Domain → List ℕ → Bool
has_device x device = list_any (λ name. bytes_eq name device) x.devices

-- they stand in one domain, whose windows are those of each of its devices
unfoldable pub are_together : Source → Device → Device → Bool
are_together p d e = list_any (λ x. has_device x d.name && has_device x e.name) p.device_domains

-- ---- between all

-- a subject or a device
pub data End : Type 0 where
  subject : Subject → End
  device : Device → End

-- what the first does can reach the second
abbrev pub leads_to : Source → End → End → Bool
leads_to p (subject u) (subject s) = flows_to p u s
leads_to p (subject u) (device d) = tells p u d
leads_to p (device d) (subject s) = hears p s d
leads_to p (device d) (device e) = are_together p d e

-- all of a policy
abbrev pub ends_of : Source → List End
ends_of p = map subject p.subjects ++ map device p.devices
