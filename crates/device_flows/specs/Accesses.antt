-- Which accesses flows over devices count: by what an address may touch, each does.
use Rattle.std.specs.Prelude.{◌≡◌, ℕ, ◌&&◌, true, List, Some}
use Rattle.std.specs.List.{All, list_any}
use Rattle.std.specs.Str.{bytes_eq}
use Rattle.muen_num.specs.declared.access.AccessKind.{AccessKind}
use Rattle.muen_num.specs.declared.access.AccessKind.TheVariants.{Read, Write}
use Rattle.policy_flows.specs.Flows.{IsWithin, closure_of}
use Rattle.policy_lawful.specs.Dma.{dma_access}
use Rattle.policy_lawful.specs.Events.{Target, irq_of}
use Rattle.policy_lawful.specs.Thing.{Thing, device_memory}
use Rattle.policy_lawful.specs.Windows.{access_of, byte, windows_of}
use Rattle.policy_lawful.specs.source.Device.{Device}
use Rattle.policy_lawful.specs.source.Source.{Source}
use Rattle.policy_lawful.specs.source.Subject.{Subject}
use Rattle.device_flows.specs.DeviceFlows.{device_closure_of}
use Rattle.device_flows.specs.Ends.{subject, device, leads_to}

-- a flow leads from the one to the other, and back
pub record LeadBothWays (p : Source) (s : Subject) (d : Device) : Type 0 where
  pub tells : leads_to p (subject s) (device d) ≡ true
  pub hears : leads_to p (device d) (subject s) ≡ true

pub record EveryAccessCounts (p : Source) : Type 0 where
  -- a subject that has a port of a device tells it and hears it
  pub ports : (s : Subject) (d : Device) (port : List ℕ) → list_any (λ x. bytes_eq x.device d.name && list_any (λ name. bytes_eq name port) x.io_ports) s.devices ≡ true
      → LeadBothWays p s d
  -- and so does one that has an access of any kind to a byte of its memory
  pub memory : (s : Subject) (d : Device) (name : List ℕ) (address offset : ℕ) (kind : AccessKind) → access_of (windows_of p s) address kind ≡ byte (device_memory d.name name) offset
      → LeadBothWays p s d
  -- a subject hears a device whose interrupt goes to it
  pub interrupts : All (λ s. (d : Device) (irq : List ℕ) (t : Target) → irq_of p d.name irq ≡ Some t → bytes_eq t.subject s.name ≡ true → leads_to p (device d) (subject s) ≡ true) p.subjects
  -- it tells a device that may read by itself a thing that it may write
  pub read_by_device : (s : Subject) (d : Device) (thing : Thing) (address offset own other : ℕ) → access_of (windows_of p s) address Write ≡ byte thing offset
      → dma_access p d.name own Read ≡ byte thing other → leads_to p (subject s) (device d) ≡ true
  -- and hears one that may write by itself a thing to which it has an access of any kind
  pub written_by_device : (s : Subject) (d : Device) (thing : Thing) (address offset own other : ℕ) (kind : AccessKind) → access_of (windows_of p s) address kind ≡ byte thing offset
      → dma_access p d.name own Write ≡ byte thing other → leads_to p (device d) (subject s) ≡ true

-- of each name the members of its set without devices are members of the one with them
abbrev pub HoldsDeclaredFlows : Source → Type 0
HoldsDeclaredFlows p = (name : List ℕ) → IsWithin p (closure_of p name) (device_closure_of p name)
