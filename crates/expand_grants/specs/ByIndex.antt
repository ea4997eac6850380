-- What is granted to a subject by the indexes of a resolved policy, and numbers that fit.
use Rattle.std.specs.Prelude.{ℕ, ◌^◌, ◌&&◌, Bool, List, map, slice_get, nat_lt, Option, option_map, option_and_then}
use Rattle.std.specs.List.{enumerate_from, filter_map, flat_map, list_all}
use Rattle.expand_grants.specs.Resources.{port_range_of}
use Rattle.expand_grants.specs.declared.granted.Route.{Route}
use Rattle.policy_lawful.specs.resources.PortRange.{PortRange}
use Rattle.policy_lawful.specs.declared.resolved.DeviceUse.{DeviceUse}
use Rattle.policy_lawful.specs.declared.resolved.IrqUse.{IrqUse}
use Rattle.policy_lawful.specs.declared.resolved.Subject.{Subject}
use Rattle.policy_lawful.specs.source.Device.{Device}
use Rattle.policy_lawful.specs.source.Msrs.{Msrs}
use Rattle.policy_lawful.specs.source.Ports.{Ports}

-- ---- ports

-- the range at an index of the device at an index
abbrev pub range_at : List Device → ℕ → ℕ → Option PortRange
range_at devices device index = option_and_then (λ d. option_map port_range_of (slice_get d.io_ports index)) (slice_get devices device)

-- the ranges that a use of a device names
abbrev pub ranges_at : List Device → DeviceUse → List PortRange
ranges_at devices used = filter_map (range_at devices used.device) used.io_ports

abbrev pub fits_ports : Ports → Bool
fits_ports x = nat_lt x.start (2 ^ 16) && nat_lt x.end (2 ^ 16)

abbrev pub fits_device : Device → Bool
fits_device d = list_all fits_ports d.io_ports

-- ---- MSRs

abbrev pub fits_msrs : Msrs → Bool
fits_msrs m = nat_lt m.start (2 ^ 32) && nat_lt m.end (2 ^ 32)

-- ---- interrupts

abbrev pub route : ℕ → ℕ → IrqUse → Route
route subject device i = record { device = device; irq = i.irq; subject = subject; vector = i.vector }

-- of what a subject is granted of a device
abbrev pub device_routes : ℕ → DeviceUse → List Route
device_routes subject used = map (route subject used.device) used.irqs

-- of a subject with its index
abbrev pub subject_routes : ℕ × Subject → List Route
subject_routes (index, s) = flat_map (device_routes index) s.devices

abbrev pub all_routes : List Subject → List Route
all_routes subjects = flat_map subject_routes (enumerate_from 0 subjects)

abbrev pub fits_irq : IrqUse → Bool
fits_irq i = nat_lt i.vector (2 ^ 8)

abbrev pub fits_use : DeviceUse → Bool
fits_use used = list_all fits_irq used.irqs

abbrev pub fits_uses : Subject → Bool
fits_uses s = list_all fits_use s.devices
