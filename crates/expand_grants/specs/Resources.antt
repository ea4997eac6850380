-- The ports and MSRs that are granted to a subject (Muen system policy: device resources, MSRs).
use Rattle.std.specs.Prelude.{ℕ, ◌+◌, ◌-◌, ◌==◌, ◌&&◌, if◌then◌else◌, Bool, List, map, filter, nat_le, option_and_then, option_map}
use Rattle.std.specs.List.{filter_map, find, flat_map, list_all, list_any}
use Rattle.std.specs.Str.{bytes_eq}
use Rattle.policy_lawful.specs.resources.MsrGrant.{MsrGrant}
use Rattle.policy_lawful.specs.resources.PortRange.{PortRange}
use Rattle.muen_num.specs.Range.{numbers_below}
use Rattle.muen_num.specs.declared.limits.TheConstants.{LAST_PORT}
use Rattle.policy_lawful.specs.source.DeviceUse.{DeviceUse}
use Rattle.policy_lawful.specs.source.Msrs.{Msrs}
use Rattle.policy_lawful.specs.source.Ports.{Ports}
use Rattle.policy_lawful.specs.source.Source.{Source}
use Rattle.policy_lawful.specs.source.Subject.{Subject}
use Rattle.policy_lawful.specs.PortRanges.{has_port}

-- ---- ports

abbrev pub port_range_of : Ports → PortRange
port_range_of x = record { start = x.start; end = x.end }

-- the ranges of a device that a use of it names
abbrev pub device_ranges : Source → DeviceUse → List PortRange
device_ranges p d =
    filter_map (λ name. option_and_then (λ x. option_map port_range_of (find (λ r. bytes_eq r.name name) x.io_ports))
    (find (λ x. bytes_eq x.name d.device) p.devices))
    d.io_ports

-- the ranges that are granted to a subject, in the grants' order
unfoldable pub port_ranges_of : Source → Subject → List PortRange
port_ranges_of p s = flat_map (device_ranges p) s.devices

-- the ports that are granted to a subject, ascending
unfoldable pub ports_of : Source → Subject → List ℕ
ports_of p s = filter (λ port. list_any (λ r. has_port r port) (port_ranges_of p s)) (numbers_below (LAST_PORT + 1))

-- an access of so many bytes doesn't go past the last port, and each port that it touches is granted
abbrev pub are_granted : List ℕ → ℕ → ℕ → Bool
are_granted ports port size =
    nat_le (port + size) (LAST_PORT + 1) && list_all (λ k. list_any (λ n. n == port + k) ports) (numbers_below size)

-- ---- MSRs

abbrev pub msr_grant : Msrs → MsrGrant
msr_grant m = record { start = m.start; end = m.end; read = m.rights.read; write = m.rights.write }

-- a granted MSR
pub record Msr : Type 0 where
  pub index : ℕ
  pub read : Bool
  pub write : Bool

abbrev pub each_msr_in : Msrs → List Msr
each_msr_in m = map (λ k. record { index = m.start + k; read = m.rights.read; write = m.rights.write }) (numbers_below (m.end + 1 - m.start))

-- the MSRs that are granted to a subject, in the grants' order, ascending in each range
unfoldable pub msrs_of : Subject → List Msr
msrs_of s = flat_map each_msr_in s.msrs

-- the MSR is granted for reads, or for writes
abbrev pub is_granted : List Msr → ℕ → Bool → Bool
is_granted msrs index write = list_any (λ m. (m.index == index) && (if write then m.write else m.read)) msrs
