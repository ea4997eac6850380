-- Ranges of ports and of MSRs as ranges of addresses.
use Rattle.std.specs.Prelude.{ℕ, ◌+◌, ◌-◌, ◌&&◌, Bool, List, min, nat_le, Option, if◌then◌else◌}
use Rattle.std.specs.List.{list_all}
use Rattle.muen_num.specs.declared.limits.TheConstants.{LAST_PORT}
use Rattle.muen_num.specs.Search.{unless}
use Rattle.policy_lawful.specs.MoreRules.{is_msr_range, msrs_apart}
use Rattle.policy_lawful.specs.Offences.{alone}
use Rattle.policy_lawful.specs.declared.offence.Extent.{Extent}
use Rattle.policy_lawful.specs.declared.offence.Offence.{Offence}
use Rattle.policy_lawful.specs.declared.resolved.Subject.{Subject}
use Rattle.policy_lawful.specs.source.Msrs.{Msrs}
use Rattle.policy_lawful.specs.source.Ports.{Ports}
use Rattle.policy_lawful.specs.Ranges.{is_port_range}

-- empty where it isn't a range of ports
abbrev pub port_extent : Ports → Extent
port_extent x = record { name = x.name; address = x.start; size = if is_port_range x then x.end - x.start + 1 else 0 }

abbrev pub msr_extent : List ℕ → Msrs → Extent
msr_extent name x = record { name = name; address = x.start; size = min 18446744073709551615 (x.end - x.start + 1) }

-- of a subject's ranges
abbrev pub msrs_offence : Subject → Option Offence
msrs_offence s = unless (list_all is_msr_range s.msrs && msrs_apart s.msrs) (alone s.name)
