-- Rule 21: the domains of devices, the devices that they list, and bus, device and function numbers.
use Rattle.std.specs.Prelude.{ℕ, ◌+◌, ◌*◌, not, Bool, false, List, [], map, codes, length, Option, Some, None, is_some, option_map, if◌then◌else◌}
use Rattle.std.specs.Option.{option_or, option_map_or}
use Rattle.std.specs.List.{find, list_any, flat_map}
use Rattle.std.specs.Str.{bytes_eq}
use Rattle.muen_num.specs.declared.limits.TheConstants.{MOST_DOMAINS}
use Rattle.muen_num.specs.Search.{first_after, first_in, first_pair, unless}
use Rattle.policy_lawful.specs.Domains.{is_bdf, same_bdf}
use Rattle.policy_lawful.specs.Offences.{alone, two}
use Rattle.policy_lawful.specs.Rules.{at_most, is_declared, repeated}
use Rattle.policy_lawful.specs.declared.offence.Extent.{Extent}
use Rattle.policy_lawful.specs.declared.offence.Offence.{Offence}
use Rattle.policy_lawful.specs.source.Bdf.{Bdf}
use Rattle.policy_lawful.specs.source.Device.{Device}
use Rattle.policy_lawful.specs.source.Domain.{Domain}
use Rattle.rules_devices.specs.declared.listed.Listed.{Listed}

-- a domain under its own name; its devices; the regions of its windows
abbrev pub domain_itself : Domain → Listed
domain_itself d = record { domain = d.name; name = d.name }

abbrev pub domain_devices : Domain → List Listed
domain_devices d = map (λ name. record { domain = d.name; name = name }) d.devices

abbrev pub domain_regions : Domain → List Listed
domain_regions d = map (λ m. record { domain = d.name; name = m.region }) d.memory

-- the first whose name stands before it
abbrev pub first_repeat : List Listed → Option Listed
first_repeat listed = first_after (λ before x. unless (not (list_any (λ b. bytes_eq b.name x.name) before)) x) [] listed

-- the device of this name has a bus, device and function number
abbrev pub has_bdf : List Device → List ℕ → Bool
has_bdf devices name = option_map_or (λ d. is_some d.bdf) (find (λ d. bytes_eq d.name name) devices) false

-- a bus, device and function number as one number, the identifier of what comes from there, under the device's name
abbrev pub bus_extent : List ℕ → Option Bdf → Option Extent
bus_extent name None = None
bus_extent name (Some b) =
    if is_bdf (Some b) then Some (record { name = name; address = b.bus * 256 + b.device * 8 + b.function; size = 1 }) else None

-- the domains by themselves: how many, and their names
abbrev pub names_offence : List Domain → Option Offence
names_offence domains =
    option_or (at_most (length domains) MOST_DOMAINS (codes "deviceDomains")) (repeated (map (λ d. d.name) domains))

-- the devices that they list
abbrev pub listed_offence : List Device → List Listed → Option Offence
listed_offence devices listed =
    option_or (option_or (first_in (λ x. unless (is_declared (map (λ d. d.name) devices) x.name) (two x.domain x.name)) listed)
    (option_map (λ x. two x.domain x.name) (first_repeat listed)))
    (first_in (λ x. unless (has_bdf devices x.name) (two x.domain x.name)) listed)

-- bus, device and function numbers
abbrev pub bus_offence : List Device → Option Offence
bus_offence devices =
    option_or (first_in (λ d. unless (is_bdf d.bdf) (alone d.name)) devices)
    (first_pair (λ a b. unless (not (same_bdf a.bdf b.bdf)) (two a.name b.name)) devices)

-- the conditions in turn
abbrev pub domains_offence : List Device → List Domain → Option Offence
domains_offence devices domains =
    option_or (names_offence domains) (option_or (listed_offence devices (flat_map domain_devices domains)) (bus_offence devices))
