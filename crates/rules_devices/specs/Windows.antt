-- The windows of a domain of devices, with sizes of regions by their names.
use Rattle.std.specs.Prelude.{ℕ, ◌+◌, List, map, nat_le, Option, not}
use Rattle.std.specs.Option.{option_map_or, option_or}
use Rattle.std.specs.List.{find}
use Rattle.std.specs.Str.{bytes_eq}
use Rattle.muen_num.specs.declared.limits.TheConstants.{GUEST_END}
use Rattle.muen_num.specs.Search.{first_in, first_pair, unless}
use Rattle.policy_lawful.specs.Domains.{domain_overlap}
use Rattle.policy_lawful.specs.Offences.{two}
use Rattle.policy_lawful.specs.Rules.{is_declared}
use Rattle.muen_num.specs.Numbers.{is_page_aligned}
use Rattle.policy_lawful.specs.declared.offence.Extent.{Extent}
use Rattle.policy_lawful.specs.declared.offence.Offence.{Offence}
use Rattle.policy_lawful.specs.Rights.{may_execute}
use Rattle.policy_lawful.specs.source.Domain.{Domain}
use Rattle.policy_lawful.specs.source.Mapping.{Mapping}
use Rattle.policy_lawful.specs.source.Region.{Region}

-- the size of the region of this name
abbrev pub size_among : List Region → List ℕ → ℕ
size_among regions name = option_map_or (λ r. r.size) (find (λ r. bytes_eq r.name name) regions) 0

-- of a domain the first window on no region; at an address that isn't a page's; that ends too high; with a right to execute
abbrev pub undeclared_in : List Region → Domain → Option Offence
undeclared_in regions d = first_in (λ m. unless (is_declared (map (λ r. r.name) regions) m.region) (two d.name m.region)) d.memory

abbrev pub unaligned_in : Domain → Option Offence
unaligned_in d = first_in (λ m. unless (is_page_aligned m.virtual_address) (two d.name m.region)) d.memory

abbrev pub outside_in : List Region → Domain → Option Offence
outside_in regions d =
    first_in (λ m. unless (nat_le (m.virtual_address + size_among regions m.region) GUEST_END) (two d.name m.region)) d.memory

abbrev pub executable_in : Domain → Option Offence
executable_in d = first_in (λ m. unless (not (may_execute m.rights)) (two d.name m.region)) d.memory

-- a window as a range of the devices' addresses
abbrev pub mapping_extent : List Region → Mapping → Extent
mapping_extent regions m = record { name = m.region; address = m.virtual_address; size = size_among regions m.region }

-- the first two windows of a domain that share an address, of which the later one is named
abbrev pub overlap_in : List Region → Domain → Option Offence
overlap_in regions d = first_pair (domain_overlap d.name) (map (mapping_extent regions) d.memory)

-- the conditions in turn
abbrev pub domain_windows_offence : List Region → List Domain → Option Offence
domain_windows_offence regions domains =
    option_or (first_in (undeclared_in regions) domains) (
    option_or (first_in unaligned_in domains) (
    option_or (first_in (outside_in regions) domains) (option_or (first_in executable_in domains) (first_in (overlap_in regions) domains))
    )
    )
