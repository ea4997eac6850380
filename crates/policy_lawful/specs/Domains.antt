-- The rules on domains of devices and on monitors, each by its first offence (Muen system policy: device domains, in this
-- project's profile; Intel VT-d: source identifiers). Rules 21 to 23 go condition by condition, each over all the document.
use Rattle.std.specs.Prelude.{ℕ, ◌+◌, ◌==◌, ◌&&◌, not, Bool, true, false, List, [], ◌∷◌, length, map, codes, nat_lt, nat_le, Option, Some, None, is_some}
use Rattle.std.specs.Option.{option_map_or}
use Rattle.std.specs.List.{find, list_any, flat_map}
use Rattle.std.specs.Str.{bytes_eq}
use Rattle.muen_num.specs.declared.limits.TheConstants.{BDF_DEVICES, BDF_FUNCTIONS, GUEST_END, MOST_DOMAINS}
use Rattle.muen_num.specs.Search.{first_of, first_in, first_after, first_pair, unless}
use Rattle.policy_lawful.specs.Offences.{alone, two}
use Rattle.policy_lawful.specs.Rules.{are_apart, at_most, is_declared, repeated, subject_cpu, is_on}
use Rattle.muen_num.specs.Numbers.{is_page_aligned}
use Rattle.policy_lawful.specs.declared.offence.Extent.{Extent}
use Rattle.policy_lawful.specs.declared.offence.Offence.{Offence}
use Rattle.policy_types.specs.Rights.{may_execute}
use Rattle.policy_types.specs.declared.source.Bdf.{Bdf}
use Rattle.policy_types.specs.declared.source.Mapping.{Mapping}
use Rattle.policy_types.specs.declared.source.Monitor.{Monitor}
use Rattle.policy_types.specs.declared.source.Source.{Source}
use Rattle.policy_types.specs.declared.source.Subject.{Subject}

-- ---- names that stand in domains

-- a name in a domain
pub record Listed : Type 0 where
  pub domain : List ℕ
  pub name : List ℕ

-- the devices of all domains, and the regions of their windows
abbrev pub listed_devices : Source → List Listed
listed_devices p = flat_map (λ d. map (λ name. record { domain = d.name; name = name }) d.devices) p.device_domains

abbrev pub listed_regions : Source → List Listed
listed_regions p = flat_map (λ d. map (λ m. record { domain = d.name; name = m.region }) d.memory) p.device_domains

-- the name stands in a domain before
abbrev pub stands_before : List Listed → Listed → Bool
stands_before before x = list_any (λ b. bytes_eq b.name x.name) before

-- ---- rule 21: the devices of domains

-- the device has a bus, device and function number
abbrev pub device_has_bdf : Source → List ℕ → Bool
device_has_bdf p name = option_map_or (λ d. is_some d.bdf) (find (λ d. bytes_eq d.name name) p.devices) false

-- a device and function number that there is on a bus
abbrev pub is_bdf : Option Bdf → Bool
is_bdf None = true
is_bdf (Some b) = nat_lt b.device BDF_DEVICES && nat_lt b.function BDF_FUNCTIONS

abbrev pub same_bdf : Option Bdf → Option Bdf → Bool
same_bdf (Some a) (Some b) = (a.bus == b.bus) && (a.device == b.device) && (a.function == b.function)
same_bdf _ _ = false

unfoldable pub offence_21 : Source → Option Offence
offence_21 p =
    first_of (
    at_most (length p.device_domains) MOST_DOMAINS (codes "deviceDomains")
    ∷ repeated (map (λ d. d.name) p.device_domains)
    ∷ first_in (λ x. unless (is_declared (map (λ d. d.name) p.devices) x.name) (two x.domain x.name)) (listed_devices p)
    ∷ first_after (λ before x. unless (not (stands_before before x)) (two x.domain x.name)) [] (listed_devices p)
    ∷ first_in (λ x. unless (device_has_bdf p x.name) (two x.domain x.name)) (listed_devices p)
    ∷ first_in (λ d. unless (is_bdf d.bdf) (alone d.name)) p.devices
    ∷ first_pair (λ a b. unless (not (same_bdf a.bdf b.bdf)) (two a.name b.name)) p.devices
    ∷ []
    )

-- ---- rule 22: the windows of domains

-- of each window of each domain
abbrev pub each_window : Source → (List ℕ → Mapping → Option Offence) → Option Offence
each_window p at = first_in (λ d. first_in (at d.name) d.memory) p.device_domains

abbrev pub region_size : Source → List ℕ → ℕ
region_size p name = option_map_or (λ r. r.size) (find (λ r. bytes_eq r.name name) p.memory) 0

-- a window as a range of the devices' addresses
abbrev pub domain_extent : Source → Mapping → Extent
domain_extent p m = record { name = m.region; address = m.virtual_address; size = region_size p m.region }

-- of two windows the later one is named
abbrev pub domain_overlap : List ℕ → Extent → Extent → Option Offence
domain_overlap by a b = unless (are_apart a b) (two by b.name)

unfoldable pub offence_22 : Source → Option Offence
offence_22 p =
    first_of (
    each_window p (λ by m. unless (is_declared (map (λ r. r.name) p.memory) m.region) (two by m.region))
    ∷ each_window p (λ by m. unless (is_page_aligned m.virtual_address) (two by m.region))
    ∷ each_window p (λ by m. unless (nat_le (m.virtual_address + region_size p m.region) GUEST_END) (two by m.region))
    ∷ each_window p (λ by m. unless (not (may_execute m.rights)) (two by m.region))
    ∷ first_in (λ d. first_pair (domain_overlap d.name) (map (domain_extent p) d.memory)) p.device_domains
    ∷ []
    )

-- ---- rule 23: a region stands in one domain at most, once

unfoldable pub offence_23 : Source → Option Offence
offence_23 p =
    first_after (λ before x. unless (not (stands_before before x)) (two x.name x.domain)) [] (listed_regions p)

-- ---- rule 24: monitors

-- a monitor of this subject behind these: its subject is another one on the same CPU, not monitored by them, and there
-- is no right to execute
abbrev pub is_monitor : Source → Subject → List Monitor → Monitor → Bool
is_monitor p s before m =
    not (bytes_eq m.subject s.name)
    && is_on (subject_cpu p m.subject) s.cpu
    && not (list_any (λ b. bytes_eq b.subject m.subject) before)
    && not (may_execute m.rights)

abbrev pub monitor_offence : Source → Subject → Option Offence
monitor_offence p s = first_after (λ before m. unless (is_monitor p s before m) (two s.name m.subject)) [] s.monitors

unfoldable pub offence_24 : Source → Option Offence
offence_24 p = first_in (monitor_offence p) p.subjects
