-- The names of parts: what a device has, and what a component wants.
use Rattle.std.specs.Prelude.{◌≡◌, List, ℕ, map, not, Option}
use Rattle.std.specs.Option.{option_or}
use Rattle.std.specs.Str.{bytes_eq}
use Rattle.muen_num.specs.Search.{first_in, first_after, unless}
use Rattle.policy_lawful.specs.Offences.{alone}
use Rattle.policy_lawful.specs.Rules.{device_kinds, logical_names, repeated}
use Rattle.policy_lawful.specs.declared.offence.Offence.{Offence}
use Rattle.policy_lawful.specs.source.Component.{Component}
use Rattle.policy_lawful.specs.source.Device.{Device}
use Rattle.policy_lawful.specs.source.Source.{Source}
use Rattle.policy_names.specs.declared.parts.DeviceNames.{DeviceNames}
use Rattle.policy_names.specs.declared.parts.WantedNames.{WantedNames}

-- the first of these names that stood before it
unfoldable pub repeats : List (List ℕ) → Option Offence
repeats names = repeated names

-- the same, where others stand in front of them
unfoldable pub repeats_behind : List (List ℕ) → List (List ℕ) → Option Offence
repeats_behind front names = first_after (λ before b. first_in (λ a. unless (not (bytes_eq a b)) (alone b)) before) front names

-- the names of a device's memory, ports and interrupts
abbrev pub names_of_device : Device → DeviceNames
names_of_device d = record { memory = map (λ m. m.name) d.memory; io_ports = map (λ x. x.name) d.io_ports; irqs = map (λ i. i.name) d.irqs }

-- the first that stands twice in one of them
abbrev pub device_repeats : Device → Option Offence
device_repeats d = first_in repeats (device_kinds d)

-- a component's logical names that want regions, and those that want channels
abbrev pub names_of_wanted : Component → WantedNames
names_of_wanted c = record { regions = map (λ x. x.logical) c.memory; channels = map (λ x. x.logical) c.channels }

-- the first logical name that stands twice
abbrev pub component_repeats : Component → Option Offence
component_repeats c = repeats (logical_names c)

-- ---- the kinds of names, several at a time, in their order

-- of blocks, of devices and of their parts
unfoldable pub hardware_repeats : Source → Option Offence
hardware_repeats p = option_or (repeats (map (λ b. b.name) p.memory_blocks)) (option_or (repeats (map (λ d. d.name) p.devices)) (first_in device_repeats p.devices))

-- of components and of their parts
unfoldable pub components_repeat : Source → Option Offence
components_repeat p = option_or (repeats (map (λ c. c.name) p.components)) (first_in component_repeats p.components)

-- of events, subjects and groups
unfoldable pub members_repeat : Source → Option Offence
members_repeat p = option_or (repeats (map (λ e. e.name) p.events)) (option_or (repeats (map (λ s. s.name) p.subjects)) (repeats (map (λ g. g.name) p.scheduling.groups)))

-- ---- these names, found

-- the names of a policy's components, and of what they want
abbrev pub AreComponentNames : Source → List (List ℕ) × List WantedNames → Type 0
AreComponentNames p x = (x.0 ≡ map (λ c. c.name) p.components) × (x.1 ≡ map names_of_wanted p.components)

-- those of its events, its subjects and its groups
abbrev pub AreMemberNames : Source → List (List ℕ) × List (List ℕ) × List (List ℕ) → Type 0
AreMemberNames p x = (x.0 ≡ map (λ e. e.name) p.events) × (x.1 ≡ map (λ s. s.name) p.subjects) × (x.2 ≡ map (λ g. g.name) p.scheduling.groups)
