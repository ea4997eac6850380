-- Rules 4, 5 and 18 of a resolved policy: addresses, with the windows of subjects by what these see.
use Rattle.std.specs.Prelude.{ℕ, List, ◌++◌, map, Option}
use Rattle.std.specs.Option.{option_or}
use Rattle.std.specs.List.{flat_map}
use Rattle.muen_num.specs.Search.{first_in, unless}
use Rattle.policy_lawful.specs.ByIndex.{block_extent}
use Rattle.policy_lawful.specs.Offences.{alone, two}
use Rattle.policy_lawful.specs.Resolution.{Resolution}
use Rattle.policy_lawful.specs.Rules.{first_overlap, is_guest, is_laid, is_page_size, is_physical}
use Rattle.policy_lawful.specs.declared.offence.Extent.{Extent}
use Rattle.policy_lawful.specs.declared.offence.Offence.{Offence}
use Rattle.policy_lawful.specs.declared.resolved.Subject.{Subject}
use Rattle.policy_lawful.specs.source.Block.{Block}
use Rattle.policy_lawful.specs.source.Component.{Component}
use Rattle.policy_lawful.specs.source.ComponentChannel.{ComponentChannel}
use Rattle.policy_lawful.specs.source.Provided.{Provided}
use Rattle.policy_lawful.specs.source.Required.{Required}
use Rattle.policy_lawful.specs.source.Device.{Device}
use Rattle.policy_lawful.specs.source.DeviceMemory.{DeviceMemory}
use Rattle.policy_lawful.specs.Views.{view_extent, views_of}
use Rattle.policy_lawful.specs.declared.view.View.{View}

-- ---- windows

-- a window that isn't a range of guest addresses, of the subject of this name
abbrev pub outside : List ℕ → View → Option Offence
outside by v = unless (is_guest v.guest v.size) (two by v.name)

-- the first such window of a subject
abbrev pub outside_in_subject : Resolution → Subject → Option Offence
outside_in_subject r s = first_in (outside s.name) (views_of r s)

-- the first two windows of a subject that share an address
abbrev pub overlap_in_subject : Resolution → Subject → Option Offence
overlap_in_subject r s = first_overlap (map view_extent (views_of r s))

-- ---- physical memory

-- memory of this device that isn't a range of physical memory
abbrev pub device_memory_offence : Device → Option Offence
device_memory_offence d = first_in (λ m. unless (is_physical m.physical_address m.size) (two d.name m.name)) d.memory

-- memory of a device as a named range
abbrev pub device_extent : DeviceMemory → Extent
device_extent m = record { name = m.name; address = m.physical_address; size = m.size }

abbrev pub device_extents : List Device → List Extent
device_extents devices = flat_map (λ d. map device_extent d.memory) devices

-- the blocks, then all devices' memory
abbrev pub physical_extents : List Block → List Device → List Extent
physical_extents blocks devices = map block_extent blocks ++ device_extents devices

-- ---- components

-- what a component has for a logical name, where it isn't a range of guest addresses
abbrev pub range_offence : List ℕ → List ℕ → ℕ → ℕ → Option Offence
range_offence by logical address size = unless (is_guest address size) (two by logical)

abbrev pub provided_offence : List ℕ → Provided → Option Offence
provided_offence by x = range_offence by x.logical x.virtual_address x.size

abbrev pub required_offence : List ℕ → Required → Option Offence
required_offence by x = range_offence by x.logical x.virtual_address x.size

abbrev pub component_channel_offence : List ℕ → ComponentChannel → Option Offence
component_channel_offence by x = range_offence by x.logical x.virtual_address x.size

-- the first of what it provides, asks for, and has for channels
abbrev pub component_ranges : Component → Option Offence
component_ranges c =
    option_or (option_or (first_in (provided_offence c.name) c.provides) (first_in (required_offence c.name) c.memory))
    (first_in (component_channel_offence c.name) c.channels)

-- ---- all elements but windows

-- the first of the blocks, the devices' memory, the regions, the channels and the components that offends
abbrev pub elements_offence : Resolution → Option Offence
elements_offence r =
    option_or (option_or (option_or (option_or
    (first_in (λ b. unless (is_physical b.physical_address b.size) (alone b.name)) r.memory_blocks)
    (first_in device_memory_offence r.devices))
    (first_in (λ r. unless (is_laid r) (alone r.name)) r.memory))
    (first_in (λ c. unless (is_page_size c.size) (alone c.name)) r.channels))
    (first_in component_ranges r.components)

-- those, then the windows
abbrev pub addresses_offence : Resolution → Option Offence
addresses_offence r = option_or (elements_offence r) (first_in (outside_in_subject r) r.subjects)
