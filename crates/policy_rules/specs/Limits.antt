-- Rule 20 of a resolved policy: the limits, with windows and provided regions by indexes.
use Rattle.std.specs.Prelude.{ℕ, ◌+◌, ◌-◌, ◌&&◌, List, length, nat_le, codes, is_some, Option}
use Rattle.std.specs.Option.{option_or}
use Rattle.std.specs.List.{count_by, enumerate_from, list_all, sum_by}
use Rattle.muen_num.specs.declared.limits.TheConstants.{KERNEL_REGIONS, MOST_BLOCK_BYTES, MOST_BLOCKS, MOST_CHANNELS, MOST_COMPONENTS, MOST_DEVICE_BYTES, MOST_DEVICE_WINDOWS, MOST_DEVICES, MOST_EVENTS, MOST_LOGICAL_NAMES, MOST_MAJOR_FRAMES, MOST_MSRS, MOST_REGIONS, MOST_SUBJECTS, MOST_WINDOWS}
use Rattle.muen_num.specs.Search.{first_in, unless}
use Rattle.policy_lawful.specs.ByIndex.{is_short, provided_at}
use Rattle.policy_lawful.specs.Offences.{alone}
use Rattle.policy_lawful.specs.Resolution.{Resolution}
use Rattle.policy_lawful.specs.Rules.{at_most, device_limit, major_name}
use Rattle.policy_lawful.specs.declared.offence.Offence.{Offence}
use Rattle.policy_lawful.specs.declared.resolved.MajorFrame.{MajorFrame}
use Rattle.policy_lawful.specs.declared.resolved.Subject.{Subject}
use Rattle.policy_lawful.specs.source.Block.{Block}
use Rattle.policy_lawful.specs.source.Channel.{Channel}
use Rattle.policy_lawful.specs.source.Component.{Component}
use Rattle.policy_lawful.specs.source.Device.{Device}
use Rattle.policy_lawful.specs.source.Event.{Event}
use Rattle.policy_lawful.specs.source.Msrs.{Msrs}
use Rattle.policy_lawful.specs.Views.{views_of}

-- the limits on blocks
abbrev pub blocks_limit : List Block → Option Offence
blocks_limit blocks =
    option_or (at_most (length blocks) MOST_BLOCKS (codes "memoryBlocks")) (at_most (sum_by (λ b. b.size) blocks) MOST_BLOCK_BYTES (codes "memoryBlocks"))

-- on devices, and on each
abbrev pub devices_limit : List Device → Option Offence
devices_limit devices = option_or (at_most (length devices) MOST_DEVICES (codes "devices")) (first_in device_limit devices)

-- on the memory of all devices, of which there is so much and so many bytes
abbrev pub device_memory_limit : ℕ → ℕ → Option Offence
device_memory_limit many bytes = option_or (at_most many MOST_DEVICE_WINDOWS (codes "devices")) (at_most bytes MOST_DEVICE_BYTES (codes "devices"))

-- on channels, components and their logical names, and all events
abbrev pub name_limit : Component → Option Offence
name_limit c = at_most (length c.provides + length c.memory + length c.channels) MOST_LOGICAL_NAMES c.name

abbrev pub names_limit : List Channel → List Component → List Event → Option Offence
names_limit channels components events =
    option_or (option_or (option_or (at_most (length channels) MOST_CHANNELS (codes "channels")) (at_most (length components) MOST_COMPONENTS (codes "components")))
    (first_in name_limit components))
    (at_most (length events + count_by (λ c. is_some c.has_event) channels) MOST_EVENTS (codes "events"))

-- how many MSRs there are in a range, none where it ends before it starts
abbrev pub msr_count_in : Msrs → ℕ
msr_count_in x = (x.end + 1) - x.start

-- on a subject's windows and MSRs, where it has so many windows
abbrev pub subject_limit_with : ℕ → Subject → Option Offence
subject_limit_with windows s = unless (nat_le windows MOST_WINDOWS && nat_le (sum_by msr_count_in s.msrs) MOST_MSRS) (alone s.name)

abbrev pub subject_limit_at : Resolution → Subject → Option Offence
subject_limit_at r s = subject_limit_with (length (views_of r s)) s

abbrev pub count_limit : List Subject → Option Offence
count_limit subjects = unless (nat_le 1 (length subjects) && nat_le (length subjects) MOST_SUBJECTS) (alone (codes "subjects"))

-- the regions that a subject adds
abbrev pub regions_of_subject : Resolution → Subject → ℕ
regions_of_subject r s = length (provided_at r.components s.component) + KERNEL_REGIONS

-- on all regions
abbrev pub regions_limit : Resolution → Option Offence
regions_limit r =
    at_most (length r.memory + length r.channels + sum_by (regions_of_subject r) r.subjects) MOST_REGIONS (codes "memory")

-- on major frames
abbrev pub resolved_major_limit : ℕ × MajorFrame → Option Offence
resolved_major_limit (k, m) = unless (list_all is_short m.cpus) (alone (major_name k))

abbrev pub majors_limit : List MajorFrame → Option Offence
majors_limit majors =
    option_or (unless (nat_le 1 (length majors) && nat_le (length majors) MOST_MAJOR_FRAMES) (alone (codes "majorFrames"))) (first_in resolved_major_limit (enumerate_from 0 majors))

-- on what is declared before the subjects
abbrev pub declared_limit : Resolution → Option Offence
declared_limit r =
    option_or (option_or (option_or (blocks_limit r.memory_blocks) (devices_limit r.devices))
    (device_memory_limit (sum_by (λ d. length d.memory) r.devices) (sum_by (λ d. sum_by (λ m. m.size) d.memory) r.devices)))
    (names_limit r.channels r.components r.events)

-- on subjects
abbrev pub subjects_limit : Resolution → Option Offence
subjects_limit r = option_or (count_limit r.subjects) (first_in (subject_limit_at r) r.subjects)

-- all of them
abbrev pub limits_offence : Resolution → Option Offence
limits_offence r = option_or (option_or (declared_limit r) (subjects_limit r)) (option_or (regions_limit r) (majors_limit r.scheduling.major_frames))
