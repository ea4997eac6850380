-- How many bytes the rows of an image have at most, and an image with the most rows (this project's own format).
use Rattle.std.specs.Prelude.{ℕ, ◌+◌, ◌*◌}
use Rattle.muen_num.specs.declared.limits.TheConstants.{MOST_BLOCK_BYTES, MOST_CALLS, MOST_CPUS, MOST_DEVICES, MOST_DEVICE_WINDOWS, MOST_MAJOR_FRAMES, MOST_MINOR_FRAMES, MOST_PER_DEVICE, MOST_REGIONS, MOST_SUBJECTS, NAME_MOST}

-- a name: its length, and its room
abbrev pub name_size : ℕ
name_size = 1 + NAME_MOST

-- the counts at the front
abbrev pub header_size : ℕ
header_size = 24

-- a span: its numbers, two names and zeros
abbrev pub span_size : ℕ
span_size = 16 + 2 * name_size + 16

-- a scheduling group
abbrev pub group_size : ℕ
group_size = 8

-- a subject: its numbers and zeros, its name, and four bytes for each call and each trap
abbrev pub subject_size : ℕ
subject_size = 32 + name_size + 2 * (4 * MOST_CALLS)

-- a minor frame
abbrev pub minor_size : ℕ
minor_size = 8

-- the minor frames of a CPU: how many they are, and they
abbrev pub frames_size : ℕ
frames_size = 4 + MOST_MINOR_FRAMES * minor_size

-- a major frame: its ticks, and the minor frames of each CPU
abbrev pub major_size : ℕ
major_size = 4 + MOST_CPUS * frames_size

-- a device's port range, memory and interrupt
abbrev pub range_size : ℕ
range_size = 4

abbrev pub window_size : ℕ
window_size = 2

abbrev pub irq_size : ℕ
irq_size = name_size + 4

-- a device: its name, three counts and a zero, and what it has
abbrev pub device_size : ℕ
device_size = name_size + 4 + MOST_PER_DEVICE * (range_size + window_size + irq_size)

-- the longest image: the counts, the rows, and what the spans hold
abbrev pub most_image_bytes : ℕ
most_image_bytes =
    header_size
    + (MOST_REGIONS + MOST_DEVICE_WINDOWS) * span_size
    + MOST_SUBJECTS * group_size
    + MOST_SUBJECTS * subject_size
    + MOST_MAJOR_FRAMES * major_size
    + MOST_DEVICES * device_size
    + MOST_BLOCK_BYTES
