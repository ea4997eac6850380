-- The limits that the meaning and the rules of a policy cite, by their numbers.
use Rattle.std.proofs.Common.{◌≡◌, refl}
use Rattle.muen_num.specs.declared.limits.TheConstants.{BDF_DEVICES, BDF_FUNCTIONS, COMPONENT_FILE_MOST, FIRST_VECTOR, GUEST_END, HIGH_MSR_FIRST, HIGH_MSR_LAST, KERNEL_REGIONS, LARGE_PAGE, LAST_PORT, LAST_VECTOR, LOW_MSR_LAST, MOST_BLOCKS, MOST_BLOCK_BYTES, MOST_CALLS, MOST_CHANNELS, MOST_COMPONENTS, MOST_CPUS, MOST_DEVICES, MOST_DEVICE_BYTES, MOST_DEVICE_WINDOWS, MOST_DOMAINS, MOST_EVENTS, MOST_LOGICAL_NAMES, MOST_MAJOR_FRAMES, MOST_MINOR_FRAMES, MOST_MSRS, MOST_PER_DEVICE, MOST_REGIONS, MOST_SUBJECTS, MOST_TICKS, MOST_WINDOWS, NAME_MOST, PAGE, PHYSICAL_END, POLICY_MOST}

-- ---- the processor (Intel SDM volume 3)

-- 4 KiB, which an entry of a page table maps
a_page : PAGE ≡ 4096
a_page = refl

-- 2 MiB, which an entry of a page directory maps
a_large_page : LARGE_PAGE ≡ 2097152
a_large_page = refl

-- 2^48: four levels of 9 bits, over 12 bits of a page
guest_addresses : GUEST_END ≡ 281474976710656
guest_addresses = refl

-- vectors 0 to 31 are exceptions' or reserved, and a vector is a byte
first_vector : FIRST_VECTOR ≡ 32
first_vector = refl

last_vector : LAST_VECTOR ≡ 255
last_vector = refl

-- FFFFH: ports have 16 bits
last_port : LAST_PORT ≡ 65535
last_port = refl

-- an MSR bitmap covers 0 to 1FFFH, and C0000000H to C0001FFFH
low_msrs : LOW_MSR_LAST ≡ 8191
low_msrs = refl

first_high_msr : HIGH_MSR_FIRST ≡ 3221225472
first_high_msr = refl

last_high_msr : HIGH_MSR_LAST ≡ 3221233663
last_high_msr = refl

-- ---- a PCI bus (PCI local bus): 5 bits of a device, 3 of its function

devices_of_a_bus : BDF_DEVICES ≡ 32
devices_of_a_bus = refl

functions_of_a_device : BDF_FUNCTIONS ≡ 8
functions_of_a_device = refl

-- ---- addresses and bytes (this project's profile)

-- 2^40, 1 TiB
physical_addresses : PHYSICAL_END ≡ 1099511627776
physical_addresses = refl

-- 64 MiB
blocks_bytes : MOST_BLOCK_BYTES ≡ 67108864
blocks_bytes = refl

-- 16 MiB
devices_bytes : MOST_DEVICE_BYTES ≡ 16777216
devices_bytes = refl

-- ---- elements of a policy (this project's profile)

cpus : MOST_CPUS ≡ 8
cpus = refl

subjects : MOST_SUBJECTS ≡ 32
subjects = refl

components : MOST_COMPONENTS ≡ 64
components = refl

logical_names : MOST_LOGICAL_NAMES ≡ 64
logical_names = refl

channels : MOST_CHANNELS ≡ 128
channels = refl

events : MOST_EVENTS ≡ 256
events = refl

devices : MOST_DEVICES ≡ 32
devices = refl

parts_of_a_device : MOST_PER_DEVICE ≡ 16
parts_of_a_device = refl

device_windows : MOST_DEVICE_WINDOWS ≡ 128
device_windows = refl

domains : MOST_DOMAINS ≡ 32
domains = refl

blocks : MOST_BLOCKS ≡ 16
blocks = refl

regions : MOST_REGIONS ≡ 1024
regions = refl

-- a state page, tables, I/O bitmaps, an MSR bitmap and an MSR area
regions_for_a_subject : KERNEL_REGIONS ≡ 5
regions_for_a_subject = refl

windows : MOST_WINDOWS ≡ 128
windows = refl

msrs : MOST_MSRS ≡ 64
msrs = refl

calls : MOST_CALLS ≡ 64
calls = refl

major_frames : MOST_MAJOR_FRAMES ≡ 16
major_frames = refl

minor_frames : MOST_MINOR_FRAMES ≡ 64
minor_frames = refl

ticks : MOST_TICKS ≡ 100000
ticks = refl

-- ---- texts and files, in bytes (this project's profile)

-- with its length, a name has 64 bytes in an image
a_name : NAME_MOST ≡ 63
a_name = refl

-- 4 MiB
a_policy : POLICY_MOST ≡ 4194304
a_policy = refl

-- 64 MiB
a_component : COMPONENT_FILE_MOST ≡ 67108864
a_component = refl
