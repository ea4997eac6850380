-- The numbers that the form of an image, its files and the exits of a run cite; those that a policy cites too are worked out with its meaning.
use Rattle.std.proofs.Common.{◌≡◌, refl}
use Rattle.image_pack.specs.Codes.{nobody}
use Rattle.image_pack.specs.Sizes.{frames_size, group_size, header_size, irq_size, minor_size, name_size, range_size, window_size}
use Rattle.muen_num.specs.declared.limits.TheConstants.{EXIT_EPT_MISCONFIGURATION, EXIT_EPT_VIOLATION, EXIT_EXCEPTION, EXIT_HLT, EXIT_IO, EXIT_RDMSR, EXIT_VMCALL, EXIT_WRMSR, IMAGE_MOST, OUTPUT_BLOCK, RECORD_MOST}

-- ---- parts of an image, in bytes (this project's own format)

-- eight bytes of the version, five counts and three zeros, and eight for the spans and tau0
a_header : header_size ≡ 24
a_header = refl

a_name : name_size ≡ 64
a_name = refl

a_group : group_size ≡ 8
a_group = refl

a_minor_frame : minor_size ≡ 8
a_minor_frame = refl

-- a count and zeros, and 64 minor frames
the_frames_of_a_cpu : frames_size ≡ 516
the_frames_of_a_cpu = refl

a_port_range : range_size ≡ 4
a_port_range = refl

a_memory_of_a_device : window_size ≡ 2
a_memory_of_a_device = refl

-- a name, and four bytes of whom it reaches
an_interrupt : irq_size ≡ 68
an_interrupt = refl

-- the number in place of a subject's where an interrupt reaches nobody
reaches_nobody : nobody ≡ 255
reaches_nobody = refl

-- ---- files and texts, in bytes (this project's profile)

-- 96 MiB
an_image : IMAGE_MOST ≡ 100663296
an_image = refl

-- 16 MiB
a_record : RECORD_MOST ≡ 16777216
a_record = refl

-- 64 KiB
a_block_of_output : OUTPUT_BLOCK ≡ 65536
a_block_of_output = refl

-- ---- basic exit reasons (Intel SDM volume 3, appendix on basic exit reasons)

exception : EXIT_EXCEPTION ≡ 0
exception = refl

hlt : EXIT_HLT ≡ 12
hlt = refl

vmcall : EXIT_VMCALL ≡ 18
vmcall = refl

io_instruction : EXIT_IO ≡ 30
io_instruction = refl

rdmsr : EXIT_RDMSR ≡ 31
rdmsr = refl

wrmsr : EXIT_WRMSR ≡ 32
wrmsr = refl

ept_violation : EXIT_EPT_VIOLATION ≡ 48
ept_violation = refl

ept_misconfiguration : EXIT_EPT_MISCONFIGURATION ≡ 49
ept_misconfiguration = refl
