-- The system that `load` makes of a number (this project's own): subjects in a ring, each with a channel to the next.
use Rattle.std.specs.Prelude.{ℕ, ◌+◌, ◌-◌, ◌*◌, ◌/◌, ◌%◌, ◌==◌, pos, negsuc, List, [], ◌∷◌, ◌++◌, map, replicate, codes, decimal, Some, None, if◌then◌else◌}
use Rattle.std.specs.List.{flat_map}
use Rattle.guest_isa.specs.GuestIsa.{encoding_of, instruction_with}
use Rattle.guest_isa.specs.declared.instr.Instr.{Instr}
use Rattle.guest_isa.specs.declared.opcode.Opcode.TheVariants.{Nop, Li, Add, Load, Store, Jmp, In, Vmcall, Sti, Setv, Reti}
use Rattle.muen_num.specs.Range.{numbers_below}
use Rattle.muen_num.specs.declared.access.AccessSize.TheVariants.{One, Eight}
use Rattle.muen_num.specs.declared.limits.TheConstants.{PAGE}
use Rattle.muen_num.specs.declared.mode.EventMode.TheVariants.{Asap}
use Rattle.policy_lawful.specs.rights.Caching.TheVariants.{Wb}
use Rattle.policy_lawful.specs.rights.Rights.TheVariants.{Rx}
use Rattle.policy_lawful.specs.rights.Role.TheVariants.{Writer, Reader}
use Rattle.policy_lawful.specs.source.Block.{Block}
use Rattle.policy_lawful.specs.source.Channel.{Channel}
use Rattle.policy_lawful.specs.source.ChannelUse.{ChannelUse}
use Rattle.policy_lawful.specs.source.Content.TheVariants.{Inline}
use Rattle.policy_lawful.specs.source.CpuFrames.{CpuFrames}
use Rattle.policy_lawful.specs.source.Device.{Device}
use Rattle.policy_lawful.specs.source.DeviceUse.{DeviceUse}
use Rattle.policy_lawful.specs.source.Group.{Group}
use Rattle.policy_lawful.specs.source.MinorFrame.{MinorFrame}
use Rattle.policy_lawful.specs.source.Region.{Region}
use Rattle.policy_lawful.specs.source.Scheduling.{Scheduling}
use Rattle.policy_lawful.specs.source.Source.{Source}
use Rattle.policy_lawful.specs.source.Subject.{Subject}

-- ---- its measures

-- how many CPUs there are, with two subjects each
abbrev pub cpus_for : ℕ → ℕ
cpus_for n = 1 + n % 4

abbrev pub subjects_on : ℕ → ℕ
subjects_on cpus = 2 * cpus

-- how many of a CPU's eight ticks its first subject has
abbrev pub first_ticks_for : ℕ → ℕ
first_ticks_for n = 1 + n % 7

-- ---- names

abbrev pub numbered : List ℕ → ℕ → List ℕ
numbered stem i = stem ++ decimal i

abbrev pub generated_subject_name : ℕ → List ℕ
generated_subject_name i = numbered (codes "s") i

abbrev pub group_name : ℕ → List ℕ
group_name i = numbered (codes "g") i

abbrev pub region_name : ℕ → List ℕ
region_name i = numbered (codes "m") i

abbrev pub channel_name : ℕ → List ℕ
channel_name i = numbered (codes "c") i

-- ---- guest addresses

-- where a subject's code begins
abbrev pub code_address : ℕ
code_address = 4194304

-- .. its windows on the channel that it writes, and on the one that it reads
abbrev pub written_address : ℕ
written_address = 6291456

abbrev pub read_address : ℕ
read_address = 6295552

-- ---- the program of a subject

-- the first subject reads the device's port; the others do nothing
abbrev pub polling : ℕ → Instr
polling i = if i == 0 then (instruction_with In 9 0 One (pos 16)) else (instruction_with Nop 0 0 One (pos 0))

-- goes round, and writes on what came together with its own number; a call tells the next subject. Behind that the handlers
-- of vector 40, which counts, and of vector 41
abbrev pub program : ℕ → ℕ → List Instr
program n i =
    (instruction_with Li 1 0 One (pos (n + i)))
    ∷ (instruction_with Li 2 0 One (pos read_address))
    ∷ (instruction_with Li 3 0 One (pos written_address))
    ∷ (instruction_with Li 4 0 One (pos 1))
    ∷ (instruction_with Li 5 0 One (pos code_address))
    ∷ (instruction_with Setv 0 5 One (pos 0))
    ∷ (instruction_with Sti 0 0 One (pos 0))
    ∷ (instruction_with Load 6 2 Eight (pos 0))
    ∷ (instruction_with Add 1 6 One (pos 0))
    ∷ (instruction_with Store 1 3 Eight (pos 0))
    ∷ (instruction_with Vmcall 0 4 One (pos 0))
    ∷ polling i
    ∷ (instruction_with Jmp 0 0 One (negsuc 39))
    ∷ replicate 27 (instruction_with Nop 0 0 One (pos 0))
    ++ ((instruction_with Add 7 4 One (pos 0)) ∷ (instruction_with Reti 0 0 One (pos 0)) ∷ [])

-- the bytes of its instructions, in order
unfoldable pub code_of : ℕ → ℕ → List ℕ
code_of n i = flat_map encoding_of (program n i)

-- ---- memory and channels

abbrev pub code_region : (ℕ → List ℕ) → ℕ → Region
code_region code i = record {
  name = region_name i;
  size = PAGE;
  caching = Wb;
  alignment = PAGE;
  physical_address = None;
  content = Inline (code i);
  shared_memory = [];
}

abbrev pub channel : ℕ → Channel
channel i = record { name = channel_name i; size = PAGE; has_event = Some Asap }

-- ---- the device

abbrev pub device : Device
device = record {
  name = codes "dev";
  memory = [];
  io_ports = record { name = codes "p"; start = 16; end = 16 } ∷ [];
  irqs = record { name = codes "t" } ∷ [];
  bdf = None;
}

abbrev pub whole_device : DeviceUse
whole_device = record {
  device = codes "dev";
  memory = [];
  io_ports = codes "p" ∷ [];
  irqs = record { irq = codes "t"; vector = 41 } ∷ [];
}

-- the first subject has it
abbrev pub devices_of_subject : ℕ → List DeviceUse
devices_of_subject i = if i == 0 then whole_device ∷ [] else []

-- ---- subjects

abbrev pub writes_to : ℕ → ChannelUse
writes_to i = record { channel = channel_name i; role = Writer; virtual_address = written_address; call = Some 1; vector = None }

abbrev pub reads_from_channel : ℕ → ChannelUse
reads_from_channel i = record { channel = channel_name i; role = Reader; virtual_address = read_address; call = None; vector = Some 40 }

-- the subject whose channel a subject reads: the one before it, round the ring
abbrev pub one_before : ℕ → ℕ → ℕ
one_before cpus i = (i + subjects_on cpus - 1) % subjects_on cpus

abbrev pub subject : ℕ → ℕ → Subject
subject cpus i = record {
  name = generated_subject_name i;
  cpu = i / 2;
  entry = code_address;
  component = None;
  memory = record { region = region_name i; virtual_address = code_address; rights = Rx } ∷ [];
  channels = writes_to i ∷ reads_from_channel (one_before cpus i) ∷ [];
  devices = devices_of_subject i;
  msrs = [];
  sources = [];
  targets = [];
  monitors = [];
}

-- ---- the scheduling plan

-- a subject alone
abbrev pub group : ℕ → Group
group i = record { name = group_name i; cpu = i / 2; subjects = generated_subject_name i ∷ [] }

abbrev pub generated_minor_frame : ℕ → ℕ → MinorFrame
generated_minor_frame i ticks = record { group = group_name i; ticks = ticks }

-- eight ticks of a CPU, of which its first subject has so many, and its second the others
abbrev pub generated_cpu_frames : ℕ → ℕ → CpuFrames
generated_cpu_frames first j = record { cpu = j; minor_frames = generated_minor_frame (2 * j) first ∷ generated_minor_frame (2 * j + 1) (8 - first) ∷ [] }

-- one major frame
abbrev pub scheduling_with : ℕ → ℕ → Scheduling
scheduling_with cpus first = record {
  groups = map group (numbers_below (subjects_on cpus));
  major_frames = record { cpus = map (generated_cpu_frames first) (numbers_below cpus) } ∷ [];
  tau0 = None;
}

-- ---- the system

abbrev pub generated_block : Block
generated_block = record { name = codes "ram"; physical_address = 16777216; size = 4194304 }

-- with so many CPUs, on which the first subjects have so many ticks, and this code of each subject
abbrev pub system_with : ℕ → ℕ → (ℕ → List ℕ) → Source
system_with cpus first code =
    let subjects : List ℕ = numbers_below (subjects_on cpus) in
    record {
      processor = record { logical_cpus = cpus };
      memory_blocks = generated_block ∷ [];
      devices = device ∷ [];
      memory = map (code_region code) subjects;
      channels = map channel subjects;
      components = [];
      events = [];
      subjects = map (subject cpus) subjects;
      scheduling = scheduling_with cpus first;
      device_domains = [];
    }

unfoldable pub generated_system : ℕ → Source
generated_system n = system_with (cpus_for n) (first_ticks_for n) (code_of n)
