-- Devices that answer one subject, beside another one (this project's own): one that hears what it writes, and one that reads and
-- writes its memory.
use Rattle.std.specs.Prelude.{ℕ, ◌+◌, ◌%◌, ◌==◌, if◌then◌else◌, List, [], ◌∷◌, Option, None, Some, codes, option_map, replicate, slice_index_or}
use Rattle.std.specs.List.{flat_map}
use Rattle.guest_isa.specs.declared.end.Change.{Change}
use Rattle.guest_isa.specs.declared.end.Change.TheVariants.{Plain, Set, Stored, Out, WroteMsr}
use Rattle.policy_lawful.specs.rights.Rights.{Rights}
use Rattle.policy_lawful.specs.rights.Rights.TheVariants.{Rw, Rx}
use Rattle.policy_lawful.specs.rights.Caching.TheVariants.{Wb}
use Rattle.policy_lawful.specs.source.Content.TheVariants.{Inline}
use Rattle.policy_lawful.specs.Thing.{region}
use Rattle.policy_lawful.specs.source.Device.{Device}
use Rattle.policy_lawful.specs.source.Mapping.{Mapping}
use Rattle.policy_lawful.specs.source.Region.{Region}
use Rattle.policy_lawful.specs.source.Scheduling.{Scheduling}
use Rattle.policy_lawful.specs.source.Source.{Source}
use Rattle.policy_lawful.specs.source.Subject.{Subject}
use Rattle.subject_model.specs.DeviceRecord.{DeviceRecord, NamedInput, port_input, irq_input, dma_input}
use Rattle.subject_model.specs.TurnAction.{TurnAction}
use Rattle.subject_model.specs.TurnAction.TheVariants.{Ran, Inject, Exit}
use Rattle.subject_model.specs.TurnLine.{TurnLine}
use Rattle.proof_reactive.specs.Answering.{Heard, Memory}
use Rattle.proof_reactive.specs.Playing.{plain_record}

-- ---- the policy

-- a program of `talker`: it writes a byte to a port and reads it from there, again and again
abbrev pub talker_code : List ℕ
talker_code =
    18 ∷ 16 ∷ 0 ∷ 0 ∷ 0 ∷ 3 ∷ 0 ∷ 0
    ∷ 17 ∷ 16 ∷ 0 ∷ 0 ∷ 0 ∷ 3 ∷ 0 ∷ 0
    ∷ 13 ∷ 0 ∷ 0 ∷ 0 ∷ 240 ∷ 255 ∷ 255 ∷ 255 ∷ []

-- and another one: it gives the ring to the device, again and again
abbrev pub lends : List ℕ
lends = 12 ∷ 0 ∷ 0 ∷ 0 ∷ 0 ∷ 0 ∷ 128 ∷ 0 ∷ 13 ∷ 0 ∷ 0 ∷ 0 ∷ 248 ∷ 255 ∷ 255 ∷ 255 ∷ []

abbrev pub code_region : List ℕ → List ℕ → Region
code_region name bytes = record { name = name; size = 4096; caching = Wb; alignment = 4096; physical_address = None; content = Inline bytes; shared_memory = [] }

-- a region that the device reads and writes too, whose first byte tells who has it: 1 the subject, 0 the device
abbrev pub ring : Region
ring = record { name = codes "ring"; size = 4096; caching = Wb; alignment = 4096; physical_address = None; content = Inline (1 ∷ []); shared_memory = [] }

abbrev pub device : List ℕ → ℕ → ℕ → Device
device name port number = record {
  name = name;
  memory = [];
  io_ports = record { name = codes "regs"; start = port; end = port } ∷ [];
  irqs = record { name = codes "rx" } ∷ [];
  bdf = Some (record { bus = 0; device = number; function = 0 });
}

abbrev pub subject : List ℕ → List Mapping → List ℕ → Subject
subject name windows uses = record {
  name = name;
  cpu = 0;
  entry = 4194304;
  component = None;
  memory = windows;
  channels = [];
  devices = record { device = uses; memory = []; io_ports = codes "regs" ∷ []; irqs = record { irq = codes "rx"; vector = 40 } ∷ [] } ∷ [];
  msrs = [];
  sources = [];
  targets = [];
  monitors = [];
}

abbrev pub shows : List ℕ → ℕ → Rights → Mapping
shows name address rights = record { region = name; virtual_address = address; rights = rights }

abbrev pub talker : Subject
talker = subject (codes "talker") (shows (codes "talker_code") 4194304 Rx ∷ shows (codes "ring") 8388608 Rw ∷ []) (codes "line")

abbrev pub noise : Subject
noise = subject (codes "noise") (shows (codes "noise_code") 4194304 Rx ∷ []) (codes "net")

-- both on one CPU, in turns
abbrev pub plan : Scheduling
plan = record {
  groups = record { name = codes "gtalker"; cpu = 0; subjects = codes "talker" ∷ [] } ∷ record { name = codes "gnoise"; cpu = 0; subjects = codes "noise" ∷ [] } ∷ [];
  major_frames = record { cpus = record { cpu = 0; minor_frames = record { group = codes "gtalker"; ticks = 1 } ∷ record { group = codes "gnoise"; ticks = 2 } ∷ record { group = codes "gtalker"; ticks = 2 } ∷ [] } ∷ [] } ∷ [];
  tau0 = None;
}

-- where `talker` runs the first program and `noise` the second one
abbrev pub echo : List ℕ → List ℕ → Source
echo own code = record {
  processor = record { logical_cpus = 1 };
  memory_blocks = record { name = codes "ram"; physical_address = 16777216; size = 2097152 } ∷ [];
  devices = device (codes "line") 768 1 ∷ device (codes "net") 800 2 ∷ [];
  memory = code_region (codes "talker_code") own ∷ ring ∷ code_region (codes "noise_code") code ∷ [];
  channels = [];
  components = [];
  events = [];
  subjects = talker ∷ noise ∷ [];
  scheduling = plan;
  device_domains = record { name = codes "card"; devices = codes "line" ∷ []; memory = shows (codes "ring") 4096 Rw ∷ [] } ∷ [];
}

abbrev pub members : List (List ℕ)
members = codes "talker" ∷ []

-- ---- the devices

-- the answer to a byte that is written: the next one, and an interrupt
abbrev pub answer : ℕ → List NamedInput
answer value = port_input (codes "line") 768 ((value + 1) % 256) ∷ irq_input (codes "line") (codes "rx") ∷ []

abbrev pub answer_to_change : Change → List NamedInput
answer_to_change (Out size port value) = answer value
answer_to_change Plain = []
answer_to_change (Set reg value) = []
answer_to_change (Stored size addr value) = []
answer_to_change (WroteMsr index value) = []

abbrev pub answer_to : TurnAction → List NamedInput
answer_to (Ran change) = answer_to_change change
answer_to (Inject vector) = []
answer_to (Exit reason qualification addr end) = []

-- in the tick after the line
abbrev pub answer_in : ℕ → TurnLine → List NamedInput
answer_in tick l = if l.tick + 1 == tick then answer_to l.what else []

-- **a device that answers**: whenever a member has written to a port, the next byte comes in the tick after
abbrev pub echoes : Heard → ℕ → List NamedInput
echoes heard tick = flat_map (answer_in tick) heard.lines

-- the first two bytes of the ring
abbrev pub ring_in : Memory → Option (ℕ × ℕ)
ring_in memory = option_map (λ bytes. (slice_index_or bytes 0 0, slice_index_or bytes 1 0)) (memory (region (codes "ring")))

-- by direct memory access the ring goes back to the subject, with the next byte in it
abbrev pub given_back : ℕ → NamedInput
given_back value = dma_input (codes "line") 4096 (1 ∷ (value + 1) % 256 ∷ [])

abbrev pub answer_to_ring : Option (ℕ × ℕ) → List NamedInput
answer_to_ring None = []
answer_to_ring (Some (owner, value)) = if owner == 0 then given_back value ∷ irq_input (codes "line") (codes "rx") ∷ [] else []

-- **a card that reads a ring in memory, and answers there**: it is told of no line that members print
abbrev pub serves : Heard → ℕ → List NamedInput
serves heard tick = answer_to_ring (ring_in (heard.memory tick))

-- other devices: in one system none does anything, in the other one `net` raises an interrupt in each tick
abbrev pub silent : ℕ → List NamedInput
silent tick = []

abbrev pub busy : ℕ → List NamedInput
busy tick = irq_input (codes "net") (codes "rx") ∷ []

-- ---- a device that hears too much

-- whose lines it hears
abbrev pub everybody : List (List ℕ)
everybody = codes "talker" ∷ codes "noise" ∷ []

abbrev pub gossip_on : TurnAction → List NamedInput
gossip_on (Ran (Set reg value)) = irq_input (codes "line") (codes "rx") ∷ []
gossip_on (Ran Plain) = []
gossip_on (Ran (Out size port value)) = []
gossip_on (Ran (Stored size addr value)) = []
gossip_on (Ran (WroteMsr index value)) = []
gossip_on (Inject vector) = []
gossip_on (Exit reason qualification addr end) = []

abbrev pub gossip_in : ℕ → TurnLine → List NamedInput
gossip_in tick l = if l.tick + 1 == tick then gossip_on l.what else []

-- whenever somebody has set a register, an interrupt of the talker's device comes in the tick after
abbrev pub gossip : Heard → ℕ → List NamedInput
gossip heard tick = flat_map (gossip_in tick) heard.lines

-- two programs of `noise`: one that halts at once, and one that sets a register first
abbrev pub halts : List ℕ
halts = 23 ∷ replicate 7 0

abbrev pub sets : List ℕ
sets = 1 ∷ 16 ∷ 0 ∷ 0 ∷ 5 ∷ 0 ∷ 0 ∷ 0 ∷ halts

-- what then comes in three ticks: nothing, and one interrupt
abbrev pub nothing_comes : DeviceRecord
nothing_comes = plain_record 3 []

abbrev pub one_comes : DeviceRecord
one_comes = plain_record 3 ((2, irq_input (codes "line") (codes "rx")) ∷ [])
