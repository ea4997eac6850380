-- One small system, and what the definitions say of it.
use Rattle.std.proofs.Common.{◌≡◌, ℕ, List, [], ◌∷◌, refl}
use Rattle.std.specs.Prelude.{Some, None, codes}
use Rattle.std.specs.FinMap.{get}
use Rattle.muen_num.specs.declared.access.AccessKind.TheVariants.{Read, Write, Fetch}
use Rattle.muen_num.specs.declared.mode.EventMode.TheVariants.{Asap, Async}
use Rattle.policy_meaning.specs.Contents.{Held, initial_bytes}
use Rattle.policy_meaning.specs.Dma.{dma_access}
use Rattle.policy_meaning.specs.Events.{event_of, irq_of, traps_of}
use Rattle.policy_meaning.specs.Frames.{frames_of}
use Rattle.policy_meaning.specs.Thing.{Thing, region, channel, provided, device_memory, device_items, item_of, items_of, placed_items, things_of}
use Rattle.policy_meaning.specs.Windows.{Window, window, windows_of, access_of, byte, violation}
use Rattle.policy_types.specs.declared.rights.Rights.TheVariants.{R, Rw, Rx}
use Rattle.policy_types.specs.declared.rights.Caching.TheVariants.{Wb}
use Rattle.policy_types.specs.declared.rights.Role.TheVariants.{Writer, Reader}
use Rattle.policy_types.specs.declared.source.Source.{Source}
use Rattle.policy_types.specs.declared.source.Region.{Region}
use Rattle.policy_types.specs.declared.source.Device.{Device}
use Rattle.policy_types.specs.declared.source.Channel.{Channel}
use Rattle.policy_types.specs.declared.source.Component.{Component}
use Rattle.policy_types.specs.declared.source.Content.{Content}
use Rattle.policy_types.specs.declared.source.Content.TheVariants.{Zero, Fill, Inline, File}
use Rattle.policy_types.specs.declared.source.Scheduling.{Scheduling}
use Rattle.policy_types.specs.declared.source.SourceWay.TheVariants.{Call, Trap}
use Rattle.policy_types.specs.declared.source.Subject.{Subject}

abbrev memory : List ℕ → ℕ → Content → Region
memory name size content =
    record { name = name; size = size; caching = Wb; alignment = 4096; physical_address = None; content = content; shared_memory = [] }

abbrev one_way : List ℕ → Channel
one_way name = record { name = name; size = 8; has_event = Some Async }

abbrev net : Device
net = record {
  name = codes "net";
  memory = record { name = codes "ring"; physical_address = 4096; size = 4 } ∷ record { name = codes "spare"; physical_address = 8192; size = 8 } ∷ [];
  io_ports = [];
  irqs = record { name = codes "rx" } ∷ [];
  bdf = None;
}

-- brings a region along, and asks for two regions and a channel
abbrev crypt : Component
crypt = record {
  name = codes "crypt";
  provides = record { logical = codes "text"; virtual_address = 200; size = 4; rights = Rx; content = Inline (9 ∷ []) } ∷ [];
  memory =
      record { logical = codes "table"; virtual_address = 300; size = 4; rights = Rw }
      ∷ record { logical = codes "seed"; virtual_address = 400; size = 4; rights = Rw }
      ∷ record { logical = codes "unmapped"; virtual_address = 500; size = 4; rights = Rw } ∷ [];
  channels = record { logical = codes "out"; role = Writer; virtual_address = 600; size = 8; call = Some 7; vector = None } ∷ [];
}

abbrev black : Subject
black = record {
  name = codes "black";
  cpu = 0;
  entry = 16;
  component = Some (record {
    used = codes "crypt";
    map =
        record { logical = codes "table"; physical = codes "fill"; rights = Some R }
        ∷ record { logical = codes "seed"; physical = codes "file"; rights = None }
        ∷ record { logical = codes "out"; physical = codes "job"; rights = None } ∷ [];
  });
  memory = record { region = codes "code"; virtual_address = 16; rights = Rx } ∷ [];
  channels = record { channel = codes "key"; role = Writer; virtual_address = 100; call = Some 1; vector = None } ∷ [];
  devices = record {
    device = codes "net";
    memory = record { memory = codes "ring"; virtual_address = 150; rights = Rw } ∷ [];
    io_ports = [];
    irqs = record { irq = codes "rx"; vector = 43 } ∷ [];
  } ∷ [];
  msrs = [];
  sources =
      record { event = codes "alarm"; way = Trap 48 }
      ∷ record { event = codes "alarm"; way = Call 2 } ∷ [];
  targets = [];
  monitors = [];
}

abbrev red : Subject
red = record {
  name = codes "red";
  cpu = 1;
  entry = 0;
  component = None;
  memory = [];
  channels =
      record { channel = codes "job"; role = Reader; virtual_address = 0; call = None; vector = Some 40 }
      ∷ record { channel = codes "key"; role = Reader; virtual_address = 8; call = None; vector = Some 41 } ∷ [];
  devices = [];
  msrs = [];
  sources = [];
  targets = record { event = codes "alarm"; vector = Some 50 } ∷ [];
  monitors = [];
}

abbrev plan : Scheduling
plan = record {
  groups =
      record { name = codes "g0"; cpu = 0; subjects = codes "black" ∷ [] }
      ∷ record { name = codes "g1"; cpu = 1; subjects = codes "red" ∷ [] } ∷ [];
  major_frames =
      record {
        cpus =
            record { cpu = 1; minor_frames = record { group = codes "g1"; ticks = 5 } ∷ [] }
            ∷ record { cpu = 0; minor_frames = record { group = codes "g0"; ticks = 2 } ∷ record { group = codes "g0"; ticks = 3 } ∷ [] } ∷ [];
      }
      ∷ [];
  tau0 = None;
}

abbrev system : Source
system = record {
  processor = record { logical_cpus = 2 };
  memory_blocks = [];
  devices = net ∷ [];
  memory =
      memory (codes "code") 8 (Inline (1 ∷ 2 ∷ 3 ∷ []))
      ∷ memory (codes "fill") 4 (Fill 7)
      ∷ memory (codes "file") 4 (File (codes "f.bin") 1 (Some 2))
      ∷ memory (codes "rest") 4 (File (codes "f.bin") 2 None)
      ∷ memory (codes "none") 4 Zero ∷ [];
  channels = one_way (codes "job") ∷ one_way (codes "key") ∷ [];
  components = crypt ∷ [];
  events = record { name = codes "alarm"; mode = Asap } ∷ [];
  subjects = black ∷ red ∷ [];
  scheduling = plan;
  device_domains = record {
    name = codes "direct";
    devices = codes "net" ∷ [];
    memory =
        record { region = codes "fill"; virtual_address = 40; rights = Rw }
        ∷ record { region = codes "none"; virtual_address = 44; rights = R } ∷ [];
  } ∷ [];
}

-- ---- things and windows

things : things_of system ≡
    region (codes "code") ∷ region (codes "fill") ∷ region (codes "file") ∷ region (codes "rest") ∷ region (codes "none")
    ∷ channel (codes "job") ∷ channel (codes "key") ∷ provided (codes "black") (codes "text")
    ∷ device_memory (codes "net") (codes "ring") ∷ device_memory (codes "net") (codes "spare") ∷ []
unfolding things_of items_of placed_items device_items
things = refl

-- the entry of `table` has rights of its own, that of `seed` has none, and `unmapped` has no entry
abbrev windows : List (Window Thing)
windows =
    window 16 8 Rx (region (codes "code"))
    ∷ window 100 8 Rw (channel (codes "key"))
    ∷ window 150 4 Rw (device_memory (codes "net") (codes "ring"))
    ∷ window 200 4 Rx (provided (codes "black") (codes "text"))
    ∷ window 300 4 R (region (codes "fill"))
    ∷ window 400 4 Rw (region (codes "file"))
    ∷ window 600 8 Rw (channel (codes "job")) ∷ []

windows_of_black : windows_of system black ≡ windows
unfolding windows_of
windows_of_black = refl

windows_of_red : windows_of system red ≡ window 0 8 R (channel (codes "job")) ∷ window 8 8 R (channel (codes "key")) ∷ []
unfolding windows_of
windows_of_red = refl

first_byte : access_of windows 16 Fetch ≡ byte (region (codes "code")) 0
first_byte = refl

last_byte : access_of windows 23 Read ≡ byte (region (codes "code")) 7
last_byte = refl

behind_last : access_of windows 24 Read ≡ violation None
behind_last = refl

before_first : access_of windows 15 Read ≡ violation None
before_first = refl

no_right : access_of windows 20 Write ≡ violation (Some Rx)
no_right = refl

written_device : access_of windows 151 Write ≡ byte (device_memory (codes "net") (codes "ring")) 1
written_device = refl

-- ---- contents

inline_padded : (files : Held) → initial_bytes system files (region (codes "code")) ≡ 1 ∷ 2 ∷ 3 ∷ 0 ∷ 0 ∷ 0 ∷ 0 ∷ 0 ∷ []
unfolding initial_bytes item_of items_of placed_items device_items
inline_padded files = refl

filled : (files : Held) → initial_bytes system files (region (codes "fill")) ≡ 7 ∷ 7 ∷ 7 ∷ 7 ∷ []
unfolding initial_bytes item_of items_of placed_items device_items
filled files = refl

zeros : (files : Held) → initial_bytes system files (region (codes "none")) ≡ 0 ∷ 0 ∷ 0 ∷ 0 ∷ []
unfolding initial_bytes item_of items_of placed_items device_items
zeros files = refl

empty_channel : (files : Held) → initial_bytes system files (channel (codes "key")) ≡ 0 ∷ 0 ∷ 0 ∷ 0 ∷ 0 ∷ 0 ∷ 0 ∷ 0 ∷ []
unfolding initial_bytes item_of items_of placed_items device_items
empty_channel files = refl

provided_padded : (files : Held) → initial_bytes system files (provided (codes "black") (codes "text")) ≡ 9 ∷ 0 ∷ 0 ∷ 0 ∷ []
unfolding initial_bytes item_of items_of placed_items device_items
provided_padded files = refl

device_zeros : (files : Held) → initial_bytes system files (device_memory (codes "net") (codes "ring")) ≡ 0 ∷ 0 ∷ 0 ∷ 0 ∷ []
unfolding initial_bytes item_of items_of placed_items device_items
device_zeros files = refl

-- from offset 1, two bytes
file_part : (files : Held) → get files (codes "f.bin") ≡ Some (11 ∷ 12 ∷ 13 ∷ 14 ∷ 15 ∷ []) → initial_bytes system files (region (codes "file")) ≡ 12 ∷ 13 ∷ 0 ∷ 0 ∷ []
unfolding initial_bytes item_of items_of placed_items device_items
file_part files held = rw held refl

-- from offset 2, as many as there are
file_rest : (files : Held) → get files (codes "f.bin") ≡ Some (11 ∷ 12 ∷ 13 ∷ 14 ∷ 15 ∷ []) → initial_bytes system files (region (codes "rest")) ≡ 13 ∷ 14 ∷ 15 ∷ 0 ∷ []
unfolding initial_bytes item_of items_of placed_items device_items
file_rest files held = rw held refl

-- ---- events

by_trap : event_of system black (Trap 48) ≡ Some (record { mode = Asap; target = record { subject = codes "red"; vector = Some 50 } })
unfolding event_of
by_trap = refl

by_call : event_of system black (Call 2) ≡ Some (record { mode = Asap; target = record { subject = codes "red"; vector = Some 50 } })
unfolding event_of
by_call = refl

by_channel : event_of system black (Call 1) ≡ Some (record { mode = Async; target = record { subject = codes "red"; vector = Some 41 } })
unfolding event_of
by_channel = refl

by_component : event_of system black (Call 7) ≡ Some (record { mode = Async; target = record { subject = codes "red"; vector = Some 40 } })
unfolding event_of
by_component = refl

undeclared : event_of system black (Call 48) ≡ None
unfolding event_of
undeclared = refl

reader_raises_none : event_of system red (Call 1) ≡ None
unfolding event_of
reader_raises_none = refl

traps : traps_of black ≡ 48 ∷ []
traps = refl

interrupt : irq_of system (codes "net") (codes "rx") ≡ Some (record { subject = codes "black"; vector = Some 43 })
unfolding irq_of
interrupt = refl

ungranted : irq_of system (codes "net") (codes "tx") ≡ None
unfolding irq_of
ungranted = refl

-- ---- frames

frames_of_cpu_0 : frames_of system 0 ≡ (record { group = 0; ticks = 2 } ∷ record { group = 0; ticks = 3 } ∷ []) ∷ []
unfolding frames_of
frames_of_cpu_0 = refl

frames_of_cpu_1 : frames_of system 1 ≡ (record { group = 1; ticks = 5 } ∷ []) ∷ []
unfolding frames_of
frames_of_cpu_1 = refl

frames_of_no_cpu : frames_of system 2 ≡ [] ∷ []
unfolding frames_of
frames_of_no_cpu = refl

-- ---- devices that reach memory by themselves

last_byte_written : dma_access system (codes "net") 43 Write ≡ byte (region (codes "fill")) 3
last_byte_written = refl

read_alone : dma_access system (codes "net") 44 Write ≡ violation (Some R)
read_alone = refl

next_read : dma_access system (codes "net") 44 Read ≡ byte (region (codes "none")) 0
next_read = refl

behind_all : dma_access system (codes "net") 48 Read ≡ violation None
behind_all = refl

in_no_domain : dma_access system (codes "gpu") 40 Write ≡ violation None
in_no_domain = refl
