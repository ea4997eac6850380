-- Three systems that differ in the subject that has the network (this project's own): the gateway, the same with another program there,
-- and the same with more memory there.
use Rattle.std.specs.Prelude.{ℕ, List, [], ◌∷◌, ◌++◌, Some, None, codes}
use Rattle.proof_isolation.specs.mode.EventMode.{EventMode}
use Rattle.proof_isolation.specs.mode.EventMode.TheVariants.{Asap, Async}
use Rattle.policy_lawful.specs.rights.Rights.TheVariants.{Rw, Rx}
use Rattle.policy_lawful.specs.rights.Caching.TheVariants.{Wb}
use Rattle.policy_lawful.specs.rights.Role.TheVariants.{Writer, Reader}
use Rattle.policy_lawful.specs.source.Channel.{Channel}
use Rattle.policy_lawful.specs.source.Component.{Component}
use Rattle.policy_lawful.specs.source.ComponentChannel.{ComponentChannel}
use Rattle.policy_lawful.specs.source.Content.{Content}
use Rattle.policy_lawful.specs.source.Content.TheVariants.{Zero, Inline}
use Rattle.policy_lawful.specs.source.Device.{Device}
use Rattle.policy_lawful.specs.source.Group.{Group}
use Rattle.policy_lawful.specs.source.MapEntry.{MapEntry}
use Rattle.policy_lawful.specs.source.Mapping.{Mapping}
use Rattle.policy_lawful.specs.source.MinorFrame.{MinorFrame}
use Rattle.policy_lawful.specs.source.Provided.{Provided}
use Rattle.policy_lawful.specs.source.Region.{Region}
use Rattle.policy_lawful.specs.source.Scheduling.{Scheduling}
use Rattle.policy_lawful.specs.source.Source.{Source}
use Rattle.policy_lawful.specs.source.Subject.{Subject}
use Rattle.subject_model.specs.DeviceRecord.{DeviceRecord, port_input, irq_input}

-- ---- the components; an instruction has eight bytes, and a line

-- stores 7 in its channel, then each next number, with a call after each
abbrev pub feed_code : List ℕ
feed_code =
    1 ∷ 16 ∷ 0 ∷ 0 ∷ 7 ∷ 0 ∷ 0 ∷ 0
    ∷ 1 ∷ 32 ∷ 0 ∷ 0 ∷ 0 ∷ 0 ∷ 96 ∷ 0
    ∷ 1 ∷ 48 ∷ 0 ∷ 0 ∷ 1 ∷ 0 ∷ 0 ∷ 0
    ∷ 12 ∷ 18 ∷ 3 ∷ 0 ∷ 0 ∷ 0 ∷ 0 ∷ 0
    ∷ 22 ∷ 3 ∷ 0 ∷ 0 ∷ 0 ∷ 0 ∷ 0 ∷ 0
    ∷ 4 ∷ 19 ∷ 0 ∷ 0 ∷ 0 ∷ 0 ∷ 0 ∷ 0
    ∷ 13 ∷ 0 ∷ 0 ∷ 0 ∷ 232 ∷ 255 ∷ 255 ∷ 255 ∷ []

-- puts data and key together, again and again: stores the exclusive or in its channel, and calls
abbrev pub crypt_code : List ℕ
crypt_code =
    1 ∷ 32 ∷ 0 ∷ 0 ∷ 0 ∷ 0 ∷ 96 ∷ 0
    ∷ 1 ∷ 48 ∷ 0 ∷ 0 ∷ 1 ∷ 0 ∷ 0 ∷ 0
    ∷ 1 ∷ 64 ∷ 0 ∷ 0 ∷ 0 ∷ 16 ∷ 96 ∷ 0
    ∷ 11 ∷ 84 ∷ 3 ∷ 0 ∷ 0 ∷ 0 ∷ 0 ∷ 0
    ∷ 11 ∷ 100 ∷ 3 ∷ 0 ∷ 0 ∷ 16 ∷ 0 ∷ 0
    ∷ 8 ∷ 86 ∷ 0 ∷ 0 ∷ 0 ∷ 0 ∷ 0 ∷ 0
    ∷ 12 ∷ 82 ∷ 3 ∷ 0 ∷ 0 ∷ 0 ∷ 0 ∷ 0
    ∷ 22 ∷ 3 ∷ 0 ∷ 0 ∷ 0 ∷ 0 ∷ 0 ∷ 0
    ∷ 13 ∷ 0 ∷ 0 ∷ 0 ∷ 216 ∷ 255 ∷ 255 ∷ 255 ∷ []

abbrev pub text : List ℕ → Provided
text bytes = record { logical = codes "text"; virtual_address = 4194304; size = 4096; rights = Rx; content = Inline bytes }

abbrev pub out : ComponentChannel
out = record { logical = codes "out"; role = Writer; virtual_address = 6291456; size = 4096; call = Some 1; vector = None }

abbrev pub takes_in : List ℕ → ℕ → ℕ → ComponentChannel
takes_in name address vector =
    record { logical = name; role = Reader; virtual_address = address; size = 4096; call = None; vector = Some vector }

abbrev pub feed : Component
feed = record { name = codes "feed"; provides = text feed_code ∷ []; memory = []; channels = out ∷ [] }

abbrev pub crypt : Component
crypt = record {
  name = codes "crypt";
  provides = text crypt_code ∷ [];
  memory = [];
  channels =
      out ∷ takes_in (codes "job") 6295552 40 ∷ takes_in (codes "key") 6299648 41 ∷ takes_in (codes "beat") 6303744 42 ∷ [];
}

-- ---- the subjects

abbrev pub entry : List ℕ → List ℕ → MapEntry
entry logical physical = record { logical = logical; physical = physical; rights = None }

-- a subject that is what its component is
abbrev pub uses : List ℕ → ℕ → List ℕ → List MapEntry → Subject
uses name cpu component entries = record {
  name = name;
  cpu = cpu;
  entry = 4194304;
  component = Some (record { used = component; map = entries });
  memory = [];
  channels = [];
  devices = [];
  msrs = [];
  sources = [];
  targets = [];
  monitors = [];
}

abbrev pub plain : Subject
plain = uses (codes "plain") 0 (codes "feed") (entry (codes "out") (codes "job") ∷ [])

abbrev pub keys : Subject
keys = uses (codes "keys") 1 (codes "feed") (entry (codes "out") (codes "key") ∷ [])

abbrev pub slots : Subject
slots = uses (codes "slots") 1 (codes "feed") (entry (codes "out") (codes "beat") ∷ [])

abbrev pub cipher : Subject
cipher =
    uses (codes "cipher") 1 (codes "crypt")
    (entry (codes "out") (codes "sealed") ∷ entry (codes "job") (codes "job") ∷ entry (codes "key") (codes "key") ∷ entry (codes "beat") (codes "beat") ∷ [])

-- the subject that has the network, with these windows before that on its code
abbrev pub black : List Mapping → Subject
black windows = record {
  name = codes "black";
  cpu = 0;
  entry = 4194304;
  component = None;
  memory = windows ++ (record { region = codes "black_code"; virtual_address = 4194304; rights = Rx } ∷ []);
  channels = record { channel = codes "sealed"; role = Reader; virtual_address = 6295552; call = None; vector = Some 40 } ∷ [];
  devices = record {
    device = codes "net";
    memory = [];
    io_ports = codes "regs" ∷ [];
    irqs = record { irq = codes "rx"; vector = 43 } ∷ [];
  } ∷ [];
  msrs = [];
  sources = [];
  targets = [];
  monitors = [];
}

-- ---- what else is the same in all three

abbrev pub net : Device
net = record {
  name = codes "net";
  memory = [];
  io_ports = record { name = codes "regs"; start = 768; end = 783 } ∷ [];
  irqs = record { name = codes "rx" } ∷ [];
  bdf = None;
}

abbrev pub one_way : List ℕ → EventMode → Channel
one_way name mode = record { name = name; size = 4096; has_event = Some mode }

abbrev pub channels : List Channel
channels =
    one_way (codes "job") Asap ∷ one_way (codes "key") Asap ∷ one_way (codes "beat") Async ∷ one_way (codes "sealed") Asap ∷ []

abbrev pub group : List ℕ → ℕ → List ℕ → Group
group name cpu subject = record { name = name; cpu = cpu; subjects = subject ∷ [] }

abbrev pub gateway_minor_frame : List ℕ → ℕ → MinorFrame
gateway_minor_frame name ticks = record { group = name; ticks = ticks }

abbrev pub plan : Scheduling
plan = record {
  groups =
      group (codes "gplain") 0 (codes "plain")
      ∷ group (codes "gblack") 0 (codes "black")
      ∷ group (codes "gkeys") 1 (codes "keys")
      ∷ group (codes "gslots") 1 (codes "slots")
      ∷ group (codes "gcipher") 1 (codes "cipher") ∷ [];
  major_frames =
      record {
        cpus =
            record { cpu = 0; minor_frames = gateway_minor_frame (codes "gplain") 30 ∷ gateway_minor_frame (codes "gblack") 20 ∷ [] }
            ∷ record { cpu = 1; minor_frames = gateway_minor_frame (codes "gkeys") 10 ∷ gateway_minor_frame (codes "gslots") 10 ∷ gateway_minor_frame (codes "gcipher") 30 ∷ [] } ∷ [];
      }
      ∷ [];
  tau0 = None;
}

abbrev pub memory : List ℕ → ℕ → Content → Region
memory name size content =
    record { name = name; size = size; caching = Wb; alignment = 4096; physical_address = None; content = content; shared_memory = [] }

-- ---- the three systems

-- the gateway where `black` has these regions and windows before its code, and this code
abbrev pub with_black : List Region → List Mapping → List ℕ → Source
with_black regions windows code = record {
  processor = record { logical_cpus = 2 };
  memory_blocks = record { name = codes "ram"; physical_address = 16777216; size = 2097152 } ∷ [];
  devices = net ∷ [];
  memory = regions ++ (memory (codes "black_code") 4096 (Inline code) ∷ []);
  channels = channels;
  components = feed ∷ crypt ∷ [];
  events = [];
  subjects = plain ∷ keys ∷ slots ∷ cipher ∷ black windows ∷ [];
  scheduling = plan;
  device_domains = [];
}

-- waits for events; at that of `sealed` it sends a byte of what stands there to a port
abbrev pub black_code : List ℕ
black_code =
    1 ∷ 32 ∷ 0 ∷ 0 ∷ 0 ∷ 16 ∷ 96 ∷ 0
    ∷ 1 ∷ 144 ∷ 0 ∷ 0 ∷ 240 ∷ 254 ∷ 63 ∷ 0
    ∷ 26 ∷ 9 ∷ 0 ∷ 0 ∷ 0 ∷ 0 ∷ 0 ∷ 0
    ∷ 24 ∷ 0 ∷ 0 ∷ 0 ∷ 0 ∷ 0 ∷ 0 ∷ 0
    ∷ 23 ∷ 0 ∷ 0 ∷ 0 ∷ 0 ∷ 0 ∷ 0 ∷ 0
    ∷ 13 ∷ 0 ∷ 0 ∷ 0 ∷ 248 ∷ 255 ∷ 255 ∷ 255
    ∷ 11 ∷ 82 ∷ 3 ∷ 0 ∷ 0 ∷ 0 ∷ 0 ∷ 0
    ∷ 18 ∷ 87 ∷ 0 ∷ 0 ∷ 0 ∷ 3 ∷ 0 ∷ 0
    ∷ 27 ∷ 0 ∷ 0 ∷ 0 ∷ 0 ∷ 0 ∷ 0 ∷ 0
    ∷ 27 ∷ 0 ∷ 0 ∷ 0 ∷ 0 ∷ 0 ∷ 0 ∷ 0 ∷ []

abbrev pub gateway : Source
gateway = with_black [] [] black_code

abbrev pub halt_code : List ℕ
halt_code = 23 ∷ 0 ∷ 0 ∷ 0 ∷ 0 ∷ 0 ∷ 0 ∷ 0 ∷ []

-- `black` halts at once
abbrev pub other_black : Source
other_black = with_black [] [] halt_code

abbrev pub pad : Region
pad = memory (codes "pad") 1048576 Zero

abbrev pub on_pad : Mapping
on_pad = record { region = codes "pad"; virtual_address = 8388608; rights = Rw }

-- `black` has 1 MiB more, which it may write
abbrev pub more_memory : Source
more_memory = with_black (pad ∷ []) (on_pad ∷ []) black_code

-- ---- what is told of them

-- the set of `cipher`
abbrev pub members : List (List ℕ)
members = codes "plain" ∷ codes "keys" ∷ codes "slots" ∷ codes "cipher" ∷ []

abbrev pub network : DeviceRecord
network = record {
  end = 300;
  inputs = (100, port_input (codes "net") 768 5) ∷ (200, irq_input (codes "net") (codes "rx")) ∷ [];
  orders = [];
}
