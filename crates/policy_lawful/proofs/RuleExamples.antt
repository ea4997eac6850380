-- The rules at small systems, against offences that were worked out by hand.
use Rattle.std.proofs.Common.{◌≡◌, ℕ, List, [], ◌∷◌, refl}
use Rattle.std.specs.Fmt.{digits}
use Rattle.std.specs.Prelude.{Option, Some, None, codes}
use Rattle.muen_num.specs.declared.mode.EventMode.{EventMode}
use Rattle.muen_num.specs.declared.mode.EventMode.TheVariants.{Asap, Async, Own, Switch}
use Rattle.policy_lawful.specs.Offences.{alone, two}
use Rattle.policy_lawful.specs.Rules.{offence_1, offence_5, offence_8, offence_16, offence_17, first_overlap, window_extents}
use Rattle.policy_lawful.specs.MoreRules.{offence_6, offence_9, offence_10, offence_11, offence_12, offence_13, offence_14, offence_15, offence_19}
use Rattle.policy_meaning.specs.Windows.{windows_of}
use Rattle.policy_types.specs.declared.rights.Rights.{Rights}
use Rattle.policy_types.specs.declared.rights.Rights.TheVariants.{R, Rw}
use Rattle.policy_types.specs.declared.rights.Role.{Role}
use Rattle.policy_types.specs.declared.rights.Role.TheVariants.{Writer, Reader}
use Rattle.policy_types.specs.declared.rights.Caching.TheVariants.{Wb}
use Rattle.policy_types.specs.declared.source.Block.{Block}
use Rattle.policy_types.specs.declared.source.Channel.{Channel}
use Rattle.policy_types.specs.declared.source.ChannelUse.{ChannelUse}
use Rattle.policy_types.specs.declared.source.Content.TheVariants.{Zero}
use Rattle.policy_types.specs.declared.source.CpuFrames.{CpuFrames}
use Rattle.policy_types.specs.declared.source.Device.{Device}
use Rattle.policy_types.specs.declared.source.Mapping.{Mapping}
use Rattle.policy_types.specs.declared.source.Msrs.{Msrs}
use Rattle.policy_types.specs.declared.source.Ports.{Ports}
use Rattle.policy_types.specs.declared.source.Region.{Region}
use Rattle.policy_types.specs.declared.source.Source.{Source}
use Rattle.policy_types.specs.declared.source.SourceWay.TheVariants.{Call}
use Rattle.policy_types.specs.declared.source.Subject.{Subject}

abbrev nothing : Source
nothing = record {
  processor = record { logical_cpus = 1 };
  memory_blocks = [];
  devices = [];
  memory = [];
  channels = [];
  components = [];
  events = [];
  subjects = [];
  scheduling = record { groups = []; major_frames = []; tau0 = None };
  device_domains = [];
}

abbrev subject : List ℕ → Subject
subject name = record {
  name = name;
  cpu = 0;
  entry = 0;
  component = None;
  memory = [];
  channels = [];
  devices = [];
  msrs = [];
  sources = [];
  targets = [];
  monitors = [];
}

abbrev maps : List ℕ → ℕ → Rights → Mapping
maps region address rights = record { region = region; virtual_address = address; rights = rights }

abbrev region : List ℕ → Option ℕ → Region
region name address =
    record { name = name; size = 4096; caching = Wb; alignment = 4096; physical_address = address; content = Zero; shared_memory = [] }

-- ---- names, windows, writers

abbrev block : List ℕ → ℕ → ℕ → Block
block name address size = record { name = name; physical_address = address; size = size }

repeated_block : offence_1 (record nothing { memory_blocks = block (codes "a") 0 1 ∷ block (codes "b") 0 1 ∷ block (codes "b") 0 1 ∷ block (codes "a") 0 1 ∷ [] }) ≡ Some (alone (codes "b"))
unfolding offence_1
repeated_block = refl

-- of the pairs with the least later window, the one with the least earlier
first_two_windows : offence_5 (record nothing { memory = region (codes "r") None ∷ region (codes "s") None ∷ []; subjects = record (subject (codes "one")) { memory = maps (codes "r") 8192 R ∷ maps (codes "s") 4096 R ∷ maps (codes "r") 4097 R ∷ maps (codes "s") 8192 R ∷ [] } ∷ [] }) ≡ Some (two (codes "r") (codes "r"))
unfolding offence_5 first_overlap window_extents windows_of
first_two_windows = refl

-- the first subject other than the writer stands before it
reader_before_writer : offence_8 (record nothing { memory = region (codes "r") None ∷ []; subjects = record (subject (codes "a")) { memory = maps (codes "r") 0 R ∷ [] } ∷ record (subject (codes "b")) { memory = maps (codes "r") 0 Rw ∷ [] } ∷ [] }) ≡ Some (two (codes "r") (codes "a"))
unfolding offence_8 windows_of
reader_before_writer = refl

-- ---- channels and events

abbrev with_channel_ends : List ℕ → List ChannelUse → Subject
with_channel_ends name uses = record (subject name) { channels = uses }

abbrev channel_end : Role → Option ℕ → Option ℕ → ChannelUse
channel_end role call vector =
    record { channel = codes "c"; role = role; virtual_address = 0; call = call; vector = vector }

abbrev channel_of : Option EventMode → Channel
channel_of mode = record { name = codes "c"; size = 4096; has_event = mode }

channel_of_two : offence_6 (record nothing { channels = channel_of None ∷ []; subjects = with_channel_ends (codes "w") (channel_end Writer None None ∷ []) ∷ with_channel_ends (codes "r") (channel_end Reader None None ∷ []) ∷ [] }) ≡ None
unfolding offence_6
channel_of_two = refl

reads_its_own : offence_6 (record nothing { channels = channel_of None ∷ []; subjects = with_channel_ends (codes "w") (channel_end Writer None None ∷ channel_end Reader None None ∷ []) ∷ [] }) ≡ Some (alone (codes "c"))
unfolding offence_6
reads_its_own = refl

event_without_vector : offence_6 (record nothing { channels = channel_of (Some Asap) ∷ []; subjects = with_channel_ends (codes "w") (channel_end Writer (Some 1) None ∷ []) ∷ with_channel_ends (codes "r") (channel_end Reader None None ∷ []) ∷ [] }) ≡ Some (alone (codes "c"))
unfolding offence_6
event_without_vector = refl

switch_without_vector : offence_6 (record nothing { channels = channel_of (Some Switch) ∷ []; subjects = with_channel_ends (codes "w") (channel_end Writer (Some 1) None ∷ []) ∷ with_channel_ends (codes "r") (channel_end Reader None None ∷ []) ∷ [] }) ≡ None
unfolding offence_6
switch_without_vector = refl

abbrev raises : List ℕ → ℕ → Subject
raises name call = record (subject name) { sources = record { event = codes "e"; way = Call call } ∷ [] }

abbrev receives : List ℕ → Option ℕ → Subject
receives name vector = record (subject name) { targets = record { event = codes "e"; vector = vector } ∷ [] }

abbrev event_between : EventMode → List Subject → Source
event_between mode subjects = record nothing { events = record { name = codes "e"; mode = mode } ∷ []; subjects = subjects }

no_target : offence_12 (event_between Asap (raises (codes "a") 1 ∷ [])) ≡ Some (alone (codes "e"))
unfolding offence_12
no_target = refl

own_at_another : offence_13 (event_between Own (raises (codes "a") 1 ∷ receives (codes "b") (Some 40) ∷ [])) ≡ Some (two (codes "e") (codes "a"))
unfolding offence_13
own_at_another = refl

switch_without_a_group : offence_13 (event_between Switch (raises (codes "a") 1 ∷ receives (codes "b") None ∷ [])) ≡ Some (two (codes "e") (codes "a"))
unfolding offence_13
switch_without_a_group = refl

call_of_64 : offence_14 (event_between Asap (raises (codes "a") 64 ∷ [])) ≡ Some (alone (codes "a"))
unfolding offence_14
call_of_64 = refl

no_vector : offence_15 (event_between Async (receives (codes "b") None ∷ [])) ≡ Some (alone (codes "b"))
unfolding offence_15
no_vector = refl

vector_31 : offence_15 (event_between Async (receives (codes "b") (Some 31) ∷ [])) ≡ Some (alone (codes "b"))
unfolding offence_15
vector_31 = refl

-- ---- devices, MSRs, fixed regions

abbrev ports : List ℕ → ℕ → ℕ → Ports
ports name start end = record { name = name; start = start; end = end }

abbrev with_ports : List Ports → Device
with_ports xs = record { name = codes "d"; memory = []; io_ports = xs; irqs = []; bdf = None }

-- a pair counts at its later range, after that range's own conditions; the third range isn't reached
overlap_first : offence_10 (record nothing { devices = with_ports (ports (codes "p0") 0 10 ∷ ports (codes "p1") 5 8 ∷ ports (codes "p2") 9 3 ∷ []) ∷ [] }) ≡ Some (two (codes "p0") (codes "p1"))
unfolding offence_10
overlap_first = refl

turned_round : offence_10 (record nothing { devices = with_ports (ports (codes "p0") 0 10 ∷ ports (codes "p2") 9 3 ∷ []) ∷ [] }) ≡ Some (alone (codes "p2"))
unfolding offence_10
turned_round = refl

granted_twice : offence_9 (record nothing { devices = with_ports (ports (codes "p0") 0 10 ∷ []) ∷ []; subjects = record (subject (codes "a")) { devices = record { device = codes "d"; memory = []; io_ports = codes "p0" ∷ codes "p0" ∷ []; irqs = [] } ∷ [] } ∷ [] }) ≡ Some (two (codes "d") (codes "p0"))
unfolding offence_9
granted_twice = refl

abbrev msrs : ℕ → ℕ → Msrs
msrs start end = record { start = start; end = end; rights = record { read = Rattle.std.specs.Prelude.true; write = Rattle.std.specs.Prelude.false } }

msrs_of_both_ranges : offence_11 (record nothing { subjects = record (subject (codes "a")) { msrs = msrs 8191 8191 ∷ msrs 3221225472 3221233663 ∷ [] } ∷ [] }) ≡ None
unfolding offence_11
msrs_of_both_ranges = refl

msrs_past_the_first : offence_11 (record nothing { subjects = record (subject (codes "a")) { msrs = msrs 8191 8192 ∷ [] } ∷ [] }) ≡ Some (alone (codes "a"))
unfolding offence_11
msrs_past_the_first = refl

outside_its_block : offence_19 (record nothing { memory_blocks = block (codes "ram") 4096 8192 ∷ []; memory = region (codes "r") (Some 8192) ∷ region (codes "s") (Some 12288) ∷ [] }) ≡ Some (alone (codes "s"))
unfolding offence_19
outside_its_block = refl

at_one_address : offence_19 (record nothing { memory_blocks = block (codes "ram") 4096 8192 ∷ []; memory = region (codes "r") (Some 8192) ∷ region (codes "s") (Some 8192) ∷ [] }) ≡ Some (two (codes "r") (codes "s"))
unfolding offence_19
at_one_address = refl

-- ---- the plan

abbrev planned : List ℕ → List CpuFrames → Source
planned members cpus = record nothing {
  subjects = subject (codes "one") ∷ [];
  scheduling = record {
    groups = record { name = codes "g"; cpu = 0; subjects = members ∷ [] } ∷ [];
    major_frames = record { cpus = cpus } ∷ [];
    tau0 = None;
  };
}

abbrev frames : ℕ → ℕ → CpuFrames
frames cpu ticks = record { cpu = cpu; minor_frames = record { group = codes "g"; ticks = ticks } ∷ [] }

no_ticks : offence_16 (planned (codes "one") (frames 0 0 ∷ [])) ≡ Some (two (codes "major.0") (codes "cpu.0"))
unfolding offence_16 digits
no_ticks = refl

not_named : offence_16 (planned (codes "one") []) ≡ Some (two (codes "major.0") (codes "cpu.0"))
unfolding offence_16 digits
not_named = refl

in_no_group : offence_17 (record (planned (codes "one") (frames 0 1 ∷ [])) { subjects = subject (codes "one") ∷ subject (codes "two") ∷ [] }) ≡ Some (alone (codes "two"))
unfolding offence_17
in_no_group = refl
