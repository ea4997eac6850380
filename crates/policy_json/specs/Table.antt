-- The objects of a policy document: one table for each, and in it one line for each key, in order.
-- This project's own spelling of the elements of a Muen system policy.
use Rattle.std.specs.Prelude.{ℕ, ◌==◌, List, [], ◌∷◌, Bool, not, ◌&&◌, ◌||◌, Option, Some, None, is_some, Result, Ok, codes, unwrap_or, if◌then◌else◌}
use Rattle.std.specs.List.{count_by}
use Rattle.serde_json.specs.Data.{Data}
use Rattle.serde_json.specs.Find.{get}
use Rattle.muen_num.specs.declared.limits.TheConstants.{PAGE}
use Rattle.policy_json.specs.Objects.{◌>>=◌, Object, object, read_object, made, tested, required, optional, if_present, list}
use Rattle.policy_json.specs.Values.{read_number, read_byte, read_name, read_rights, read_msr_rights, read_caching, read_mode, read_role, read_hexadecimal}
use Rattle.policy_types.specs.declared.refusal.Fault.{Fault}
use Rattle.policy_types.specs.declared.refusal.Want.TheVariants.{OneContent, CallOrTrap}
use Rattle.policy_types.specs.declared.rights.Caching.TheVariants.{Wb}
use Rattle.policy_types.specs.declared.source.Bdf.{Bdf}
use Rattle.policy_types.specs.declared.source.Block.{Block}
use Rattle.policy_types.specs.declared.source.Channel.{Channel}
use Rattle.policy_types.specs.declared.source.ChannelUse.{ChannelUse}
use Rattle.policy_types.specs.declared.source.Component.{Component}
use Rattle.policy_types.specs.declared.source.ComponentChannel.{ComponentChannel}
use Rattle.policy_types.specs.declared.source.ComponentUse.{ComponentUse}
use Rattle.policy_types.specs.declared.source.Content.{Content}
use Rattle.policy_types.specs.declared.source.CpuFrames.{CpuFrames}
use Rattle.policy_types.specs.declared.source.Device.{Device}
use Rattle.policy_types.specs.declared.source.DeviceMapping.{DeviceMapping}
use Rattle.policy_types.specs.declared.source.DeviceMemory.{DeviceMemory}
use Rattle.policy_types.specs.declared.source.DeviceUse.{DeviceUse}
use Rattle.policy_types.specs.declared.source.Domain.{Domain}
use Rattle.policy_types.specs.declared.source.Event.{Event}
use Rattle.policy_types.specs.declared.source.EventSource.{EventSource}
use Rattle.policy_types.specs.declared.source.EventTarget.{EventTarget}
use Rattle.policy_types.specs.declared.source.Group.{Group}
use Rattle.policy_types.specs.declared.source.Irq.{Irq}
use Rattle.policy_types.specs.declared.source.IrqUse.{IrqUse}
use Rattle.policy_types.specs.declared.source.MajorFrame.{MajorFrame}
use Rattle.policy_types.specs.declared.source.MapEntry.{MapEntry}
use Rattle.policy_types.specs.declared.source.Mapping.{Mapping}
use Rattle.policy_types.specs.declared.source.MinorFrame.{MinorFrame}
use Rattle.policy_types.specs.declared.source.Monitor.{Monitor}
use Rattle.policy_types.specs.declared.source.Msrs.{Msrs}
use Rattle.policy_types.specs.declared.source.Ports.{Ports}
use Rattle.policy_types.specs.declared.source.Processor.{Processor}
use Rattle.policy_types.specs.declared.source.Provided.{Provided}
use Rattle.policy_types.specs.declared.source.Region.{Region}
use Rattle.policy_types.specs.declared.source.Required.{Required}
use Rattle.policy_types.specs.declared.source.Scheduling.{Scheduling}
use Rattle.policy_types.specs.declared.source.Source.{Source}
use Rattle.policy_types.specs.declared.source.SourceWay.{SourceWay}
use Rattle.policy_types.specs.declared.source.Subject.{Subject}
use Rattle.policy_types.specs.declared.source.Tau0.{Tau0}
use Rattle.policy_types.specs.declared.source.Content.TheVariants.{Zero, Fill, Inline, File}
use Rattle.policy_types.specs.declared.source.SourceWay.TheVariants.{Call, Trap}
use Rattle.policy_values.specs.Faults.{fault}

-- ---- memory

unfoldable pub block : Object Block
block = object do
  made (record {
    name = (← required (codes "name") read_name);
    physical_address = (← required (codes "physicalAddress") read_number);
    size = (← required (codes "size") read_number);
  })

abbrev pub has : List ℕ → Data → Bool
has key d = is_some (get key d)

-- exactly one of `fill`, `hex` and `file`, and `offset` and `length` with `file` alone
unfoldable pub is_one_content : Data → Bool
is_one_content d =
    (count_by (λ key. has key d) (codes "fill" ∷ codes "hex" ∷ codes "file" ∷ []) == 1)
    && (has (codes "file") d || not (has (codes "offset") d || has (codes "length") d))

unfoldable pub one_content : Data → Result (Unit {0}) Fault
one_content d = if is_one_content d then Ok tt else fault [] OneContent

-- the content that these spell: a file's, else bytes, else a byte repeated
abbrev pub content_of : Option ℕ → Option (List ℕ) → Option (List ℕ) → ℕ → Option ℕ → Content
content_of fill hex (Some name) offset length = File name offset length
content_of fill (Some bytes) None offset length = Inline bytes
content_of (Some byte) None None offset length = Fill byte
content_of None None None offset length = Zero

unfoldable pub content : Object Content
content = object (tested one_content do
  fill ← if_present (codes "fill") read_byte
  hex ← if_present (codes "hex") read_hexadecimal
  file ← if_present (codes "file") read_name
  offset ← optional (codes "offset") 0 read_number
  length ← if_present (codes "length") read_number
  made (content_of fill hex file offset length))

unfoldable pub region : Object Region
region = object do
  made (record {
    name = (← required (codes "name") read_name);
    size = (← required (codes "size") read_number);
    caching = (← optional (codes "caching") Wb read_caching);
    alignment = (← optional (codes "alignment") PAGE read_number);
    physical_address = (← if_present (codes "physicalAddress") read_number);
    content = (← optional (codes "content") Zero (read_object content));
    shared_memory = (← list (codes "sharedMemory") read_name);
  })

-- ---- devices

unfoldable pub device_memory : Object DeviceMemory
device_memory = object do
  made (record {
    name = (← required (codes "name") read_name);
    physical_address = (← required (codes "physicalAddress") read_number);
    size = (← required (codes "size") read_number);
  })

unfoldable pub ports : Object Ports
ports = object do
  made (record {
    name = (← required (codes "name") read_name);
    start = (← required (codes "start") read_number);
    end = (← required (codes "end") read_number);
  })

unfoldable pub irq : Object Irq
irq = object do
  made (record {
    name = (← required (codes "name") read_name);
  })

unfoldable pub bdf : Object Bdf
bdf = object do
  made (record {
    bus = (← required (codes "bus") read_byte);
    device = (← required (codes "device") read_number);
    function = (← required (codes "function") read_number);
  })

unfoldable pub device : Object Device
device = object do
  made (record {
    name = (← required (codes "name") read_name);
    memory = (← list (codes "memory") (read_object device_memory));
    io_ports = (← list (codes "ioPorts") (read_object ports));
    irqs = (← list (codes "irqs") (read_object irq));
    bdf = (← if_present (codes "bdf") (read_object bdf));
  })

-- ---- channels and components

unfoldable pub channel : Object Channel
channel = object do
  made (record {
    name = (← required (codes "name") read_name);
    size = (← required (codes "size") read_number);
    has_event = (← if_present (codes "hasEvent") read_mode);
  })

unfoldable pub provided : Object Provided
provided = object do
  made (record {
    logical = (← required (codes "logical") read_name);
    virtual_address = (← required (codes "virtualAddress") read_number);
    size = (← required (codes "size") read_number);
    rights = (← required (codes "rights") read_rights);
    content = (← optional (codes "content") Zero (read_object content));
  })

unfoldable pub required_memory : Object Required
required_memory = object do
  made (record {
    logical = (← required (codes "logical") read_name);
    virtual_address = (← required (codes "virtualAddress") read_number);
    size = (← required (codes "size") read_number);
    rights = (← required (codes "rights") read_rights);
  })

unfoldable pub component_channel : Object ComponentChannel
component_channel = object do
  made (record {
    logical = (← required (codes "logical") read_name);
    role = (← required (codes "role") read_role);
    virtual_address = (← required (codes "virtualAddress") read_number);
    size = (← required (codes "size") read_number);
    call = (← if_present (codes "call") read_number);
    vector = (← if_present (codes "vector") read_number);
  })

unfoldable pub component : Object Component
component = object do
  made (record {
    name = (← required (codes "name") read_name);
    provides = (← list (codes "provides") (read_object provided));
    memory = (← list (codes "memory") (read_object required_memory));
    channels = (← list (codes "channels") (read_object component_channel));
  })

-- ---- events

unfoldable pub event : Object Event
event = object do
  made (record {
    name = (← required (codes "name") read_name);
    mode = (← required (codes "mode") read_mode);
  })

-- exactly one of `call` and `trap`
unfoldable pub is_call_or_trap : Data → Bool
is_call_or_trap d = count_by (λ key. has key d) (codes "call" ∷ codes "trap" ∷ []) == 1

unfoldable pub call_or_trap : Data → Result (Unit {0}) Fault
call_or_trap d = if is_call_or_trap d then Ok tt else fault [] CallOrTrap

-- the way that these spell: a call, else a trap
abbrev pub way_of_keys : Option ℕ → Option ℕ → SourceWay
way_of_keys (Some number) trap = Call number
way_of_keys None trap = Trap (unwrap_or trap 0)

unfoldable pub event_source : Object EventSource
event_source = object (tested call_or_trap do
  event ← required (codes "event") read_name
  call ← if_present (codes "call") read_number
  trap ← if_present (codes "trap") read_number
  made (record { event = event; way = way_of_keys call trap }))

unfoldable pub event_target : Object EventTarget
event_target = object do
  made (record {
    event = (← required (codes "event") read_name);
    vector = (← if_present (codes "vector") read_number);
  })

-- ---- subjects

unfoldable pub map_entry : Object MapEntry
map_entry = object do
  made (record {
    logical = (← required (codes "logical") read_name);
    physical = (← required (codes "physical") read_name);
    rights = (← if_present (codes "rights") read_rights);
  })

unfoldable pub component_use : Object ComponentUse
component_use = object do
  made (record {
    used = (← required (codes "ref") read_name);
    map = (← list (codes "map") (read_object map_entry));
  })

unfoldable pub mapping : Object Mapping
mapping = object do
  made (record {
    region = (← required (codes "region") read_name);
    virtual_address = (← required (codes "virtualAddress") read_number);
    rights = (← required (codes "rights") read_rights);
  })

unfoldable pub channel_use : Object ChannelUse
channel_use = object do
  made (record {
    channel = (← required (codes "channel") read_name);
    role = (← required (codes "role") read_role);
    virtual_address = (← required (codes "virtualAddress") read_number);
    call = (← if_present (codes "call") read_number);
    vector = (← if_present (codes "vector") read_number);
  })

unfoldable pub device_mapping : Object DeviceMapping
device_mapping = object do
  made (record {
    memory = (← required (codes "memory") read_name);
    virtual_address = (← required (codes "virtualAddress") read_number);
    rights = (← required (codes "rights") read_rights);
  })

unfoldable pub irq_use : Object IrqUse
irq_use = object do
  made (record {
    irq = (← required (codes "irq") read_name);
    vector = (← required (codes "vector") read_number);
  })

unfoldable pub device_use : Object DeviceUse
device_use = object do
  made (record {
    device = (← required (codes "device") read_name);
    memory = (← list (codes "memory") (read_object device_mapping));
    io_ports = (← list (codes "ioPorts") read_name);
    irqs = (← list (codes "irqs") (read_object irq_use));
  })

unfoldable pub msrs : Object Msrs
msrs = object do
  made (record {
    start = (← required (codes "start") read_number);
    end = (← required (codes "end") read_number);
    rights = (← required (codes "rights") read_msr_rights);
  })

unfoldable pub monitor : Object Monitor
monitor = object do
  made (record {
    subject = (← required (codes "subject") read_name);
    virtual_address = (← required (codes "virtualAddress") read_number);
    rights = (← required (codes "rights") read_rights);
  })

unfoldable pub subject : Object Subject
subject = object do
  made (record {
    name = (← required (codes "name") read_name);
    cpu = (← required (codes "cpu") read_number);
    entry = (← required (codes "entry") read_number);
    component = (← if_present (codes "component") (read_object component_use));
    memory = (← list (codes "memory") (read_object mapping));
    channels = (← list (codes "channels") (read_object channel_use));
    devices = (← list (codes "devices") (read_object device_use));
    msrs = (← list (codes "msrs") (read_object msrs));
    sources = (← list (codes "sources") (read_object event_source));
    targets = (← list (codes "targets") (read_object event_target));
    monitors = (← list (codes "monitors") (read_object monitor));
  })

-- ---- domains of devices

unfoldable pub domain : Object Domain
domain = object do
  made (record {
    name = (← required (codes "name") read_name);
    devices = (← list (codes "devices") read_name);
    memory = (← list (codes "memory") (read_object mapping));
  })

-- ---- the scheduling plan

unfoldable pub group : Object Group
group = object do
  made (record {
    name = (← required (codes "name") read_name);
    cpu = (← required (codes "cpu") read_number);
    subjects = (← list (codes "subjects") read_name);
  })

unfoldable pub minor_frame : Object MinorFrame
minor_frame = object do
  made (record {
    group = (← required (codes "group") read_name);
    ticks = (← required (codes "ticks") read_number);
  })

unfoldable pub cpu_frames : Object CpuFrames
cpu_frames = object do
  made (record {
    cpu = (← required (codes "cpu") read_number);
    minor_frames = (← list (codes "minorFrames") (read_object minor_frame));
  })

unfoldable pub major_frame : Object MajorFrame
major_frame = object do
  made (record {
    cpus = (← list (codes "cpus") (read_object cpu_frames));
  })

unfoldable pub tau0 : Object Tau0
tau0 = object do
  made (record {
    subject = (← required (codes "subject") read_name);
    region = (← required (codes "region") read_name);
  })

unfoldable pub scheduling : Object Scheduling
scheduling = object do
  made (record {
    groups = (← list (codes "groups") (read_object group));
    major_frames = (← list (codes "majorFrames") (read_object major_frame));
    tau0 = (← if_present (codes "tau0") (read_object tau0));
  })

-- ---- a system

unfoldable pub processor : Object Processor
processor = object do
  made (record {
    logical_cpus = (← required (codes "logicalCpus") read_number);
  })

unfoldable pub system : Object Source
system = object do
  made (record {
    processor = (← required (codes "processor") (read_object processor));
    memory_blocks = (← list (codes "memoryBlocks") (read_object block));
    devices = (← list (codes "devices") (read_object device));
    memory = (← list (codes "memory") (read_object region));
    channels = (← list (codes "channels") (read_object channel));
    components = (← list (codes "components") (read_object component));
    events = (← list (codes "events") (read_object event));
    subjects = (← list (codes "subjects") (read_object subject));
    scheduling = (← required (codes "scheduling") (read_object scheduling));
    device_domains = (← list (codes "deviceDomains") (read_object domain));
  })
