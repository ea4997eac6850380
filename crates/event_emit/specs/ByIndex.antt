-- The tables of events and the devices of an image, by the entries and routes of an expansion.
use Rattle.std.specs.Prelude.{◌≡◌, ℕ, ◌+◌, ◌^◌, ◌<◌, Bool, List, [], ◌∷◌, length, map, nat_lt, slice_get, Option, Some, option_map, IfSome}
use Rattle.std.specs.List.{enumerate_from, find}
use Rattle.event_emit.specs.declared.event_tables.EventTables.{EventTables}
use Rattle.expand_grants.specs.Grants.{is_way, route_for}
use Rattle.expand_grants.specs.declared.granted.EventEntry.{EventEntry}
use Rattle.expand_grants.specs.declared.granted.Grants.{Grants}
use Rattle.expand_grants.specs.declared.granted.Route.{Route}
use Rattle.expand_grants.specs.declared.granted.Way.{Way}
use Rattle.expand_grants.specs.declared.granted.Way.TheVariants.{Call, Trap}
use Rattle.image_pack.specs.declared.parts.DevicePart.{DevicePart}
use Rattle.image_pack.specs.declared.parts.EventPart.{EventPart}
use Rattle.image_pack.specs.declared.parts.IrqPart.{IrqPart}
use Rattle.muen_num.specs.declared.devices.IrqTarget.{IrqTarget}
use Rattle.muen_num.specs.declared.devices.PortSpan.{PortSpan}
use Rattle.image_pack.specs.declared.parts.WindowPart.{WindowPart}
use Rattle.muen_num.specs.Range.{numbers_below}
use Rattle.muen_num.specs.declared.limits.TheConstants.{MOST_CALLS}
use Rattle.policy_lawful.specs.declared.resolved.Subject.{Subject}
use Rattle.policy_lawful.specs.source.Device.{Device}
use Rattle.policy_lawful.specs.source.Irq.{Irq}
use Rattle.policy_lawful.specs.source.Ports.{Ports}
use Rattle.policy_lawful.specs.source.SourceWay.{SourceWay}
use Rattle.policy_lawful.specs.source.SourceWay.TheVariants.{Call as SourceCall, Trap as SourceTrap}

-- ---- names

-- a name that isn't empty, as no name is
abbrev pub has_letters : List ℕ → Bool
has_letters name = nat_lt 0 (length name)

-- its name isn't empty
abbrev pub has_name : Subject → Bool
has_name s = has_letters s.name

-- ---- events

-- a way as the document says it
abbrev pub source_way : Way → SourceWay
source_way (Call n) = SourceCall n
source_way (Trap n) = SourceTrap n

-- an entry is for this way
abbrev pub has_way : Way → EventEntry → Bool
has_way way e = is_way (source_way way) e.way

-- an entry as an image has it
abbrev pub event_part : EventEntry → EventPart
event_part e = record { mode = e.mode; target = e.target; vector = e.vector }

-- the first of these entries for a way
abbrev pub event_part_for_way : List EventEntry → Way → Option EventPart
event_part_for_way entries way = option_map event_part (find (has_way way) entries)

-- for each number the entry of its way
unfoldable pub event_table_of : List EventEntry → (ℕ → Way) → List (Option EventPart)
event_table_of entries way = map (λ n. event_part_for_way entries (way n)) (numbers_below MOST_CALLS)

-- what a subject with these grants raises by calls and by traps
abbrev pub event_tables_of : Grants → EventTables
event_tables_of g = record { calls = event_table_of g.events Call; traps = event_table_of g.events Trap }

-- the index of the subject that each way reaches fits
abbrev pub ReachFew : List EventEntry → Type 0
ReachFew entries = (way : Way) → IfSome (find (has_way way) entries) (λ e. e.target < 2 ^ 8)

-- ---- devices

-- a range of ports as an image has it
abbrev pub port_span : Ports → PortSpan
port_span x = record { start = x.start; end = x.end }

-- so many spans from this number on
unfoldable pub window_parts : ℕ → ℕ → List WindowPart
window_parts first count = map (λ k. record { span = first + k }) (numbers_below count)

-- whom a route reaches, as an image has it
abbrev pub route_irq_target : Route → IrqTarget
route_irq_target t = record { subject = t.subject; vector = t.vector }

-- an interrupt with its index, of the device at an index
abbrev pub irq_part : List Route → ℕ → ℕ × Irq → IrqPart
irq_part routes device (index, i) = record { name = i.name; target = option_map route_irq_target (route_for routes device index) }

-- the interrupts of the device at an index
abbrev pub irq_parts : List Route → ℕ → List Irq → List IrqPart
irq_parts routes device irqs = map (irq_part routes device) (enumerate_from 0 irqs)

-- the device at an index, whose memory has the numbers from this one on
abbrev pub device_part : List Route → ℕ → ℕ → Device → DevicePart
device_part routes index first d = record {
  name = d.name;
  ports = map port_span d.io_ports;
  windows = window_parts first (length d.memory);
  irqs = irq_parts routes index d.irqs;
}

-- devices from an index on
unfoldable pub device_parts : List Route → ℕ → ℕ → List Device → List DevicePart
device_parts routes index first [] = []
device_parts routes index first (d ∷ ds) = device_part routes index first d ∷ device_parts routes (index + 1) (first + length d.memory) ds

-- the index of the subject that each of so many interrupts of a device reaches fits
abbrev pub RouteFew : List Route → ℕ → ℕ → Type 0
RouteFew routes device irqs = (irq : ℕ) → irq < irqs → IfSome (route_for routes device irq) (λ t. t.subject < 2 ^ 8)

-- the same of the interrupts of each device
abbrev pub DeviceRoutesFew : List Route → List Device → Type 0
DeviceRoutesFew routes devices = (index : ℕ) (d : Device) → slice_get devices index ≡ Some d → RouteFew routes index (length d.irqs)
