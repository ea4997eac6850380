-- Where a record's inputs go.
use Rattle.std.specs.Prelude.{ℕ, ◌+◌, ◌&&◌, Bool, nat_le, List, map, length, Option, Some, None, option_map, option_and_then, position, unwrap_or, if◌then◌else◌}
use Rattle.std.specs.List.{find, list_any}
use Rattle.std.specs.Str.{bytes_eq}
use Rattle.record_text.specs.DeviceRecord.{NamedInput, port_input, memory_input, irq_input, dma_input, DeviceRecord}
use Rattle.record_text.specs.declared.devices.RecordDevice.{RecordDevice}
use Rattle.record_text.specs.declared.devices.Devices.{Devices}
use Rattle.muen_num.specs.declared.devices.IrqTarget.{IrqTarget}
use Rattle.record_text.specs.declared.devices.RecordMemory.{RecordMemory}
use Rattle.muen_num.specs.declared.devices.PortSpan.{PortSpan}
use Rattle.record_text.specs.declared.record.Input.{Input}
use Rattle.record_text.specs.declared.record.Input.TheVariants.{Port, Mem, Irq, Idle, Dma}
use Rattle.record_text.specs.declared.record.Record.{Record}
use Rattle.record_text.specs.declared.record.TickInput.{TickInput}
use Rattle.record_text.specs.declared.record.TickOrder.{TickOrder}

abbrev pub is_in_span : ℕ → PortSpan → Bool
is_in_span port span = nat_le span.start port && nat_le port span.end

-- a port that the device has
abbrev pub port_of : ℕ → ℕ → RecordDevice → Option Input
port_of port value d = if list_any (is_in_span port) d.ports then Some (Port port value) else None

-- bytes from an offset on that lie in the memory
abbrev pub bytes_in : ℕ → List ℕ → RecordMemory → Option Input
bytes_in offset bytes m = if nat_le (offset + length bytes) m.bytes then Some (Mem (m.address + offset) bytes) else None

abbrev pub memory_of : List ℕ → ℕ → List ℕ → RecordDevice → Option Input
memory_of memory offset bytes d = option_and_then (bytes_in offset bytes) (find (λ m. bytes_eq m.name memory) d.memories)

abbrev pub raised : Option IrqTarget → Input
raised None = Idle
raised (Some target) = Irq target.subject target.vector

abbrev pub irq_of : List ℕ → RecordDevice → Option Input
irq_of irq d = option_map (λ i. raised i.target) (find (λ i. bytes_eq i.name irq) d.irqs)

-- where an input goes, if what it names is there
abbrev pub resolved_input : Devices → NamedInput → Option Input
resolved_input devices (port_input device port value) =
    option_and_then (port_of port value) (find (λ d. bytes_eq d.name device) devices.devices)
resolved_input devices (memory_input device memory offset bytes) =
    option_and_then (memory_of memory offset bytes) (find (λ d. bytes_eq d.name device) devices.devices)
resolved_input devices (irq_input device irq) =
    option_and_then (irq_of irq) (find (λ d. bytes_eq d.name device) devices.devices)
resolved_input devices (dma_input device addr bytes) =
    option_map (λ number. Dma number addr bytes) (position (λ d. bytes_eq d.name device) devices.devices)

-- what isn't there does nothing; a record that is read names nothing such
abbrev pub resolved_at : Devices → ℕ × NamedInput → TickInput Input
resolved_at devices e = record { tick = e.0; input = unwrap_or (resolved_input devices e.1) Idle }

abbrev pub order_at : ℕ × List ℕ → TickOrder
order_at e = record { tick = e.0; cpus = e.1 }

-- the record by addresses and numbers
abbrev pub resolved : Devices → DeviceRecord → Record Input
resolved devices r = record { end = r.end; inputs = map (resolved_at devices) r.inputs; orders = map order_at r.orders }
