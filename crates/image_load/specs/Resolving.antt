-- What a device record may name of an image, and where its inputs go (this project's own).
use Rattle.std.specs.Prelude.{ℕ, ◌+◌, ◌*◌, ◌==◌, ◌&&◌, if◌then◌else◌, nat_le, List, map, length, Option, Some, None, option_map, option_and_then, option_to_list, unwrap_or}
use Rattle.std.specs.List.{find, flat_map, list_any, position}
use Rattle.std.specs.Str.{bytes_eq}
use Rattle.muen_num.specs.declared.limits.TheConstants.{PAGE}
use Rattle.image_pack.specs.Image.{device_name}
use Rattle.image_pack.specs.declared.parts.DevicePart.{DevicePart}
use Rattle.image_pack.specs.declared.parts.Image.{Image}
use Rattle.image_pack.specs.declared.parts.SpanPart.{SpanPart}
use Rattle.image_pack.specs.declared.parts.WindowPart.{WindowPart}
use Rattle.record_text.specs.Bench.{Bench, BenchDevice}
use Rattle.record_text.specs.DeviceRecord.{DeviceRecord, NamedInput, port_input, memory_input, irq_input, dma_input}
use Rattle.record_text.specs.Resolving.{order_at, raised, is_in_span}
use Rattle.record_text.specs.declared.record.Input.{Input}
use Rattle.record_text.specs.declared.record.Input.TheVariants.{Port, Mem, Idle, Dma}
use Rattle.record_text.specs.declared.record.Record.{Record}
use Rattle.record_text.specs.declared.record.TickInput.{TickInput}

-- ---- the memories of a device, by their names

-- a memory's name, the address of its first byte, and how many bytes it has
pub record NamedMemory : Type 0 where
  pub name : List ℕ
  pub address : ℕ
  pub bytes : ℕ

abbrev pub memory_of_span : SpanPart → Option NamedMemory
memory_of_span s = option_map (λ name. record { name = name; address = s.address; bytes = PAGE * s.pages }) (device_name s)

abbrev pub memory_of_window : List SpanPart → WindowPart → Option NamedMemory
memory_of_window spans w = option_and_then memory_of_span (find (λ s. s.number == w.span) spans)

abbrev pub named_memories_of : List SpanPart → DevicePart → List NamedMemory
named_memories_of spans d = flat_map (λ w. option_to_list (memory_of_window spans w)) d.windows

-- ---- what a record may name

abbrev pub bench_device_of : List SpanPart → DevicePart → BenchDevice
bench_device_of spans d = record {
  name = d.name;
  ports = map (λ r. (r.start, r.end)) d.ports;
  memories = map (λ m. (m.name, m.bytes)) (named_memories_of spans d);
  irqs = map (λ q. q.name) d.irqs;
}

abbrev pub image_bench : Image → Bench
image_bench i = record { cpus = i.header.cpus; devices = map (bench_device_of i.spans) i.devices }

-- ---- where an input goes, if what it names is there

abbrev pub port_input_of : ℕ → ℕ → DevicePart → Option Input
port_input_of port value d = if list_any (is_in_span port) d.ports then Some (Port port value) else None

abbrev pub bytes_into : ℕ → List ℕ → NamedMemory → Option Input
bytes_into offset bytes m = if nat_le (offset + length bytes) m.bytes then Some (Mem (m.address + offset) bytes) else None

abbrev pub memory_input_of : List SpanPart → List ℕ → ℕ → List ℕ → DevicePart → Option Input
memory_input_of spans memory offset bytes d =
    option_and_then (bytes_into offset bytes) (find (λ m. bytes_eq m.name memory) (named_memories_of spans d))

abbrev pub irq_input_of : List ℕ → DevicePart → Option Input
irq_input_of irq d = option_map (λ q. raised q.target) (find (λ q. bytes_eq q.name irq) d.irqs)

abbrev pub device_called : List ℕ → Image → Option DevicePart
device_called name i = find (λ d. bytes_eq d.name name) i.devices

abbrev pub image_input_of : Image → NamedInput → Option Input
image_input_of i (port_input device port value) = option_and_then (port_input_of port value) (device_called device i)
image_input_of i (memory_input device memory offset bytes) =
    option_and_then (memory_input_of i.spans memory offset bytes) (device_called device i)
image_input_of i (irq_input device irq) = option_and_then (irq_input_of irq) (device_called device i)
image_input_of i (dma_input device addr bytes) =
    option_map (λ number. Dma number addr bytes) (position (λ d. bytes_eq d.name device) i.devices)

-- what isn't there does nothing; a record that is read for the image names nothing such
abbrev pub tick_input_of : Image → ℕ × NamedInput → TickInput Input
tick_input_of i e = record { tick = e.0; input = unwrap_or (image_input_of i e.1) Idle }

-- **the record** by addresses and numbers
abbrev pub image_record : Image → DeviceRecord → Record Input
image_record i r = record { end = r.end; inputs = map (tick_input_of i) r.inputs; orders = map order_at r.orders }
