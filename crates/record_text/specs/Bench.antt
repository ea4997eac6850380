-- What a device record may name: the CPUs, and the devices with their ports, memories and interrupts.
use Rattle.std.specs.Prelude.{ℕ, ◌+◌, ◌&&◌, Bool, false, nat_le, List, map, length, Option, is_some}
use Rattle.std.specs.Option.{option_map_or}
use Rattle.std.specs.List.{find, list_any}
use Rattle.std.specs.Str.{bytes_eq}
use Rattle.record_text.specs.DeviceRecord.{NamedInput, port_input, memory_input, irq_input, dma_input}
use Rattle.record_text.specs.declared.devices.RecordDevice.{RecordDevice}
use Rattle.record_text.specs.declared.devices.Devices.{Devices}

pub record BenchDevice : Type 0 where
  pub name : List ℕ
  -- the first and the last port of each range
  pub ports : List (ℕ × ℕ)
  -- the name of each memory, and how many bytes it has
  pub memories : List (List ℕ × ℕ)
  -- the name of each interrupt
  pub irqs : List (List ℕ)

pub record Bench : Type 0 where
  -- how many CPUs there are, numbered from 0
  pub cpus : ℕ
  pub devices : List BenchDevice

-- ---- what is there; where two have one name the first counts

abbrev pub device_named : Bench → List ℕ → Option BenchDevice
device_named bench name = find (λ d. bytes_eq d.name name) bench.devices

abbrev pub has_port : ℕ → BenchDevice → Bool
has_port port d = list_any (λ span. nat_le span.0 port && nat_le port span.1) d.ports

-- as many bytes from an offset on lie in the memory
abbrev pub has_bytes : List ℕ → ℕ → ℕ → BenchDevice → Bool
has_bytes memory offset count d =
    option_map_or (λ m. nat_le (offset + count) m.1) (find (λ m. bytes_eq m.0 memory) d.memories) false

abbrev pub has_irq : List ℕ → BenchDevice → Bool
has_irq irq d = is_some (find (λ name. bytes_eq name irq) d.irqs)

-- the device is there, and so is its port, memory or interrupt
abbrev pub is_known : Bench → NamedInput → Bool
is_known bench (port_input device port value) = option_map_or (has_port port) (device_named bench device) false
is_known bench (memory_input device memory offset bytes) =
    option_map_or (has_bytes memory offset (length bytes)) (device_named bench device) false
is_known bench (irq_input device irq) = option_map_or (has_irq irq) (device_named bench device) false
is_known bench (dma_input device addr bytes) = is_some (device_named bench device)

-- ---- the bench of a system

abbrev pub bench_device : RecordDevice → BenchDevice
bench_device d = record {
  name = d.name;
  ports = map (λ span. (span.start, span.end)) d.ports;
  memories = map (λ m. (m.name, m.bytes)) d.memories;
  irqs = map (λ i. i.name) d.irqs;
}

abbrev pub bench_of : Devices → Bench
bench_of devices = record { cpus = devices.cpus; devices = map bench_device devices.devices }
