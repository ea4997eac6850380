-- What a record may name of an image is what has an input there.
use Rattle.std.proofs.Common.{◌≡◌, ℕ, ◌+◌, false, List, length, Option, Some, None, is_some, find, position, option_and_then, option_map, nat_le, refl, sym, ap, ◌∙◌}
use Rattle.std.specs.Prelude.{◌&&◌}
use Rattle.std.specs.List.{list_any}
use Rattle.std.specs.Option.{option_map_or}
use Rattle.std.specs.Str.{bytes_eq}
use Rattle.muen_num.proofs.Lists.{find-map, list_any-map}
use Rattle.muen_num.proofs.Options.{is_some-option_map, some_if}
use Rattle.muen_num.proofs.Lookups.{found_number}
use Rattle.image_load.specs.Resolving.{NamedMemory, bench_device_of, bytes_into, device_called, image_bench, image_input_of, irq_input_of, named_memories_of, memory_input_of, port_input_of}
use Rattle.record_text.specs.Resolving.{is_in_span, raised}
use Rattle.image_pack.specs.declared.parts.DevicePart.{DevicePart}
use Rattle.image_pack.specs.declared.parts.Image.{Image}
use Rattle.image_pack.specs.declared.parts.IrqPart.{IrqPart}
use Rattle.muen_num.specs.declared.devices.PortSpan.{PortSpan}
use Rattle.image_pack.specs.declared.parts.SpanPart.{SpanPart}
use Rattle.record_text.specs.Bench.{has_bytes, has_irq, has_port, is_known}
use Rattle.record_text.specs.DeviceRecord.{NamedInput, port_input, memory_input, irq_input, dma_input}
use Rattle.record_text.specs.declared.record.Input.TheVariants.{Dma}
use Rattle.proof_runs.proofs.SameBench.{name_and_size}

-- a port of a device is known where it has an input
port_known : (spans : List SpanPart) (port value : ℕ) (o : Option DevicePart)
    → option_map_or (has_port port) (option_map (bench_device_of spans) o) false ≡ is_some (option_and_then (port_input_of port value) o)
port_known spans port value None = refl
port_known spans port value (Some d) =
    list_any-map (λ range. nat_le range.0 port && nat_le port range.1) (λ (r : PortSpan). (r.start, r.end)) d.ports
    ∙ sym (some_if (list_any (is_in_span port) d.ports) _)

-- .. and so is a place in a memory
bytes_known : (offset : ℕ) (bytes : List ℕ) (o : Option NamedMemory)
    → option_map_or (λ (m : List ℕ × ℕ). nat_le (offset + length bytes) m.1) (option_map name_and_size o) false
    ≡ is_some (option_and_then (bytes_into offset bytes) o)
bytes_known offset bytes None = refl
bytes_known offset bytes (Some m) = sym (some_if (nat_le (offset + length bytes) m.bytes) _)

-- .. in a memory of a device
memory_known : (spans : List SpanPart) (memory : List ℕ) (offset : ℕ) (bytes : List ℕ) (o : Option DevicePart)
    → option_map_or (has_bytes memory offset (length bytes)) (option_map (bench_device_of spans) o) false
    ≡ is_some (option_and_then (memory_input_of spans memory offset bytes) o)
memory_known spans memory offset bytes None = refl
memory_known spans memory offset bytes (Some d) =
    ap (λ o. option_map_or (λ (m : List ℕ × ℕ). nat_le (offset + length bytes) m.1) o false)
    (find-map (λ m. bytes_eq m.0 memory) name_and_size (named_memories_of spans d))
    ∙ bytes_known offset bytes (find (λ m. bytes_eq m.name memory) (named_memories_of spans d))

-- an interrupt of a device is known where it reaches somebody, or nobody
irq_known : (spans : List SpanPart) (irq : List ℕ) (o : Option DevicePart)
    → option_map_or (has_irq irq) (option_map (bench_device_of spans) o) false ≡ is_some (option_and_then (irq_input_of irq) o)
irq_known spans irq None = refl
irq_known spans irq (Some d) =
    ap is_some (find-map (λ name. bytes_eq name irq) (λ (q : IrqPart). q.name) d.irqs)
    ∙ is_some-option_map (λ (q : IrqPart). q.name) (find (λ q. bytes_eq q.name irq) d.irqs)
    ∙ sym (is_some-option_map (λ (q : IrqPart). raised q.target) (find (λ q. bytes_eq q.name irq) d.irqs))

-- a device of the bench is one of the image
device_found : (i : Image) (device : List ℕ) → find (λ d. bytes_eq d.name device) (image_bench i).devices ≡ option_map (bench_device_of i.spans) (device_called device i)
device_found i device = find-map (λ d. bytes_eq d.name device) (bench_device_of i.spans) i.devices

-- so what is known is what has an input
pub known_is : (i : Image) (input : NamedInput) → is_known (image_bench i) input ≡ is_some (image_input_of i input)
known_is i (port_input device port value) =
    ap (λ o. option_map_or (has_port port) o false) (device_found i device) ∙ port_known i.spans port value (device_called device i)
known_is i (memory_input device memory offset bytes) =
    ap (λ o. option_map_or (has_bytes memory offset (length bytes)) o false) (device_found i device)
    ∙ memory_known i.spans memory offset bytes (device_called device i)
known_is i (irq_input device irq) =
    ap (λ o. option_map_or (has_irq irq) o false) (device_found i device) ∙ irq_known i.spans irq (device_called device i)
known_is i (dma_input device addr bytes) =
    ap is_some (device_found i device)
    ∙ is_some-option_map (bench_device_of i.spans) (device_called device i)
    ∙ sym (found_number (λ (d : DevicePart). bytes_eq d.name device) i.devices)
    ∙ sym (is_some-option_map (λ number. Dma number addr bytes) (position (λ d. bytes_eq d.name device) i.devices))
