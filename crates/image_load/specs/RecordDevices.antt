-- The devices that a record may name, as an image has them.
use Rattle.std.specs.Prelude.{◌≡◌, List, map}
use Rattle.std.specs.List.{AllZip}
use Rattle.image_pack.specs.declared.parts.DevicePart.{DevicePart}
use Rattle.image_pack.specs.declared.parts.Image.{Image}
use Rattle.image_pack.specs.declared.parts.IrqPart.{IrqPart}
use Rattle.image_pack.specs.declared.parts.SpanPart.{SpanPart}
use Rattle.record_text.specs.declared.devices.RecordDevice.{RecordDevice}
use Rattle.record_text.specs.declared.devices.Devices.{Devices}
use Rattle.record_text.specs.declared.devices.RecordIrq.{RecordIrq}
use Rattle.record_text.specs.declared.devices.RecordMemory.{RecordMemory}
use Rattle.image_load.specs.Resolving.{NamedMemory, named_memories_of}

abbrev pub record_irq : IrqPart → RecordIrq
record_irq q = record { name = q.name; target = q.target }

abbrev pub named_memory : RecordMemory → NamedMemory
named_memory m = record { name = m.name; address = m.address; bytes = m.bytes }

-- a device that a record may name is that of its parts
pub record IsRecordDevice (spans : List SpanPart) (d : DevicePart) (p : RecordDevice) : Type 0 where
  pub name : p.name ≡ d.name
  pub ports : p.ports ≡ d.ports
  pub memories : map named_memory p.memories ≡ named_memories_of spans d
  pub irqs : p.irqs ≡ map record_irq d.irqs

-- an image's devices
pub record HasDevices (i : Image) (ds : Devices) : Type 0 where
  pub cpus : ds.cpus ≡ i.header.cpus
  pub devices : AllZip (IsRecordDevice i.spans) i.devices ds.devices
