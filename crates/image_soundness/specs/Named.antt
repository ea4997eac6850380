-- What numbers in an image stand for, by name.
use Rattle.std.specs.Prelude.{ℕ, ◌*◌, List, [], map, slice_index_or, Option, Some, option_map, option_and_then}
use Rattle.std.specs.List.{filter_map}
use Rattle.image_memory.specs.Memory.{span_at}
use Rattle.image_pack.specs.Codes.{part_name}
use Rattle.image_pack.specs.declared.parts.DevicePart.{DevicePart}
use Rattle.image_pack.specs.declared.parts.EventPart.{EventPart}
use Rattle.image_pack.specs.declared.parts.Image.{Image}
use Rattle.muen_num.specs.declared.devices.IrqTarget.{IrqTarget}
use Rattle.image_pack.specs.declared.parts.WindowPart.{WindowPart}
use Rattle.muen_num.specs.declared.limits.TheConstants.{PAGE}
use Rattle.muen_num.specs.declared.tag.Tag.{Tag}
use Rattle.policy_lawful.specs.Events.{Raised, Target}
use Rattle.record_text.specs.Bench.{Bench, BenchDevice}

-- ---- subjects

abbrev pub subject_name : Image → ℕ → List ℕ
subject_name i number = slice_index_or (map (λ s. s.name) i.subjects) number []

abbrev pub target : Image → ℕ → Option ℕ → Target
target i subject vector = record { subject = subject_name i subject; vector = vector }

-- what an entry of a table of events raises
abbrev pub raised : Image → EventPart → Raised
raised i e = record { mode = e.mode; target = target i e.target e.vector }

-- whom an interrupt reaches
abbrev pub reached : Image → IrqTarget → Target
reached i t = target i t.subject (Some t.vector)

-- ---- spans

abbrev pub tag_at : Image → ℕ → Option Tag
tag_at i number = option_map (λ e. e.0.tag) (span_at i number)

-- ---- what a device record may name

-- a device's memory: its name and size
abbrev pub window_memory : Image → WindowPart → Option (List ℕ × ℕ)
window_memory i w = option_and_then (λ e. option_map (λ text. (text, PAGE * e.0.pages)) (part_name e.0.tag.part)) (span_at i w.span)

abbrev pub bench_device : Image → DevicePart → BenchDevice
bench_device i d = record {
  name = d.name;
  ports = map (λ r. (r.start, r.end)) d.ports;
  memories = filter_map (window_memory i) d.windows;
  irqs = map (λ q. q.name) d.irqs;
}

-- the CPUs and the devices of an image
unfoldable pub bench_of : Image → Bench
bench_of i = record { cpus = i.header.cpus; devices = map (bench_device i) i.devices }
