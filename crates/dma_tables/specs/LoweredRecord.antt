-- What a record is that reaches a machine.
use Rattle.std.specs.Prelude.{◌≡◌, ℕ, ◌+◌, ◌<◌, ◌≤◌, true, IsTrue, List, length, map}
use Rattle.std.specs.List.{All}
use Rattle.std.specs.List.Sorted.{IsNonDecreasing, IsStrictlyIncreasing}
use Rattle.muen_num.specs.declared.limits.TheConstants.{MOST_TICKS}
use Rattle.image_pack.specs.declared.parts.SpanPart.{SpanPart}
use Rattle.record_text.specs.Law.{NamesEachOnce, has_port_of_devices, has_target_of_devices}
use Rattle.record_text.specs.declared.devices.Devices.{Devices}
use Rattle.device_bench.specs.declared.effect.Effect.{Effect}
use Rattle.device_bench.specs.declared.effect.Effect.TheVariants.{Port, Mem, Irq}
use Rattle.record_text.specs.declared.record.Record.{Record}
use Rattle.record_text.specs.declared.record.TheConstants.{INPUT_MOST}
use Rattle.dma_tables.specs.Lowered.{is_in_spans}

-- ---- a record of devices and of spans of memory

-- each of so many bytes from an address on lies in the spans
abbrev pub AreInSpans : List SpanPart → ℕ → ℕ → Type 0
AreInSpans spans at count = (place : ℕ) → at ≤ place → place < at + count → is_in_spans spans place ≡ true

-- bytes are written into the spans; all else comes from a device that has what it needs
abbrev pub IsEffectIn : Devices → List SpanPart → Effect → Type 0
IsEffectIn devices spans (Port port value) = IsTrue (has_port_of_devices devices port) × (value < 256)
IsEffectIn devices spans (Mem at bytes) = AreInSpans spans at (length bytes) × (1 ≤ length bytes) × (length bytes ≤ INPUT_MOST)
IsEffectIn devices spans (Irq subject vector) = IsTrue (has_target_of_devices devices subject vector)

pub record IsRecordIn (devices : Devices) (spans : List SpanPart) (r : Record Effect) : Type 0 where
  pub ticks : r.end ≤ MOST_TICKS
  pub inputs_in_order : IsNonDecreasing (map (λ i. i.tick) r.inputs)
  pub inputs_by_end : All (λ i. i.tick ≤ r.end) r.inputs
  pub inputs_fit : All (λ i. IsEffectIn devices spans i.input) r.inputs
  pub orders_rise : IsStrictlyIncreasing (map (λ o. o.tick) r.orders)
  pub orders_by_end : All (λ o. o.tick ≤ r.end) r.orders
  pub orders_name_each : All (λ o. NamesEachOnce devices.cpus o.cpus) r.orders

-- the memories of the devices lie in the spans
abbrev pub HaveMemoriesIn : List SpanPart → Devices → Type 0
HaveMemoriesIn spans devices = All (λ d. All (λ m. AreInSpans spans m.address m.bytes) d.memories) devices.devices
