-- What holds of every record that is read.
use Rattle.std.specs.Prelude.{◌≡◌, ℕ, ◌+◌, ◌^◌, ◌<◌, ◌≤◌, ◌==◌, ◌&&◌, Bool, false, IsTrue, nat_le, nat_lt, List, map, length, Option, Some, None, All}
use Rattle.std.specs.List.{list_all, list_any}
use Rattle.std.specs.List.Sorted.{IsNonDecreasing, IsStrictlyIncreasing}
use Rattle.muen_num.specs.declared.limits.TheConstants.{GUEST_END, MOST_TICKS}
use Rattle.record_text.specs.Resolving.{is_in_span}
use Rattle.muen_num.specs.Numbers.{are_distinct}
use Rattle.record_text.specs.declared.devices.Devices.{Devices}
use Rattle.muen_num.specs.declared.devices.IrqTarget.{IrqTarget}
use Rattle.record_text.specs.declared.record.TheConstants.{INPUT_MOST}
use Rattle.record_text.specs.declared.record.Input.{Input}
use Rattle.record_text.specs.declared.record.Input.TheVariants.{Port, Mem, Irq, Idle, Dma}
use Rattle.record_text.specs.declared.record.Record.{Record}

abbrev pub is_target : ℕ → ℕ → Option IrqTarget → Bool
is_target subject vector None = false
is_target subject vector (Some target) = (target.subject == subject) && (target.vector == vector)

-- some device has the port
abbrev pub has_port_of_devices : Devices → ℕ → Bool
has_port_of_devices devices port = list_any (λ d. list_any (is_in_span port) d.ports) devices.devices

-- as many bytes from an address on lie in the memory of some device
abbrev pub has_memory_of_devices : Devices → ℕ → ℕ → Bool
has_memory_of_devices devices at count =
    list_any (λ d. list_any (λ m. nat_le m.address at && nat_le (at + count) (m.address + m.bytes)) d.memories) devices.devices

-- some interrupt of a device goes there
abbrev pub has_target_of_devices : Devices → ℕ → ℕ → Bool
has_target_of_devices devices subject vector =
    list_any (λ d. list_any (λ i. is_target subject vector i.target) d.irqs) devices.devices

-- an input comes from a device that has what it needs
abbrev pub IsInputOf : Devices → Input → Type 0
IsInputOf devices (Port port value) = IsTrue (has_port_of_devices devices port) × (value < 256)
IsInputOf devices (Mem at bytes) = IsTrue (has_memory_of_devices devices at (length bytes)) × (1 ≤ length bytes) × (length bytes ≤ INPUT_MOST)
IsInputOf devices (Irq subject vector) = IsTrue (has_target_of_devices devices subject vector)
IsInputOf devices Idle = Unit {0}
IsInputOf devices (Dma device addr bytes) =
    (device < length devices.devices) × (addr < GUEST_END) × (1 ≤ length bytes) × (length bytes ≤ INPUT_MOST)

-- each of the CPUs, once
pub record NamesEachOnce (cpus : ℕ) (order : List ℕ) : Type 0 where
  pub count : length order ≡ cpus
  pub below : IsTrue (list_all (λ c. nat_lt c cpus) order)
  pub distinct : IsTrue (are_distinct order)

-- a record of these devices
pub record IsRecordOf (devices : Devices) (r : Record Input) : Type 0 where
  pub ticks : r.end ≤ MOST_TICKS
  pub inputs_in_order : IsNonDecreasing (map (λ i. i.tick) r.inputs)
  pub inputs_by_end : All (λ i. i.tick ≤ r.end) r.inputs
  pub inputs_fit : All (λ i. IsInputOf devices i.input) r.inputs
  pub orders_rise : IsStrictlyIncreasing (map (λ o. o.tick) r.orders)
  pub orders_by_end : All (λ o. o.tick ≤ r.end) r.orders
  pub orders_name_each : All (λ o. NamesEachOnce devices.cpus o.cpus) r.orders

-- ---- what a run needs of it

-- what is written into memory ends below 2 ^ 64
abbrev pub IsLowWrite : Input → Type 0
IsLowWrite (Port port value) = Unit {0}
IsLowWrite (Mem at bytes) = at + length bytes < 2 ^ 64
IsLowWrite (Irq subject vector) = Unit {0}
IsLowWrite Idle = Unit {0}
IsLowWrite (Dma device addr bytes) = Unit {0}

-- inputs stand by their ticks, and so do orders, of which a tick has one at most; no write ends too high
pub record IsOrderly (r : Record Input) : Type 0 where
  pub inputs : IsNonDecreasing (map (λ i. i.tick) r.inputs)
  pub orders : IsStrictlyIncreasing (map (λ o. o.tick) r.orders)
  pub low : All (λ i. IsLowWrite i.input) r.inputs
