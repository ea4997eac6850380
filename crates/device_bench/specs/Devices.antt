-- What devices do in a tick, and what their ports hold (this project's own machine).
use Rattle.std.specs.Prelude.{◌≡◌, ℕ, ◌+◌, ◌^◌, ◌<◌, ◌==◌, List, map, length, filter, take, drop, replicate, Option, option_map}
use Rattle.std.specs.List.{All, find}
use Rattle.std.specs.List.Sorted.{IsNonDecreasing, IsStrictlyIncreasing}
use Rattle.muen_num.specs.declared.limits.TheConstants.{LAST_PORT}
use Rattle.machine_layout.specs.Memory.{le_number}
use Rattle.device_bench.specs.declared.effect.Effect.{Effect}
use Rattle.device_bench.specs.declared.effect.Effect.TheVariants.{Mem}
use Rattle.record_text.specs.declared.record.Record.{Record}
use Rattle.record_text.specs.declared.record.TickInput.{TickInput}
use Rattle.muen_num.specs.Numbers.{zeros}

-- a record of what devices do, and the input byte of each port
pub record BenchState : Type 0 where
  pub run : Record Effect
  pub ports : List ℕ

-- inputs stand by their ticks, and so do orders, of which a tick has one at most
pub record IsRecordInOrder (r : Record Effect) : Type 0 where
  pub inputs : IsNonDecreasing (map (λ i. i.tick) r.inputs)
  pub orders : IsStrictlyIncreasing (map (λ o. o.tick) r.orders)

-- what is written into memory ends below 2 ^ 64
abbrev pub IsLowEffect : Effect → Type 0
IsLowEffect (Mem at bytes) = at + length bytes < 2 ^ 64
IsLowEffect _ = Unit {0}

-- a record that a machine can run
pub record CanRun (run : Record Effect) : Type 0 where
  pub in_order : IsRecordInOrder run
  pub low : All (λ i. IsLowEffect i.input) run.inputs

-- the inputs of a tick, in their order
abbrev pub inputs_at : Record Effect → ℕ → List (TickInput Effect)
inputs_at r tick = filter (λ i. i.tick == tick) r.inputs

-- the order of the CPUs in a tick, if the record gives one
abbrev pub order_at : Record Effect → ℕ → Option (List ℕ)
order_at r tick = option_map (λ o. o.cpus) (find (λ o. o.tick == tick) r.orders)

-- no port has had an input
abbrev pub no_inputs : List ℕ
no_inputs = zeros (LAST_PORT + 1)

-- what is read of so many ports from this one on: the byte of the lowest port is the lowest
abbrev pub value_of_ports : List ℕ → ℕ → ℕ → ℕ
value_of_ports ports port size = le_number (take size (drop port ports))

-- what always holds: the record is in order, and each port has a byte
pub record IsBench (b : BenchState) : Type 0 where
  pub in_order : IsRecordInOrder b.run
  pub ports : length b.ports ≡ LAST_PORT + 1
