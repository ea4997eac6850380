-- A record as far as its lines are read.
use Rattle.std.specs.Prelude.{ℕ, ◌<◌, ◌≤◌, ◌==◌, ◌&&◌, true, false, not, nat_lt, List, [], ◌∷◌, ◌++◌, map, Some, None, Result, Ok, Err, unwrap_or, if◌then◌else◌}
use Rattle.std.specs.List.{list_any}
use Rattle.record_text.specs.DeviceRecord.{DeviceRecord}
use Rattle.record_text.specs.Resolving.{resolved_input, resolved_at, order_at}
use Rattle.record_text.specs.Reading.{Standing}
use Rattle.muen_num.specs.Numbers.{are_distinct}
use Rattle.record_text.specs.Table.{Entry, input_entry, order_entry, end_entry}
use Rattle.record_text.specs.declared.devices.Devices.{Devices}
use Rattle.record_text.specs.declared.fault.LineWant.TheVariants.{Order as OrderWant}
use Rattle.record_text.specs.declared.fault.RecordFault.{RecordFault}
use Rattle.record_text.specs.declared.fault.RecordFault.TheVariants.{Line as LineFault, Back, Unknown}
use Rattle.record_text.specs.declared.line.RecordLine.{RecordLine}
use Rattle.record_text.specs.declared.line.Says.{Says}
use Rattle.record_text.specs.declared.line.Says.TheVariants.{Input as InputSaid, Order as OrderSaid, End as EndSaid}
use Rattle.record_text.specs.declared.made.Made.{Made}
use Rattle.record_text.specs.declared.record.Input.{Input}
use Rattle.record_text.specs.declared.record.Input.TheVariants.{Idle}
use Rattle.record_text.specs.declared.record.Record.{Record}

abbrev pub nothing : Made
nothing = record { tick = 0; ended = false; inputs = []; orders = [] }

abbrev pub with_input : Made → ℕ → Input → Made
with_input m tick input = record m { tick = tick; inputs = m.inputs ++ record { tick = tick; input = input } ∷ [] }

abbrev pub with_order : Made → ℕ → List ℕ → Made
with_order m tick cpus = record m { tick = tick; orders = m.orders ++ record { tick = tick; cpus = cpus } ∷ [] }

abbrev pub with_end : Made → ℕ → Made
with_end m tick = record m { tick = tick; ended = true }

-- ---- what it leaves for the next line

abbrev pub standing_of : Made → Standing
standing_of m = record { tick = m.tick; ended = m.ended; ordered = map (λ o. o.tick) m.orders }

-- each number is above the one before, and none above this one
abbrev pub RisesTo : ℕ → List ℕ → Type 0
RisesTo most [] = Unit {0}
RisesTo most (t ∷ []) = t ≤ most
RisesTo most (t ∷ u ∷ ts) = (t < u) × RisesTo most (u ∷ ts)

-- the orders stand by rising ticks, none above the last line's
abbrev pub IsInOrder : Made → Type 0
IsInOrder m = RisesTo m.tick (map (λ o. o.tick) m.orders)

-- ---- one line more, where each name of it was found or not

abbrev pub made_order : Made → ℕ → ℕ → List ℕ → Result Made RecordFault
made_order m n tick cpus =
    if are_distinct cpus && not (list_any (λ t. t == tick) (map (λ o. o.tick) m.orders)) then Ok (with_order m tick cpus)
    else Err (LineFault n OrderWant)

abbrev pub made_says : Made → ℕ → ℕ → Says → Result Made RecordFault
made_says m n tick (InputSaid None) = Err (Unknown n)
made_says m n tick (InputSaid (Some input)) = Ok (with_input m tick input)
made_says m n tick (OrderSaid cpus) = made_order m n tick cpus
made_says m n tick EndSaid = Ok (with_end m tick)

abbrev pub made_line : Made → ℕ → RecordLine → Result Made RecordFault
made_line m n line = if nat_lt line.tick m.tick then Err (Back n) else made_says m n line.tick line.says

-- ---- one line more, in names

abbrev pub made_with : Devices → Made → Entry → Made
made_with devices m (input_entry tick input) = with_input m tick (unwrap_or (resolved_input devices input) Idle)
made_with devices m (order_entry tick cpus) = with_order m tick cpus
made_with devices m (end_entry tick) = with_end m tick

-- what was read, and behind it what the lines that remain say
abbrev pub grown : Devices → Made → Result DeviceRecord RecordFault → Result (Record Input) RecordFault
grown devices m (Ok r) = Ok (record {
  end = r.end;
  inputs = m.inputs ++ map (resolved_at devices) r.inputs;
  orders = m.orders ++ map order_at r.orders;
})
grown devices m (Err fault) = Err fault
