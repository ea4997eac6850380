-- Where in a record the inputs and the order of a tick stand.
use Rattle.std.specs.Prelude.{◌+◌}
use Rattle.device_bench.specs.Before.{Splits}
use Rattle.device_bench.specs.declared.effect.Effect.{Effect}
use Rattle.device_bench.specs.declared.at_tick.AtTick.{AtTick}
use Rattle.record_text.specs.declared.record.Record.{Record}

-- it is so in this record
pub record IsAtTick (run : Record Effect) (at : AtTick) : Type 0 where
  pub first : Splits (λ i. i.tick) at.tick run.inputs at.first
  pub past : Splits (λ i. i.tick) (at.tick + 1) run.inputs at.past
  pub orders : Splits (λ o. o.tick) at.tick run.orders at.orders
