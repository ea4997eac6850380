-- Turns and ticks of a kernel.
use Rattle.std.specs.Prelude.{ℕ, List, Option, Some, None}
use Rattle.view_text.specs.declared.TurnLine.{TurnLine}
use Rattle.kernel_core.specs.Run.{Turned, Ran, turns, tick_ran, run_to}
use Rattle.kernel_core.specs.Kernel.{Live, turn_of}
use Rattle.kernel_core.specs.Ticks.{KernelState, kernel, tick_inputs, tick_order}

-- the CPUs in the order of the tick
abbrev pub order_of : KernelState → List ℕ
order_of k = tick_order k.run k.cpus k.tick

-- the turn of a CPU, if there is one
abbrev pub turn_at : KernelState → Option ℕ → Turned Live TurnLine
turn_at k None = record { state = k.live; line = None }
turn_at k (Some cpu) = turn_of k.setup cpu k.tick k.live

-- the turns of these CPUs
abbrev pub turns_in : KernelState → List ℕ → Ran Live TurnLine
turns_in k cpus = turns (kernel k.setup) k.tick cpus k.live

-- the tick
abbrev pub tick_in : KernelState → Ran Live TurnLine
tick_in k = tick_ran (kernel k.setup) k.tick (tick_inputs k.run k.tick) (order_of k) k.live

-- so many ticks, from the first on
abbrev pub ticks_in : KernelState → ℕ → Ran Live TurnLine
ticks_in k n = run_to (kernel k.setup) (tick_inputs k.run) (tick_order k.run k.cpus) n k.live

abbrev pub at_tick : KernelState → Live → ℕ → KernelState
at_tick k live tick = record k { live = live; tick = tick }
