use Rattle.std.proofs.Common.{◌≡◌}
use Rattle.std.specs.List.{flat_map}
use Rattle.muen_outside.specs.Prints.{Printed}
use Rattle.view_text.specs.ViewText.{turn_text}
use Rattle.muen_run.specs.Turns.{at_tick, ticks_in}
use Rattle.muen_run.proofs.turns.put_ticks.Given as goal

abbrev pub invariant-loop-tick : goal.invariant-loop-tick
invariant-loop-tick g l = record {
  state : l.kernel ≡ at_tick l.fn.kernel (ticks_in l.fn.kernel l._tick).state l._tick;
  text : Printed g.S.Sink.state (flat_map turn_text (ticks_in l.fn.kernel l._tick).lines) l.fn.out l.out;
}
