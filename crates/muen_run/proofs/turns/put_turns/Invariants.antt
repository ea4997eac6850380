use Rattle.std.proofs.Common.{◌≡◌, take}
use Rattle.std.specs.List.{flat_map}
use Rattle.muen_outside.specs.Prints.{Printed}
use Rattle.view_text.specs.ViewText.{turn_text}
use Rattle.kernel_core.specs.Ticks.{with_live}
use Rattle.muen_run.specs.Turns.{order_of, turns_in}
use Rattle.muen_run.proofs.turns.put_turns.Given as goal

abbrev pub invariant-loop-index : goal.invariant-loop-index
invariant-loop-index g l = record {
  state : l.kernel ≡ with_live l.fn.kernel (turns_in l.fn.kernel (take l.index (order_of l.fn.kernel))).state;
  text : Printed g.S.Sink.state (flat_map turn_text (turns_in l.fn.kernel (take l.index (order_of l.fn.kernel))).lines) l.fn.out l.out;
}
