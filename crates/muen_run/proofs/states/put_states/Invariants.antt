use Rattle.std.specs.List.{flat_map}
use Rattle.muen_num.specs.Range.{numbers_below}
use Rattle.muen_outside.specs.Prints.{Printed}
use Rattle.muen_run.specs.RunText.{numbered_subject_text}
use Rattle.muen_run.proofs.states.put_states.Given as goal

abbrev pub invariant-loop-n : goal.invariant-loop-n
invariant-loop-n g l =
    Printed g.S.Sink.state (flat_map (numbered_subject_text l.kernel.setup l.kernel.live.machine.pages) (numbers_below l.n)) l.initial.out l.out
