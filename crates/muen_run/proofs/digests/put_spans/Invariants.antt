use Rattle.std.specs.List.{flat_map}
use Rattle.muen_num.specs.Range.{numbers_below}
use Rattle.muen_outside.specs.Prints.{Printed}
use Rattle.muen_run.specs.RunText.{numbered_span_text}
use Rattle.muen_run.proofs.digests.put_spans.Given as goal

abbrev pub invariant-loop-n : goal.invariant-loop-n
invariant-loop-n g l =
    Printed g.S.Sink.state (flat_map (numbered_span_text l.device l.spans (g.M.PhysMem.pages l.mem)) (numbers_below l.n)) l.initial.out l.out
