use Rattle.std.proofs.Common.{take}
use Rattle.std.specs.List.{enumerate_from, flat_map}
use Rattle.muen_outside.specs.Prints.{Printed}
use Rattle.flow_report.specs.TextByIndex.{flow_line_at}
use Rattle.flow_report.proofs.text.put_lines.Given as goal

abbrev pub invariant-loop-index : goal.invariant-loop-index
invariant-loop-index g l = Printed g.S.Sink.state (flat_map (flow_line_at l.subjects l.sets) (enumerate_from 0 (take l.index l.subjects))) l.initial.out l.out
