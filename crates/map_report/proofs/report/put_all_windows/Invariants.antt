use Rattle.std.proofs.Common.{take}
use Rattle.std.specs.List.{enumerate_from, flat_map}
use Rattle.muen_outside.specs.Prints.{Printed}
use Rattle.map_report.specs.ByNumber.{granted_lines, windows_at}
use Rattle.map_report.proofs.report.put_all_windows.Given as goal

abbrev pub invariant-loop-index : goal.invariant-loop-index
invariant-loop-index g l =
    Printed g.S.Sink.state (flat_map (λ x. granted_lines l.policy x.1.name (windows_at l.grants x.0)) (take l.index (enumerate_from 0 l.subjects))) l.initial.out l.out
