use Rattle.std.proofs.Common.{take}
use Rattle.std.specs.List.{flat_map}
use Rattle.muen_outside.specs.Prints.{Printed}
use Rattle.map_report.specs.ByNumber.{granted_line}
use Rattle.map_report.proofs.report.put_windows.Given as goal

abbrev pub invariant-loop-window : goal.invariant-loop-window
invariant-loop-window g l =
    Printed g.S.Sink.state (flat_map (granted_line l.policy l.subject) (take l.window-index l.windows)) l.initial.out l.out
