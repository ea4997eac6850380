use Rattle.std.proofs.Common.{take}
use Rattle.std.specs.List.{flat_map}
use Rattle.muen_outside.specs.Prints.{Printed}
use Rattle.map_report.specs.ByNumber.{memory_line}
use Rattle.map_report.proofs.report.put_devices.Given as goal

abbrev pub invariant-loop-thing : goal.invariant-loop-thing
invariant-loop-thing g l =
    Printed g.S.Sink.state (flat_map memory_line (take l.thing-index l.things)) l.initial.out l.out
