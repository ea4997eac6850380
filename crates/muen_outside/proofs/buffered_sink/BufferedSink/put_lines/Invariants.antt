use Rattle.std.proofs.Common.{take}
use Rattle.std.specs.List.{flat_map}
use Rattle.muen_outside.specs.Prints.{Printed}
use Rattle.muen_outside.proofs.buffered_sink.BufferedSink.put_lines.Given as goal

abbrev pub invariant-loop-line : goal.invariant-loop-line
invariant-loop-line g l =
    Printed g.S.Sink.state (flat_map g.L.PrintedLine.text (take l.line-index l.lines)) l.fn.self l.self
