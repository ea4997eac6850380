use Rattle.std.proofs.Common.{take}
use Rattle.std.specs.Prelude.{codes, slice_index}
use Rattle.std.specs.List.{enumerate_from, flat_map}
use Rattle.muen_outside.specs.Prints.{Printed}
use Rattle.map_report.specs.MapText.{region_line}
use Rattle.map_report.proofs.report.put_regions.Given as goal

abbrev pub invariant-loop-number : goal.invariant-loop-number
invariant-loop-number g l =
    Printed g.S.Sink.state (flat_map (λ x. region_line (codes "region") (slice_index l.addresses x.0) x.1.size x.1.tag) (take l.number (enumerate_from 0 l.regions))) l.initial.out l.out
