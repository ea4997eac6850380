-- What is known while the regions are gone through.
use Rattle.span_emit.specs.Spans.{region_spans}
use Rattle.span_emit.proofs.InTurn.{Regions}
use Rattle.span_emit.proofs.by_number.of_regions.Given as goal

abbrev pub invariant-loop-region : goal.invariant-loop-region
invariant-loop-region l = Regions (region_spans l.regions l.addresses) l.region-iterator.a.rest.now l.region-iterator.b.rest.now l.spans.items
