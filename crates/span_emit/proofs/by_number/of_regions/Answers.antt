use Rattle.std.proofs.Common.{◌≡◌, length, rules}
use Rattle.std.proofs.lemmas.Slice.Zip.{either_empty_from_Zip}
use Rattle.span_emit.specs.Spans.{region_spans}
use Rattle.span_emit.proofs.InTurn.{region_made, regions_last}
use Rattle.span_emit.proofs.by_number.of_regions.Goals as goal

pub loop-region-preserved : goal.loop-region-preserved
loop-region-preserved c =
    let many : c.len-number.result ≡ length c.loop-region.spans.items = search rules in
    region_made (region_spans c.args.regions.now c.args.addresses.now) _ _ c.loop-region.spans.items c.loop-region.invariant
    c.in-Some.region.now _ c.in-Some.ensures.steps.0
    c.in-Some.address.now _ c.len-number.result c.region_span.result c.push.new.self.items
    c.in-Some.ensures.steps.1 many c.region_span.ensures.span c.region_span.ensures.named c.in_ok-push.ensures.items

pub returns-clause-spans : goal.returns-clause-spans
returns-clause-spans c =
    regions_last (region_spans c.args.regions.now c.args.addresses.now) _ _ c.loop-region.spans.items c.loop-region.invariant
    (either_empty_from_Zip c.loop-region.region-iterator c.next.new.self c.next.result c.in-None.is c.next.ensures.steps)
