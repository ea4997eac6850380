use Rattle.std.proofs.Common.{◌≡◌, length, arith, rules}
use Rattle.phys_mem.proofs.Rising.{span_small, spans_after, spans_turn, spans_done}
use Rattle.phys_mem.proofs.frames.add_spans.Goals as goal

pub add_pages-requires-clause-small : goal.add_pages-requires-clause-small
add_pages-requires-clause-small c =
    span_small _ _ c.in-Some.span c.items.result.now c.loop-span.invariant.spans c.in-Some.ensures.steps.0 c.items.ensures

pub loop-span-preserved : goal.loop-span-preserved
loop-span-preserved c =
    record {
      pages = spans_turn _ _ _ _ _ c.in-Some.span c.items.result.now c.loop-span.invariant.pages c.in-Some.ensures.steps.0 c.in_ok-add_pages.ensures.pages c.items.ensures;
      spans = spans_after _ _ c.in-Some.span c.loop-span.invariant.spans c.in-Some.ensures.steps.0;
      paired = search rules;
    }

pub returns-clause-pages : goal.returns-clause-pages
returns-clause-pages c =
    let none : length c.loop-span.span-iterator.rest.items ≡ 0 = omega (arith, c.loop-span.span-iterator.rest.ok.0, c.in-None.ensures.steps.0) in
    spans_done _ _ _ c.loop-span.invariant.pages none
