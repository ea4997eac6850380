use Rattle.std.proofs.Common.{◌∙◌, ap, subst, [], ◌∷◌, ◌++◌}
use Rattle.image_pack.specs.Form.{IsBytes}
use Rattle.image_emit.proofs.Takes.{one_taken}
use Rattle.image_emit.proofs.span_bytes.contents.Goals as goal

pub loop-span-preserved : goal.loop-span-preserved
loop-span-preserved c =
    one_taken c.args.spans.now c.loop-span.span-index c.span-item.result c.args.bytes.items c.loop-span.bytes.items c.loop-span.held _ _ c.requires c.loop-span-test.true c.span-item.is c.loop-span.invariant c.take.ensures.rest
    (c.in_ok-push.ensures.ok ∙ ap (λ y. c.loop-span.held ++ y ∷ []) (c.of.ensures ∙ c.take.ensures.taken)) (subst IsBytes c.take.ensures.taken c.take.ensures.all_bytes)
