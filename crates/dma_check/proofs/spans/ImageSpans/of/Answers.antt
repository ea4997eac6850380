use Rattle.std.proofs.Common.{All, sym, ap, subst, ◌∙◌}
use Rattle.image_pack.proofs.PartsKeep.{parts_keep}
use Rattle.image_pack.specs.SpanConditions.{IsSpan}
use Rattle.image_pack.specs.declared.parts.Image.{Image}
use Rattle.dma_check.proofs.spans.ImageSpans.of.Goals as goal

pub invariant_of-result : goal.invariant_of-result
invariant_of-result c =
    subst (All IsSpan) (sym (c.of.ensures ∙ c.in_ok-spans.ensures ∙ c.items.ensures ∙ ap (λ (i : Image). i.spans) c.image.ensures.same)) (parts_keep c.args.image.now c.image.ensures.parts).spans.each
