use Rattle.std.proofs.Common.{◌≡◌, ◌+◌, ◌∷◌, ◌++◌, [], ap, ◌∙◌, refl, arith}
use Rattle.dma_emit.specs.Layout.{tables_page}
use Rattle.dma_emit.proofs.Layouts.{pages_next, pages_step}
use Rattle.dma_emit.proofs.Lists.{map_step}
use Rattle.dma_emit.proofs.layout.tables_pages.Goals as goal

pub overflow_add-next-in-loop-number : goal.overflow_add-next-in-loop-number
overflow_add-next-in-loop-number c =
    let more = pages_next c.args.domains.now c.loop-number.number (omega arith) in
    let few = c.requires.pages in
    omega (arith, c.in_ok-next.ensures, c.loop-number.invariant.next)

pub loop-number-preserved : goal.loop-number-preserved
loop-number-preserved c =
    let d = c.args.domains.now in
    let n = c.loop-number.number in
    let step = pages_step d n in
    let next : c.loop-number.next + c.in_ok-next.field-0 ≡ tables_page d (n + 1) = omega (arith, c.in_ok-next.ensures, c.loop-number.invariant.next) in
    record {
      next = next;
      pages = map_step (tables_page d) (n + 1) (n + 1 + 1) c.loop-number.pages.items _ refl c.loop-number.invariant.pages (c.in_ok-push-2.ensures.items ∙ ap (λ p. c.loop-number.pages.items ++ p ∷ []) next);
    }
