use Rattle.std.proofs.lemmas.Result.{err_from_is_err_and}
use Rattle.binary_form.specs.Form.{each}
use Rattle.binary_form.proofs.Loops.{each_goes_on, each_ends, each_done}
use Rattle.image_pack.specs.Image.{content}
use Rattle.image_pack.proofs.reading.whole.contents_of.Goals as goal

pub returns-in_err-content : goal.returns-in_err-content
unfolding each
returns-in_err-content c =
    let p = err_from_is_err_and c.from_residual.result c.from_residual.ensures.1 in
    rw (p.1, p.2) (each_ends (λ r. (content r).read) c.in_err-content.field-0.0 c.loop-span.list c.args.spans.now c.loop-span.span-index c.span-item.result c.loop-span.rest.now _ c.loop-span-test.true c.span-item.is c.in_err-content.ensures c.loop-span.invariant)

pub loop-span-preserved : goal.loop-span-preserved
loop-span-preserved c =
    rw c.in_ok-push.ensures.ok (each_goes_on (λ r. (content r).read) c.loop-span.list c.args.spans.now c.loop-span.span-index c.span-item.result c.loop-span.rest.now c.in_ok-content.content c.in_ok-content.after.now _ c.loop-span-test.true c.span-item.is c.in_ok-content.ensures c.loop-span.invariant)

pub returns : goal.returns
unfolding each
returns c = each_done (λ r. (content r).read) c.loop-span.list c.args.spans.now c.loop-span.span-index c.loop-span.rest.now _ c.loop-span-test.false c.loop-span.invariant
