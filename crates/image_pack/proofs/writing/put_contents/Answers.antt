use Rattle.binary_form.specs.Form.{fixed_bytes, each}
use Rattle.binary_form.proofs.Loops.{each_put, each_put_all, each_length}
use Rattle.image_pack.specs.Image.{content}
use Rattle.image_pack.proofs.writing.put_contents.Goals as goal

pub loop-content-preserved : goal.loop-content-preserved
unfolding each content fixed_bytes
loop-content-preserved c =
    each_put (λ r. (content r).spell) c.args.spans.now c.args.list.now c.loop-content.content-index c.content-item.result c.loop-content.out.items c.put_bytes.new.out.items _
    (each_length (λ r. (content r).fits) c.args.spans.now c.args.list.now c.requires) c.loop-content-test.true c.content-item.is
    (λ r. rw c.items.ensures at (c.in_ok-put_bytes.ensures r.pages)) c.loop-content.invariant

pub returns : goal.returns
unfolding each
returns c =
    each_put_all (λ r. (content r).spell) c.args.spans.now c.args.list.now c.loop-content.content-index c.loop-content.out.items _
    (each_length (λ r. (content r).fits) c.args.spans.now c.args.list.now c.requires) c.loop-content-test.false c.loop-content.invariant
