use Rattle.std.proofs.lemmas.Result.{err_from_is_err_and}
use Rattle.binary_form.specs.Form.{items}
use Rattle.binary_form.proofs.Loops.{goes_on, ends, is_done}
use Rattle.image_pack.proofs.items.items_of.Goals as goal

pub returns-in_err-item : goal.returns-in_err-item
unfolding items
returns-in_err-item g c =
    let p = err_from_is_err_and c.from_residual.result c.from_residual.ensures.1 in
    rw (p.1, p.2) (ends (g.T.Item.next c.args.among.now) (λ d. (g.T.Item.form c.args.among.now d).read) c.in_err-item.field-0.0 c.loop-i.list c.loop-i.left c.args.count c.loop-i.i c.loop-i.rest.now _ c.loop-i-test.true c.in_err-item.ensures.gives c.loop-i.invariant)

pub loop-i-preserved : goal.loop-i-preserved
loop-i-preserved g c =
    rw c.in_ok-push.ensures.ok (goes_on (g.T.Item.next c.args.among.now) (λ d. (g.T.Item.form c.args.among.now d).read) c.loop-i.list c.loop-i.left c.read.new.before c.args.count c.loop-i.i c.loop-i.rest.now c.in_ok-item.item c.in_ok-item.after.now _ c.loop-i-test.true c.in_ok-item.ensures.gives c.in_ok-item.ensures.next c.loop-i.invariant)

pub returns : goal.returns
unfolding items
returns g c = is_done (g.T.Item.next c.args.among.now) (λ d. (g.T.Item.form c.args.among.now d).read) c.loop-i.list c.loop-i.left c.args.count c.loop-i.i c.loop-i.rest.now _ c.loop-i-test.false c.loop-i.invariant
