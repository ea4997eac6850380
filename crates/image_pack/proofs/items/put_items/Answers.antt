use Rattle.binary_form.specs.Form.{items}
use Rattle.binary_form.proofs.Puts.{fits_at, put_more, put_none, put_all}
use Rattle.image_pack.proofs.items.put_items.Goals as goal

pub loop-item-init : goal.loop-item-init
loop-item-init g c = λ a. put_none (g.T.Item.next a) (λ d. (g.T.Item.form a d).spell) c.args.out.now.items

pub put-requires : goal.put-requires
unfolding items
put-requires g c =
    let a = c.requires.0 in
    let h = fits_at (g.T.Item.next a) (λ d. (g.T.Item.form a d).fits) c.requires.1 c.args.list.now c.loop-item.item-index c.item-item.result c.loop-item-test.true c.item-item.is c.requires.3.1 in
    (a, h.0, h.1)

pub loop-item-preserved : goal.loop-item-preserved
loop-item-preserved g c = λ a.
    put_more (g.T.Item.next a) (λ d. (g.T.Item.form a d).spell) c.args.out.now.items c.loop-item.out.items c.put.new.out.items c.args.list.now c.loop-item.item-index c.item-item.result c.loop-item-test.true c.item-item.is (c.loop-item.invariant a) (c.in_ok-put.ensures a)

pub returns : goal.returns
unfolding items
returns g c = λ a b n. put_all (g.T.Item.next a) (λ d. (g.T.Item.form a d).spell) c.args.out.now.items c.loop-item.out.items c.args.list.now c.loop-item.item-index c.loop-item-test.false (c.loop-item.invariant a) b
