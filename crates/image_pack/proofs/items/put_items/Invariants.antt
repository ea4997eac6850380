use Rattle.std.proofs.Common.{◌≡◌, ◌++◌, take}
use Rattle.binary_form.specs.Form.{spells}
use Rattle.image_pack.proofs.items.put_items.Given as goal

abbrev pub invariant-loop-item : goal.invariant-loop-item
invariant-loop-item g l =
    (a : g.row.T-Among.Denot) (b : g.row.T-Before.Denot) → l.out.items ≡ l.fn.out.items ++ spells (g.T.Item.next a) (λ d. (g.T.Item.form a d).spell) b (take l.item-index l.list)
