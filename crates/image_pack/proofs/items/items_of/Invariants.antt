use Rattle.std.proofs.Common.{◌≡◌, ◌-◌}
use Rattle.binary_form.specs.Form.{items_at}
use Rattle.binary_form.proofs.Loops.{with_front}
use Rattle.image_pack.proofs.items.items_of.Given as goal

abbrev pub invariant-loop-i : goal.invariant-loop-i
invariant-loop-i g l =
    with_front l.list (items_at (g.T.Item.next l.among) (λ d. (g.T.Item.form l.among d).read) l.left (l.count - l.i) l.rest) ≡ items_at (g.T.Item.next l.among) (λ d. (g.T.Item.form l.among d).read) l.fn.before l.count l.bytes
