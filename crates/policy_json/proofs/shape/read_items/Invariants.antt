use Rattle.std.proofs.Common.{◌≡◌, drop}
use Rattle.serde_json.specs.View.{items_view}
use Rattle.policy_json.specs.Values.{read_items}
use Rattle.policy_json.proofs.ItemsRead.{with_front}
use Rattle.policy_json.proofs.shape.read_items.Given as goal

abbrev pub invariant-loop-i : goal.invariant-loop-i
invariant-loop-i g l =
    with_front l.list (read_items g.T.Shape.reads l.i (items_view (drop l.i l.items))) ≡ read_items g.T.Shape.reads 0 (items_view l.items)
