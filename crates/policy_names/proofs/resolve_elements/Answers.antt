use Rattle.std.proofs.Common.{arith}
use Rattle.policy_names.proofs.Resolved.{in_turn, whole}
use Rattle.policy_names.proofs.resolve_elements.Goals as goal

pub returns : goal.returns
returns c = (
  grind (arith, in_turn),
  whole _ _ _ _ (rw c.items.ensures at c.in_ok-subjects.ensures.1) (rw c.items-2.ensures at c.in_ok-groups.ensures.1) (rw c.items-3.ensures at c.in_ok-major_frames.ensures.1),
)
