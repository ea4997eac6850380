use Rattle.policy_lint.proofs.All.{first_refuses}
use Rattle.policy_lint.proofs.first_refuses.Goals as goal

pub returns : goal.returns
returns c = first_refuses
