use Rattle.proof_isolation.proofs.TwoSystems.{same_views}
use Rattle.proof_isolation.proofs.members_see_the_same.Goals as goal

pub returns : goal.returns
returns c = same_views
