use Rattle.proof_views.proofs.LastViews.{thing_left}
use Rattle.proof_views.proofs.digests_are_fixed_by_last_views.Goals as goal

pub returns : goal.returns
returns c = λ p files r s x n lawful ends shown none. thing_left p files r n lawful s x ends shown none
