use Rattle.proof_views.proofs.LastViews.{last_view}
use Rattle.proof_views.proofs.last_views_are_the_end.Goals as goal

pub returns : goal.returns
returns c = last_view
