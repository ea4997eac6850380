use Rattle.proof_views.proofs.AloneViews.{views_alone}
use Rattle.proof_views.proofs.views_are_those_of_subjects_alone.Goals as goal

pub returns : goal.returns
returns c = views_alone
