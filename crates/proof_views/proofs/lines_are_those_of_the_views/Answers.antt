use Rattle.proof_views.proofs.LinesOfViews.{lines_of_views}
use Rattle.proof_views.proofs.lines_are_those_of_the_views.Goals as goal

pub returns : goal.returns
returns c = lines_of_views
