use Rattle.proof_views.proofs.StatePages.{pages_stay}
use Rattle.proof_views.proofs.state_pages_are_their_subjects.Goals as goal

pub returns : goal.returns
returns c = pages_stay
