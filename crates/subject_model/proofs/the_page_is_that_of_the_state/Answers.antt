use Rattle.subject_model.proofs.SystemLaws.{page_after}
use Rattle.subject_model.proofs.the_page_is_that_of_the_state.Goals as goal

pub returns : goal.returns
returns c = page_after
