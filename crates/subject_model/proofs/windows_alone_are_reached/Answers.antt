use Rattle.subject_model.proofs.SystemLaws.{window_alone}
use Rattle.subject_model.proofs.windows_alone_are_reached.Goals as goal

pub returns : goal.returns
returns c = window_alone
