use Rattle.subject_model.proofs.SystemLaws.{stopped_idle}
use Rattle.subject_model.proofs.stopped_does_nothing.Goals as goal

pub returns : goal.returns
returns c = stopped_idle
