use Rattle.subject_model.proofs.SystemLaws.{halted_idle}
use Rattle.subject_model.proofs.halted_waits.Goals as goal

pub returns : goal.returns
returns c = halted_idle
