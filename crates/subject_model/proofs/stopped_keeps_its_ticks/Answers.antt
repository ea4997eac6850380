use Rattle.subject_model.proofs.KeptTicks.{stopped_keeps}
use Rattle.subject_model.proofs.stopped_keeps_its_ticks.Goals as goal

pub returns : goal.returns
returns c = stopped_keeps
