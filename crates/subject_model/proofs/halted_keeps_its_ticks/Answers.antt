use Rattle.subject_model.proofs.KeptTicks.{halted_keeps}
use Rattle.subject_model.proofs.halted_keeps_its_ticks.Goals as goal

pub returns : goal.returns
returns c = halted_keeps
