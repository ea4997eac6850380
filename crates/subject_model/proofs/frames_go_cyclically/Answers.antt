use Rattle.subject_model.proofs.CyclicFrames.{slots_cyclic}
use Rattle.subject_model.proofs.frames_go_cyclically.Goals as goal

pub returns : goal.returns
returns c = slots_cyclic
