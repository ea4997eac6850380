use Rattle.proof_witnesses.proofs.SmallSound.{no_fault}
use Rattle.proof_witnesses.proofs.a_small_image_has_no_fault.Goals as goal

pub returns : goal.returns
returns c = no_fault
