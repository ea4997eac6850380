use Rattle.proof_build.proofs.Sound.{is_sound}
use Rattle.proof_build.proofs.images_of_policies_are_sound.Goals as goal

pub returns : goal.returns
returns c = λ x things i files emitted e held. is_sound x things i emitted files e held
