use Rattle.proof_build.proofs.OneImage.{images_are_one}
use Rattle.proof_build.proofs.images_of_policies_are_one.Goals as goal

pub returns : goal.returns
returns c = λ p files i j a b. images_are_one p files i j a b
