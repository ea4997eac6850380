use Rattle.proof_witnesses.proofs.SmallConditions.{is_image}
use Rattle.proof_witnesses.proofs.SmallSound.{one_path, sound}
use Rattle.proof_witnesses.proofs.a_small_image_is_sound.Goals as goal

pub returns : goal.returns
returns c = record { image = is_image; sound = sound; paths = one_path }
