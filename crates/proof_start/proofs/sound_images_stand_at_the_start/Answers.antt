use Rattle.image_pack.proofs.PartsKeep.{parts_keep}
use Rattle.proof_start.proofs.ContentBytes.{contents_small}
use Rattle.proof_start.proofs.Fixes.{fixed_of}
use Rattle.proof_start.proofs.Starts.{start_stands}
use Rattle.proof_start.proofs.sound_images_stand_at_the_start.Goals as goal

pub returns : goal.returns
returns c = λ p files i sound. let keeps = parts_keep i sound.parts in start_stands p files i keeps sound (contents_small i keeps) (fixed_of p files i keeps sound)
