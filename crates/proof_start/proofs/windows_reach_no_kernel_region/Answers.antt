use Rattle.image_pack.proofs.PartsKeep.{parts_keep}
use Rattle.proof_start.proofs.KernelRegions.{none_reached}
use Rattle.proof_start.proofs.windows_reach_no_kernel_region.Goals as goal

pub returns : goal.returns
returns c = λ p files i sound. none_reached p files i (parts_keep i sound.parts) sound
