-- A sound image runs as its policy's system, and a record may name of it what it may name of the policy.
use Rattle.std.proofs.Common.{◌∙◌, refl}
use Rattle.image_soundness.proofs.SoundFacts.{bench_is}
use Rattle.image_pack.proofs.PartsKeep.{parts_keep}
use Rattle.proof_start.proofs.ContentBytes.{contents_small}
use Rattle.proof_runs.proofs.SameBench.{same_bench}
use Rattle.proof_runs.proofs.Traces.{traces_are}
use Rattle.proof_runs.specs.Laws.{NoTablesFitWithoutDomains, SoundImagesHaveTheirDevices, SoundImagesRunAsTheirSystems}

pub image_runs : SoundImagesRunAsTheirSystems
image_runs p files i tables text r sound fit named = let keeps = parts_keep i sound.parts in traces_are p files i tables text r keeps sound (contents_small i keeps) fit named

pub image_bench_is : SoundImagesHaveTheirDevices
image_bench_is p files i sound = same_bench i (parts_keep i sound.parts) ∙ bench_is p files i sound

-- without domains no device reaches memory by itself
pub none_fit : NoTablesFitWithoutDomains
none_fit p i none k d l addr = rw none refl
