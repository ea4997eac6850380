-- The laws: what is printed of a sound image's run.
use Rattle.std.specs.Prelude.{◌≡◌, ℕ, [], List, None, Ok, Option}
use Rattle.dma_tables.specs.declared.file.DmaFile.{DmaFile}
use Rattle.image_load.specs.Resolving.{image_bench, image_record}
use Rattle.image_pack.specs.declared.parts.Image.{Image}
use Rattle.image_soundness.specs.Bench.{devices_of}
use Rattle.image_soundness.specs.Sound.{IsSound}
use Rattle.muen_run.specs.RunText.{run_text}
use Rattle.policy_lawful.specs.Contents.{Held}
use Rattle.policy_lawful.specs.source.Source.{Source}
use Rattle.record_text.specs.DeviceRecord.{DeviceRecord}
use Rattle.record_text.specs.Reading.{record_of}
use Rattle.subject_model.specs.Trace.{trace_of}
use Rattle.proof_runs.specs.Fit.{Fit}

-- its text is that of the abstract system's run, on every device record of the policy's devices and with tables that fit
abbrev pub SoundImagesRunAsTheirSystems : Type 0
SoundImagesRunAsTheirSystems =
    (p : Source) (files : Held) (i : Image) (tables : Option DmaFile) (text : List ℕ) (r : DeviceRecord) → IsSound p files i
    → Fit p i tables → record_of text (devices_of p) ≡ Ok r → run_text tables i (image_record i r) ≡ trace_of p files r

-- a record may name of the image what it may name of the policy
abbrev pub SoundImagesHaveTheirDevices : Type 0
SoundImagesHaveTheirDevices = (p : Source) (files : Held) (i : Image) → IsSound p files i → image_bench i ≡ devices_of p

-- where a policy has no domains of devices, no tables are wanted
abbrev pub NoTablesFitWithoutDomains : Type 0
NoTablesFitWithoutDomains = (p : Source) (i : Image) → p.device_domains ≡ [] → Fit p i None
