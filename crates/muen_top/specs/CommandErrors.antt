-- The error that a refusal, or the fault of an image, of tables or of a record, makes.
use Rattle.std.specs.Prelude.{if◌then◌else◌}
use Rattle.policy_lawful.specs.Refusals.{is_no_memory}
use Rattle.policy_lawful.specs.refusal.Refusal.{Refusal}
use Rattle.muen_build.specs.declared.accepted.BuildError.{BuildError}
use Rattle.muen_build.specs.declared.accepted.BuildError.TheVariants.{Refused as RefusedPolicy, FileFault as FaultOfFiles}
use Rattle.image_pack.specs.fault.ImageFault.{ImageFault}
use Rattle.image_pack.specs.fault.ImageFault.TheVariants.{NoMemory as NoMemoryForImage}
use Rattle.record_text.specs.declared.fault.RecordFault.{RecordFault}
use Rattle.record_text.specs.declared.fault.RecordFault.TheVariants.{NoMemory as NoMemoryForRecord}
use Rattle.muen_top.specs.declared.outcome.CommandError.{CommandError}
use Rattle.muen_top.specs.declared.outcome.CommandError.TheVariants.{Refused, ImageRefused, DmaRefused, RecordRefused, FileFault, NoMemory}

abbrev pub error_of_refusal : Refusal → CommandError
error_of_refusal refusal = if is_no_memory refusal then NoMemory else Refused refusal

abbrev pub error_of_build : BuildError → CommandError
error_of_build (RefusedPolicy refusal) = error_of_refusal refusal
error_of_build FaultOfFiles = FileFault

abbrev pub error_of_image_fault : ImageFault → CommandError
error_of_image_fault NoMemoryForImage = NoMemory
error_of_image_fault fault = ImageRefused fault

-- .. of the bytes of tables, which have such faults too
abbrev pub error_of_dma_fault : ImageFault → CommandError
error_of_dma_fault NoMemoryForImage = NoMemory
error_of_dma_fault fault = DmaRefused fault

abbrev pub error_of_record_fault : RecordFault → CommandError
error_of_record_fault NoMemoryForRecord = NoMemory
error_of_record_fault fault = RecordRefused fault
