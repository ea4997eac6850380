-- How the program tells that a policy, an image, a device record or tables are refused.
use Rattle.std.specs.Prelude.{ℕ, List, codes}
use Rattle.command_shell.specs.Errors.{Telling}
use Rattle.command_shell.specs.Forms.{usage_text}
use Rattle.command_shell.specs.declared.status.Status.{Status}
use Rattle.command_shell.specs.declared.status.Status.TheVariants.{FileMissing, NoMemory, Own}
use Rattle.dma_tables.specs.DmaFaultText.{dma_fault_text}
use Rattle.image_pack.specs.FaultText.{image_fault_text}
use Rattle.image_verify.specs.FaultText.{fault_text}
use Rattle.policy_lawful.specs.Refusals.{refusal_text as policy_refusal_text}
use Rattle.policy_lawful.specs.refusal.Refusal.{Refusal as PolicyRefusal}
use Rattle.policy_lawful.specs.refusal.Refusal.TheVariants.{NotJson, Shape, Rule, Missing as MissingFile, TooLong as TooLongFile, FileFit, NoRoom, NoMemory as NoMemoryFor}
use Rattle.record_text.specs.FaultTexts.{record_fault_text}
use Rattle.dma_top.specs.Commands.{forms}
use Rattle.dma_top.specs.FaultTexts.{unfit_text}
use Rattle.dma_top.specs.declared.refusal.Refusal.{Refusal}
use Rattle.dma_top.specs.declared.refusal.Refusal.TheVariants.{Policy, Image, Record, Tables, Unsound, Unfit}
use Rattle.dma_top.specs.declared.status.DmaStatus.{DmaStatus}
use Rattle.dma_top.specs.declared.status.DmaStatus.TheVariants.{PolicyRefused, ImageRefused, RecordRefused, NotSound, TablesRefused}

abbrev pub refusal_text : Refusal → List ℕ
refusal_text (Policy refusal) = policy_refusal_text refusal
refusal_text (Image fault) = image_fault_text fault
refusal_text (Record fault) = record_fault_text fault
refusal_text (Tables fault) = dma_fault_text fault
refusal_text (Unsound fault) = fault_text fault
refusal_text (Unfit fault) = unfit_text fault

-- a content's file that isn't there, or is too long, has the status of such a file
abbrev pub policy_status : PolicyRefusal → Status DmaStatus
policy_status NotJson = Own PolicyRefused
policy_status (Shape place want) = Own PolicyRefused
policy_status (Rule number first second) = Own PolicyRefused
policy_status (MissingFile file) = FileMissing
policy_status (TooLongFile file length) = FileMissing
policy_status (FileFit region room length) = Own PolicyRefused
policy_status (NoRoom region size) = Own PolicyRefused
policy_status NoMemoryFor = NoMemory

abbrev pub refusal_status : Refusal → Status DmaStatus
refusal_status (Policy refusal) = policy_status refusal
refusal_status (Image fault) = Own ImageRefused
refusal_status (Record fault) = Own RecordRefused
refusal_status (Tables fault) = Own TablesRefused
refusal_status (Unsound fault) = Own NotSound
refusal_status (Unfit fault) = Own NotSound

-- the program's name, its forms, and its own reasons
abbrev pub devices : Telling Refusal DmaStatus
devices = record { name = codes "muen_dma"; usage = usage_text forms; text = refusal_text; status = refusal_status }
