-- The line that tells how a call ended, and its status (this project's own).
use Rattle.std.specs.Prelude.{◌≡◌, ℕ, List, ◌++◌, ◌⊎◌, Some, None, codes, decimal}
use Rattle.muen_outside.specs.States.{SinkState}
use Rattle.muen_outside.specs.Puts.{Appended, Failed}
use Rattle.image_pack.specs.FaultText.{image_fault_text}
use Rattle.dma_tables.specs.DmaFaultText.{dma_fault_text}
use Rattle.image_verify.specs.FaultText.{fault_text}
use Rattle.image_verify.specs.declared.fault.Fault.{Fault}
use Rattle.policy_lawful.specs.Refusals.{refusal_text}
use Rattle.policy_lawful.specs.refusal.Refusal.{Refusal}
use Rattle.policy_lawful.specs.refusal.Refusal.TheVariants.{NotJson, Shape, Rule, Missing as MissingFile, TooLong as TooLongFile, FileFit, NoRoom, NoMemory as NoMemoryFor}
use Rattle.muen_top.specs.Answers.{Reason, usage, missing, too_long, refused, image_refused, dma_refused, record_refused, Answer, prints, writes, judges, stops}
use Rattle.record_text.specs.FaultTexts.{record_fault_text}
use Rattle.muen_top.specs.Verdicts.{HasVerdict}
use Rattle.muen_top.specs.declared.outcome.Outcome.{Outcome}
use Rattle.muen_top.specs.declared.outcome.Outcome.TheVariants.{Done, Stopped, OutputFault}
use Rattle.muen_top.specs.declared.outcome.CommandError.{CommandError}
use Rattle.muen_top.specs.declared.outcome.CommandError.TheVariants.{Usage, Missing, TooLong, Refused, ImageRefused, DmaRefused, RecordRefused, NotSound, FileFault, NoMemory}
use Rattle.muen_top.specs.declared.status.Status.{Status}
use Rattle.muen_top.specs.declared.status.Status.TheVariants as statuses

-- ---- texts

unfoldable pub usage_text : List ℕ
usage_text = codes "usage: build POLICY IMAGE, run IMAGE RECORD, boot POLICY RECORD, map POLICY, flows POLICY, load NUMBER, verify IMAGE POLICY, build POLICY IMAGE DMA, run IMAGE RECORD DMA"

abbrev pub missing_text : List ℕ → List ℕ
missing_text name = codes "missing file " ++ name

abbrev pub too_long_text : List ℕ → ℕ → List ℕ
too_long_text name n = codes "file " ++ (name ++ (codes " has " ++ (decimal n ++ codes " bytes")))

-- what is printed of an image without a fault
abbrev pub sound_text : List ℕ
sound_text = codes "sound\n"

abbrev pub reason_text : Reason → List ℕ
reason_text usage = usage_text
reason_text (missing name) = missing_text name
reason_text (too_long name n) = too_long_text name n
reason_text (refused refusal) = refusal_text refusal
reason_text (image_refused fault) = image_fault_text fault
reason_text (dma_refused fault) = dma_fault_text fault
reason_text (record_refused fault) = record_fault_text fault

-- ---- statuses

abbrev pub refusal_status : Refusal → Status
refusal_status NotJson = statuses.PolicyRefused
refusal_status (Shape place want) = statuses.PolicyRefused
refusal_status (Rule number first second) = statuses.PolicyRefused
refusal_status (MissingFile file) = statuses.FileMissing
refusal_status (TooLongFile file length) = statuses.FileMissing
refusal_status (FileFit region room length) = statuses.PolicyRefused
refusal_status (NoRoom region size) = statuses.PolicyRefused
refusal_status NoMemoryFor = statuses.NoMemory

abbrev pub reason_status : Reason → Status
reason_status usage = statuses.Usage
reason_status (missing name) = statuses.FileMissing
reason_status (too_long name n) = statuses.FileMissing
reason_status (refused refusal) = refusal_status refusal
reason_status (image_refused fault) = statuses.ImageRefused
reason_status (dma_refused fault) = statuses.DmaRefused
reason_status (record_refused fault) = statuses.RecordRefused

-- ---- how a call has ended

-- the line that is put on the error sink
abbrev pub error_line : List ℕ → List ℕ
error_line text = codes "muen: " ++ (text ++ codes "\n")

-- the line was appended, or a front of it where the sink has failed
abbrev pub Told : List ℕ → SinkState → SinkState → Type 0
Told text old new = Appended (error_line text) old new ⊎ Failed (error_line text) old new

-- a call that answers so has this status, and tells its reason, if there is one
abbrev pub Ends : Answer → SinkState → SinkState → Status → Type 0
Ends (prints text) err err' status = (status ≡ statuses.Done) × (err' ≡ err)
Ends (writes image tables p files) err err' status = (status ≡ statuses.Done) × (err' ≡ err)
Ends (judges p files bytes i) err err' status =
    (HasVerdict p files bytes i None × (status ≡ statuses.Done) × (err' ≡ err))
    ⊎ ((fault : Fault) × HasVerdict p files bytes i (Some fault) × (status ≡ statuses.NotSound) × Told (fault_text fault) err err')
Ends (stops reason) err err' status = (status ≡ reason_status reason) × Told (reason_text reason) err err'

-- ---- of the outcome of a command

abbrev pub error_text : CommandError → List ℕ
error_text Usage = usage_text
error_text (Missing name) = missing_text name.now
error_text (TooLong name n) = too_long_text name.now n
error_text (Refused refusal) = refusal_text refusal
error_text (ImageRefused fault) = image_fault_text fault
error_text (DmaRefused fault) = dma_fault_text fault
error_text (RecordRefused fault) = record_fault_text fault
error_text (NotSound fault) = fault_text fault
error_text FileFault = codes "file fault"
error_text NoMemory = codes "out of memory"

abbrev pub error_status : CommandError → Status
error_status Usage = statuses.Usage
error_status (Missing name) = statuses.FileMissing
error_status (TooLong name n) = statuses.FileMissing
error_status (Refused refusal) = refusal_status refusal
error_status (ImageRefused fault) = statuses.ImageRefused
error_status (DmaRefused fault) = statuses.DmaRefused
error_status (RecordRefused fault) = statuses.RecordRefused
error_status (NotSound fault) = statuses.NotSound
error_status FileFault = statuses.FileFault
error_status NoMemory = statuses.NoMemory

abbrev pub status_of : Outcome → Status
status_of Done = statuses.Done
status_of (Stopped error) = error_status error
status_of OutputFault = statuses.OutputFault

abbrev pub Reported : SinkState → SinkState → Outcome → Type 0
Reported old new Done = new ≡ old
Reported old new (Stopped error) = Told (error_text error) old new
Reported old new OutputFault = Told (codes "output fault") old new

-- .. an outcome of this status
abbrev pub IsReported : SinkState → SinkState → Status → Type 0
IsReported old new status = (outcome : Outcome) × (status ≡ status_of outcome) × Reported old new outcome
