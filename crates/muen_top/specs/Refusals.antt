-- What the end of a call tells of a refusal: laws over each answer and how a call ends that is answered so.
use Rattle.std.specs.Prelude.{◌≡◌, Some}
use Rattle.muen_outside.specs.States.{SinkState}
use Rattle.image_verify.specs.FaultText.{fault_text}
use Rattle.image_verify.specs.declared.fault.Fault.{Fault}
use Rattle.muen_top.specs.Answers.{missing, too_long, refused, image_refused, dma_refused, record_refused, Answer, stops}
use Rattle.muen_top.specs.Reports.{Ends, Told, reason_text, refusal_status}
use Rattle.muen_top.specs.Verdicts.{Finds}
use Rattle.muen_top.specs.declared.status.Status.TheVariants as statuses

-- of the answers that print nothing, those on a policy, on a missing or too long file, on an image, on tables, and on a record. A
-- refusal of the policy may be for a file that it names: which of the two it is, its status says
abbrev pub RefusesPolicy : SinkState → SinkState → Answer → Type 0
RefusesPolicy err err' (stops (refused refusal)) = (refusal_status refusal ≡ statuses.PolicyRefused) × Told (reason_text (refused refusal)) err err'
RefusesPolicy err err' _ = ⊥

abbrev pub LacksFile : SinkState → SinkState → Answer → Type 0
LacksFile err err' (stops (missing name)) = Told (reason_text (missing name)) err err'
LacksFile err err' (stops (too_long name n)) = Told (reason_text (too_long name n)) err err'
LacksFile err err' (stops (refused refusal)) = (refusal_status refusal ≡ statuses.FileMissing) × Told (reason_text (refused refusal)) err err'
LacksFile err err' _ = ⊥

abbrev pub RefusesImage : SinkState → SinkState → Answer → Type 0
RefusesImage err err' (stops (image_refused fault)) = Told (reason_text (image_refused fault)) err err'
RefusesImage err err' _ = ⊥

abbrev pub RefusesDma : SinkState → SinkState → Answer → Type 0
RefusesDma err err' (stops (dma_refused fault)) = Told (reason_text (dma_refused fault)) err err'
RefusesDma err err' _ = ⊥

abbrev pub RefusesRecord : SinkState → SinkState → Answer → Type 0
RefusesRecord err err' (stops (record_refused fault)) = Told (reason_text (record_refused fault)) err err'
RefusesRecord err err' _ = ⊥

-- the verdict has this fault
abbrev pub FindsFault : SinkState → SinkState → Answer → Type 0
FindsFault err err' answer = (fault : Fault) × Finds answer (Some fault) × Told (fault_text fault) err err'

-- ---- laws: of a call that is answered so and ends with this status

abbrev pub PolicyRefusedTells : Type 0
PolicyRefusedTells = (answer : Answer) (err err' : SinkState) → Ends answer err err' statuses.PolicyRefused → RefusesPolicy err err' answer

abbrev pub FileMissingTells : Type 0
FileMissingTells = (answer : Answer) (err err' : SinkState) → Ends answer err err' statuses.FileMissing → LacksFile err err' answer

abbrev pub ImageRefusedTells : Type 0
ImageRefusedTells = (answer : Answer) (err err' : SinkState) → Ends answer err err' statuses.ImageRefused → RefusesImage err err' answer

abbrev pub RecordRefusedTells : Type 0
RecordRefusedTells = (answer : Answer) (err err' : SinkState) → Ends answer err err' statuses.RecordRefused → RefusesRecord err err' answer

abbrev pub DmaRefusedTells : Type 0
DmaRefusedTells = (answer : Answer) (err err' : SinkState) → Ends answer err err' statuses.DmaRefused → RefusesDma err err' answer

abbrev pub NotSoundTells : Type 0
NotSoundTells = (answer : Answer) (err err' : SinkState) → Ends answer err err' statuses.NotSound → FindsFault err err' answer
