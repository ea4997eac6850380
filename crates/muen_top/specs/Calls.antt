-- How a command has ended, and why; and what is promised of a whole call.
use Rattle.std.specs.Prelude.{◌≡◌, ◌⊎◌, ℕ, List, [], Option, Some, None, IfSome, Ok, Err}
use Rattle.muen_outside.specs.Looks.{AreSingle, EndsInFault, HeldAfter, ShowAll, looks_since, writes_since}
use Rattle.muen_outside.specs.Puts.{Appended, Failed}
use Rattle.muen_outside.specs.States.{History, Look, SinkState, Write, went}
use Rattle.muen_outside.specs.Store.{Store}
use Rattle.muen_outside.specs.declared.files.FileError.{FileError}
use Rattle.muen_outside.specs.declared.files.FileError.TheVariants.{Failed as FileFailed, NoMemory as FileMemory}
use Rattle.muen_top.specs.Answers.{Reason, usage, missing, too_long, refused, image_refused, dma_refused, record_refused, Answer, prints, writes, judges, stops, answer_of}
use Rattle.muen_top.specs.Asked.{Asks}
use Rattle.muen_top.specs.Commands.{Command, build, command_of, run}
use Rattle.muen_top.specs.FilesSeen.{OverLooks}
use Rattle.muen_top.specs.Images.{Wrote}
use Rattle.muen_top.specs.Reports.{Ends, sound_text, status_of, Reported}
use Rattle.muen_top.specs.Verdicts.{Finds, HasVerdict}
use Rattle.muen_top.specs.declared.outcome.Outcome.{Outcome}
use Rattle.muen_top.specs.declared.outcome.Outcome.TheVariants.{Done, Stopped, OutputFault}
use Rattle.muen_top.specs.declared.outcome.CommandError.{CommandError}
use Rattle.muen_top.specs.declared.outcome.CommandError.TheVariants.{Usage, Missing, TooLong, Refused, ImageRefused, DmaRefused, RecordRefused, NotSound, FileFault, NoMemory}
use Rattle.muen_top.specs.declared.status.Status.{Status}
use Rattle.muen_top.specs.declared.status.Status.TheVariants as statuses

-- ---- of an answer

-- a text is printed, and this holds of it
abbrev pub Prints : Answer → (List ℕ → Type 0) → Type 0
Prints (prints text) Holds = Holds text
Prints (judges p files bytes i) Holds = HasVerdict p files bytes i None × Holds sound_text
Prints _ Holds = ⊥

-- it is done as it is answered: the text is put and nothing written, as it is where a verdict has no fault; or an image, and its
-- tables where they are wanted, are written and nothing put
abbrev pub IsDone : Answer → List Write → SinkState → SinkState → Type 0
IsDone (prints text) ws out out' = (ws ≡ []) × Appended text out out'
IsDone (writes image tables p files) ws out out' = Wrote image tables p files (Ok tt) ws × (out' ≡ out)
IsDone (judges p files bytes i) ws out out' = (ws ≡ []) × HasVerdict p files bytes i None × Appended sound_text out out'
IsDone (stops reason) ws out out' = ⊥

-- the last write, of an image or of its tables, has ended in this error
abbrev pub Unwritten : FileError → List Write → Answer → Type 0
Unwritten end ws (writes image tables p files) = Wrote image tables p files (Err end) ws
Unwritten end ws _ = ⊥

-- ---- the outcome of a command that made these looks and these writes, where this is its answer over a store

-- nothing was written, and every store that agrees with the looks answers so
abbrev pub IsStopped : (Store → Answer) → List Look → List Write → Reason → Type 0
IsStopped answer looks ws reason = OverLooks looks (λ m. answer m ≡ stops reason) × (ws ≡ [])

-- the last look failed; or the last write, of an image or of its tables, as every store that agrees with the looks answers them
abbrev pub FaultOfFiles : (Store → Answer) → List Look → List Write → Type 0
FaultOfFiles answer looks ws = (EndsInFault looks × (ws ≡ [])) ⊎ OverLooks looks (λ m. Unwritten FileFailed ws (answer m))

-- memory was refused, and nothing was written; or it was refused for that write
abbrev pub WantOfMemory : (Store → Answer) → List Look → List Write → Type 0
WantOfMemory answer looks ws = (ws ≡ []) ⊎ OverLooks looks (λ m. Unwritten FileMemory ws (answer m))

abbrev pub StopsFor : (Store → Answer) → List Look → List Write → CommandError → Type 0
StopsFor answer looks ws Usage = IsStopped answer looks ws usage
StopsFor answer looks ws (Missing name) = IsStopped answer looks ws (missing name.now)
StopsFor answer looks ws (TooLong name n) = IsStopped answer looks ws (too_long name.now n)
StopsFor answer looks ws (Refused refusal) = IsStopped answer looks ws (refused refusal)
StopsFor answer looks ws (ImageRefused fault) = IsStopped answer looks ws (image_refused fault)
StopsFor answer looks ws (DmaRefused fault) = IsStopped answer looks ws (dma_refused fault)
StopsFor answer looks ws (RecordRefused fault) = IsStopped answer looks ws (record_refused fault)
StopsFor answer looks ws (NotSound fault) = OverLooks looks (λ m. Finds (answer m) (Some fault)) × (ws ≡ [])
StopsFor answer looks ws FileFault = FaultOfFiles answer looks ws
StopsFor answer looks ws NoMemory = WantOfMemory answer looks ws

abbrev pub OutcomeSays : (Store → Answer) → List Look → List Write → SinkState → SinkState → Outcome → Type 0
OutcomeSays answer looks ws out out' Done = OverLooks looks (λ m. IsDone (answer m) ws out out')
OutcomeSays answer looks ws out out' (Stopped error) = StopsFor answer looks ws error × (out' ≡ out)
OutcomeSays answer looks ws out out' OutputFault = OverLooks looks (λ m. Prints (answer m) (λ text. Failed text out out')) × (ws ≡ [])

-- a command made these looks and then these writes, and the outcome comes of its answer
pub record ComesOfCommand (command : Option Command) (held held' : Option Store) (old new : History) (out out' : SinkState) (outcome : Outcome) : Type 0 where
  pub looks : List Look
  pub ws : List Write
  pub history : new ≡ went old looks ws
  pub single : AreSingle looks
  pub told : IfSome held (λ m. ShowAll m looks)
  pub asked : Asks command looks
  pub left : HeldAfter ws held held'
  pub says : OutcomeSays (λ m. answer_of m command) looks ws out out' outcome

abbrev pub ComesOfRun : List ℕ → List ℕ → Option (List ℕ) → Option Store → Option Store → History → History → SinkState → SinkState → Outcome → Type 0
ComesOfRun image inputs dma held held' old new out out' outcome = ComesOfCommand (Some (run image inputs dma)) held held' old new out out' outcome

abbrev pub ComesOfBuild : List ℕ → List ℕ → Option (List ℕ) → Option Store → Option Store → History → History → SinkState → SinkState → Outcome → Type 0
ComesOfBuild policy image dma held held' old new out out' outcome = ComesOfCommand (Some (build policy image dma)) held held' old new out out' outcome

-- ---- a whole call

-- the outcome of the words' command, its status, and what was reported
pub record IsCallOf (words : List (List ℕ)) (held held' : Option Store) (old new : History) (out out' err err' : SinkState) (status : Status) : Type 0 where
  pub outcome : Outcome
  pub status_is : status ≡ status_of outcome
  pub came : ComesOfCommand (command_of words) held held' old new out out' outcome
  pub report : Reported err err' outcome

-- a fault of files or of the output, or want of memory
abbrev pub IsFault : Status → Type 0
IsFault status = (status ≡ statuses.FileFault) ⊎ ((status ≡ statuses.OutputFault) ⊎ (status ≡ statuses.NoMemory))

-- the words' answer over a store
abbrev pub answer_to : List (List ℕ) → Store → Answer
answer_to words m = answer_of m (command_of words)

-- over every store that agrees with the looks the words' answer is such
abbrev pub Answered : List (List ℕ) → List Look → (Answer → Type 0) → Type 0
Answered words looks Such = OverLooks looks (λ m. Such (answer_to words m))

-- the call does what the words are answered: the text is put, or an image is written, and tables where they are wanted
abbrev pub DoesAnswer : List (List ℕ) → History → History → SinkState → SinkState → Type 0
DoesAnswer words old new out out' = Answered words (looks_since old new) (λ answer. IsDone answer (writes_since old new) out out')

-- a front of the text that the words are answered is put, and the sink has failed
abbrev pub PrintsFront : List (List ℕ) → List Look → SinkState → SinkState → Type 0
PrintsFront words looks out out' = Answered words looks (λ answer. Prints answer (λ text. Failed text out out'))

-- the call ends as the words are answered
abbrev pub EndsAnswered : List (List ℕ) → List Look → SinkState → SinkState → Status → Type 0
EndsAnswered words looks err err' status = Answered words looks (λ answer. Ends answer err err' status)

-- the call's last look has failed, or the last write that was made of those that the words are answered
abbrev pub FilesFailed : List (List ℕ) → History → History → Type 0
FilesFailed words old new = FaultOfFiles (answer_to words) (looks_since old new) (writes_since old new)

-- memory was refused to the call: where that was for the last write that was made, what stands under its name may have changed
abbrev pub MemoryRefused : List (List ℕ) → History → History → Type 0
MemoryRefused words old new = WantOfMemory (answer_to words) (looks_since old new) (writes_since old new)
