-- What `verify` comes to: the image is judged for the policy, as `muen verify` does it, and then the tables for both.
use Rattle.std.specs.Prelude.{◌≡◌, ◌⊎◌, ℕ, List, Option, Some, None}
use Rattle.command_shell.specs.Calls.{Ends, LacksMemory, Runs, Stops}
use Rattle.command_shell.specs.Errors.{error_status, error_text}
use Rattle.command_shell.specs.declared.error.CommandError.{CommandError}
use Rattle.command_shell.specs.declared.error.CommandError.TheVariants.{Usage, Missing, TooLong, FileFault, NoMemory, Own}
use Rattle.dma_check.specs.Verdict.{OverImages}
use Rattle.image_pack.specs.declared.parts.Image.{Image}
use Rattle.image_verify.specs.declared.fault.Fault.{Fault}
use Rattle.muen_outside.specs.States.{History}
use Rattle.muen_outside.specs.Store.{Store}
use Rattle.muen_top.specs.Commands.{verify as muen_verify}
use Rattle.muen_top.specs.PolicyCommands.{StopsCommand}
use Rattle.muen_top.specs.Reports.{sound_text}
use Rattle.muen_top.specs.Verifying.{HasAllRead, IsFound}
use Rattle.muen_top.specs.declared.outcome.CommandError.{CommandError as MuenError}
use Rattle.muen_top.specs.declared.outcome.CommandError.TheVariants as muen
use Rattle.policy_lawful.specs.Resolution.{Resolution, source_of}
use Rattle.dma_top.specs.Answers.{verdict_plan}
use Rattle.dma_top.specs.Reads.{EndsFor, IsToPrint}
use Rattle.dma_top.specs.Refusals.{devices}
use Rattle.dma_top.specs.declared.refusal.Refusal.{Refusal}
use Rattle.dma_top.specs.declared.refusal.Refusal.TheVariants.{Policy, Image as ImageOf, Record as RecordOf, Tables as TablesOf, Unsound}
use Rattle.dma_top.specs.declared.status.DmaStatus.{DmaStatus}
use Rattle.dma_top.specs.declared.verify.Accepted.{Accepted}

-- ---- why nothing is judged, as this program tells it

abbrev pub told_as : MuenError → CommandError Refusal
told_as muen.Usage = Usage
told_as (muen.Missing name) = Missing name
told_as (muen.TooLong name n) = TooLong name n
told_as (muen.Refused refusal) = Own (Policy refusal)
told_as (muen.ImageRefused fault) = Own (ImageOf fault)
told_as (muen.DmaRefused fault) = Own (TablesOf fault)
told_as (muen.RecordRefused fault) = Own (RecordOf fault)
told_as (muen.NotSound fault) = Own (Unsound fault)
told_as muen.FileFault = FileFault
told_as muen.NoMemory = NoMemory

-- ---- a call

-- there is the line of this error, with its status, and nothing else
abbrev pub StopsWith : Ends DmaStatus → CommandError Refusal → Type 0
StopsWith e error = Stops devices.name e (error_status devices.status error) (error_text devices error)

-- what was read is judged, behind these calls on files: the image isn't sound, and its fault is told; memory is refused; or it is, and
-- the file of tables is looked at, and their verdict told
abbrev pub IsJudgedSo : List ℕ → Image → Resolution → List (List ℕ) → Ends DmaStatus → History → Type 0
IsJudgedSo tables i r things e seen =
    ((fault : Fault) × IsFound i r things (Some fault) × (e.after ≡ seen) × StopsWith e (Own (Unsound fault)))
    ⊎ (LacksMemory devices.name e seen ⊎ (IsFound i r things None × Runs devices.name e (verdict_plan (source_of r) i tables) seen))

-- the image, the policy and the files that its contents name are looked at, as `muen verify` does it: they can't be judged, which is
-- told; or they are
pub data IsVerify (image policy tables : List ℕ) (held : Option Store) (e : Ends DmaStatus) : Type 0 where
  unread : (error : MuenError) → StopsCommand (muen_verify image policy) held e.before e.after error → StopsWith e (told_as error) → IsVerify image policy tables held e
  judged : (seen : History) (i : Image) (r : Resolution) (things : List (List ℕ)) → HasAllRead image policy held e.before seen i r things → IsJudgedSo tables i r things e seen
      → IsVerify image policy tables held e

-- ---- its steps

-- an image has no fault for a policy, and of it the spans are kept
pub record IsAccepted (i : Image) (r : Resolution) (things : List (List ℕ)) (x : Accepted) : Type 0 where
  pub found : IsFound i r things None
  pub policy : x.expanded.lawful ≡ r
  pub spans : x.spans ≡ i.spans

-- .. or it has one; or memory is refused
abbrev pub IsUnsound : Image → Resolution → List (List ℕ) → CommandError Refusal → Type 0
IsUnsound i r things (Own (Unsound fault)) = IsFound i r things (Some fault)
IsUnsound i r things NoMemory = Unit {0}
IsUnsound i r things _ = ⊥

-- of whatever image has these spans, the tables of this file have no fault
abbrev pub AreFit : Accepted → List ℕ → Option Store → History → History → Type 0
AreFit x tables held old new = OverImages x.spans (λ i. IsToPrint (verdict_plan (source_of x.expanded.lawful) i tables) sound_text held old new)

-- .. or it ends for this error
abbrev pub AreUnfit : Accepted → List ℕ → Option Store → History → History → CommandError Refusal → Type 0
AreUnfit x tables held old new error = OverImages x.spans (λ i. EndsFor (verdict_plan (source_of x.expanded.lawful) i tables) held old new error)
