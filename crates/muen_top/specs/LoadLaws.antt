-- How `load` ends, and that what it boots is accepted.
use Rattle.std.specs.Prelude.{◌≡◌, ℕ, List, Some, Ok}
use Rattle.generated_system.specs.System.{generated_system}
use Rattle.muen_build.specs.Document.{policy_of}
use Rattle.muen_build.specs.Refusals.{accepted_policy_of}
use Rattle.policy_lawful.specs.Contents.{Held}
use Rattle.muen_top.specs.Commands.{load, command_of}
use Rattle.muen_top.specs.declared.status.Status.TheVariants as statuses
use Rattle.muen_top.specs.declared.status.Status.{Status}

-- its text was put, or a front of it, or memory was refused
abbrev pub IsLoadStatus : Status → Type 0
IsLoadStatus statuses.Done = Unit {0}
IsLoadStatus statuses.OutputFault = Unit {0}
IsLoadStatus statuses.NoMemory = Unit {0}
IsLoadStatus _ = ⊥

abbrev pub LoadEnds : List (List ℕ) → Status → Type 0
LoadEnds words status = (number : ℕ) → command_of words ≡ Some (load number) → IsLoadStatus status

-- a document that is read as the system of a number is accepted, whatever files hold
abbrev pub GeneratedAreAccepted : Type 0
GeneratedAreAccepted =
    (files : Held) (number : ℕ) (bytes : List ℕ) → policy_of bytes ≡ Ok (generated_system number) → accepted_policy_of files bytes ≡ Ok (generated_system number)
