-- What the words come to, before their end is told.
use Rattle.std.specs.Prelude.{◌≡◌, Option, Some, None, IfSome, List, Result}
use Rattle.command_shell.specs.Calls.{Ends}
use Rattle.command_shell.specs.Errors.{Reported}
use Rattle.command_shell.specs.Outcomes.{ComesTo, IsUsage, ends_with}
use Rattle.command_shell.specs.declared.error.CommandError.{CommandError}
use Rattle.muen_outside.specs.Looks.{ShowAll}
use Rattle.muen_outside.specs.States.{History, Look, SinkState, looked}
use Rattle.muen_outside.specs.Store.{Store}
use Rattle.dma_top.specs.Answers.{flows_plan, lines_plan, windows_plan}
use Rattle.dma_top.specs.Commands.{Command, flows, lines, verify, windows}
use Rattle.dma_top.specs.Refusals.{devices}
use Rattle.dma_top.specs.Verdicts.{IsVerify}
use Rattle.dma_top.specs.declared.refusal.Refusal.{Refusal}
use Rattle.dma_top.specs.declared.status.DmaStatus.{DmaStatus}

abbrev pub Outcome : Type 0
Outcome = Result (Unit {0}) (CommandError Refusal)

-- these looks were made, and nothing written; and however the end is told, this holds of the call
pub record ComesSo (Holds : Ends DmaStatus → Type 0) (held held' : Option Store) (old new : History) (out out' : SinkState) (outcome : Outcome) : Type 0 where
  pub looks : List Look
  pub history : new ≡ looked old looks
  pub told : IfSome held (λ m. ShowAll m looks)
  pub left : held' ≡ held
  pub comes : (err err' : SinkState) → Reported devices err err' outcome → Holds (ends_with devices old new out out' outcome err err')

abbrev pub ComesOf : Option Command → Option Store → Option Store → History → History → SinkState → SinkState → Outcome → Type 0
ComesOf None held held' old new out out' outcome = IsUsage held held' old new out out' outcome
ComesOf (Some (verify image policy tables)) held held' old new out out' outcome = ComesSo (IsVerify image policy tables held) held held' old new out out' outcome
ComesOf (Some (lines image inputs tables)) held held' old new out out' outcome = ComesTo devices (lines_plan image inputs tables) held held' old new out out' outcome
ComesOf (Some (windows policy)) held held' old new out out' outcome = ComesTo devices (windows_plan policy) held held' old new out out' outcome
ComesOf (Some (flows policy)) held held' old new out out' outcome = ComesTo devices (flows_plan policy) held held' old new out out' outcome
