-- What a call comes to, before its end is told.
use Rattle.std.specs.Prelude.{◌≡◌, ◌≢◌, ℕ, List, [], length, Option, IfSome, Result, Ok, Err}
use Rattle.command_shell.specs.Calls.{Ends, ends}
use Rattle.command_shell.specs.Errors.{Reported, status_of}
use Rattle.command_shell.specs.declared.error.CommandError.{CommandError}
use Rattle.command_shell.specs.declared.error.CommandError.TheVariants.{OutputFault, Own}
use Rattle.muen_outside.specs.Looks.{ShowAll}
use Rattle.muen_outside.specs.Puts.{Appended, Failed}
use Rattle.muen_outside.specs.States.{History, Look, SinkState, looked}
use Rattle.muen_outside.specs.Store.{Store}
use Rattle.policy_lawful.specs.refusal.Refusal.{Refusal}
use Rattle.lint_top.specs.Calls.{IsLint, IsTold}
use Rattle.lint_top.specs.Lines.{lines_of}
use Rattle.lint_top.specs.Tellings.{linter}
use Rattle.lint_top.specs.declared.refusal.PolicyRefused.{PolicyRefused}
use Rattle.lint_top.specs.declared.status.LintStatus.{LintStatus}

abbrev pub Outcome : Type 0
Outcome = Result (Unit {0}) (CommandError PolicyRefused)

-- there are refusals, and their lines are put
pub record ArePut (refusals : List Refusal) (old new : SinkState) (count : ℕ) : Type 0 where
  pub some : refusals ≢ []
  pub counted : count ≡ length refusals
  pub put : Appended (lines_of refusals) old new

-- nothing is put where there are none; else their lines are, and the policy is refused; or a front of them where the sink has failed
abbrev pub PutsTo : List Refusal → SinkState → SinkState → Outcome → Type 0
PutsTo refusals old new (Ok u) = (refusals ≡ []) × (new ≡ old)
PutsTo refusals old new (Err (Own reason)) = ArePut refusals old new reason.count
PutsTo refusals old new (Err OutputFault) = Failed (lines_of refusals) old new
PutsTo refusals old new (Err _) = ⊥

-- these looks were made, and however the end is told, this holds of the call
pub record ComesSo (held : Option Store) (old new : History) (out out' : SinkState) (outcome : Outcome) (before : History) (Holds : Ends LintStatus → Type 0) : Type 0 where
  pub looks : List Look
  pub history : new ≡ looked old looks
  pub told : IfSome held (λ m. ShowAll m looks)
  pub comes : (err err' : SinkState) → Reported linter err err' outcome → Holds (ends before new out out' err err' (status_of linter.status outcome))

-- what is told of a document that was read
abbrev pub TellsOf : List ℕ → List ℕ → Option Store → History → History → SinkState → SinkState → Outcome → Type 0
TellsOf policy document held old new out out' outcome = (before : History) → ComesSo held old new out out' outcome before (λ e. IsTold policy document held e old)

-- what the words come to
abbrev pub ComesTo : Option (List ℕ) → Option Store → History → History → SinkState → SinkState → Outcome → Type 0
ComesTo policy held old new out out' outcome = ComesSo held old new out out' outcome old (IsLint policy held)
