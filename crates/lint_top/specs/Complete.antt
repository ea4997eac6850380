-- What a call does in which no look and no put fails.
use Rattle.std.specs.Prelude.{◌≡◌, ◌⊎◌, ℕ, List, [], ◌∷◌, length, Option, Some, None}
use Rattle.std.specs.FinMap.{get}
use Rattle.command_shell.specs.Calls.{Ends}
use Rattle.command_shell.specs.Complete.{Follows, IsRefused, NothingFails}
use Rattle.command_shell.specs.Texts.{error_line}
use Rattle.command_shell.specs.declared.status.Status.TheVariants as statuses
use Rattle.muen_num.specs.declared.limits.TheConstants.{POLICY_MOST}
use Rattle.muen_outside.specs.Looks.{ShowAll, looks_since, writes_since}
use Rattle.muen_outside.specs.Puts.{Appended}
use Rattle.muen_outside.specs.Store.{Store, reading_of}
use Rattle.policy_lawful.specs.refusal.Refusal.{Refusal}
use Rattle.policy_lint.specs.All.{all_refusals}
use Rattle.lint_top.specs.Calls.{policy_in}
use Rattle.lint_top.specs.Lines.{lines_of}
use Rattle.lint_top.specs.Tellings.{count_text, linter}
use Rattle.lint_top.specs.declared.status.LintStatus.{LintStatus}
use Rattle.lint_top.specs.declared.status.LintStatus.TheVariants.{PolicyRefused}

-- nothing is written, and nothing put
pub record IsQuiet (e : Ends LintStatus) : Type 0 where
  pub ended : e.status ≡ statuses.Done
  pub unwritten : writes_since e.before e.after ≡ []
  pub quiet : e.out' ≡ e.out
  pub silent : e.err' ≡ e.err

-- nothing is written, and nothing put but the lines of these refusals, and the whole of the one that tells how many they are
pub record HasLines (e : Ends LintStatus) (refusals : List Refusal) : Type 0 where
  pub ended : e.status ≡ statuses.Own PolicyRefused
  pub unwritten : writes_since e.before e.after ≡ []
  pub put : Appended (lines_of refusals) e.out e.out'
  pub told : Appended (error_line linter.name (count_text (length refusals))) e.err e.err'

-- these refusals are told, and nothing besides
abbrev pub HasTold : Ends LintStatus → List Refusal → Type 0
HasTold e [] = IsQuiet e
HasTold e (refusal ∷ more) = HasLines e (refusal ∷ more)

-- what is told of the policy of this name over a store
abbrev pub Answers : Store → Ends LintStatus → Option (List ℕ) → Type 0
Answers m e None = IsRefused linter.name e statuses.Usage linter.usage
Answers m e (Some policy) = Follows linter.name e policy (λ document. HasTold e (all_refusals m document)) (reading_of (get m policy) POLICY_MOST)

-- where nothing fails, and memory suffices, that is so over every store that agrees with the looks
abbrev pub IsComplete : List (List ℕ) → Ends LintStatus → Type 0
IsComplete words e =
    NothingFails e → (e.status ≡ statuses.NoMemory) ⊎ ((m : Store) → ShowAll m (looks_since e.before e.after) → Answers m e (policy_in words))
