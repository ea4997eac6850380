-- What a call does: it reads the policy, and puts all its refusals.
use Rattle.std.specs.Prelude.{◌≡◌, ◌⊎◌, ℕ, List, [], ◌∷◌, length, Option, Some, None}
use Rattle.command_shell.specs.Calls.{Ends, LooksAt, PutsFront, Stops}
use Rattle.command_shell.specs.Texts.{Told}
use Rattle.command_shell.specs.declared.status.Status.TheVariants as statuses
use Rattle.muen_num.specs.declared.limits.TheConstants.{POLICY_MOST}
use Rattle.muen_outside.specs.ErrorTexts.{file_error_text}
use Rattle.muen_outside.specs.Puts.{Appended}
use Rattle.muen_outside.specs.States.{History}
use Rattle.muen_outside.specs.Store.{Store}
use Rattle.muen_outside.specs.declared.files.FileError.TheVariants.{Failed as FilesFailed, NoMemory as FilesMemory}
use Rattle.policy_lawful.specs.refusal.Refusal.{Refusal}
use Rattle.policy_lint.specs.Linting.{LintFails, Lints}
use Rattle.policy_lint.specs.declared.error.LintError.{LintError}
use Rattle.policy_lint.specs.declared.error.LintError.TheVariants.{FileFault, NoMemory}
use Rattle.lint_top.specs.Lines.{lines_of}
use Rattle.lint_top.specs.Tellings.{count_text, linter}
use Rattle.lint_top.specs.declared.status.LintStatus.{LintStatus}
use Rattle.lint_top.specs.declared.status.LintStatus.TheVariants.{PolicyRefused}

-- the name of the policy's file, which is the only word
abbrev pub policy_in : List (List ℕ) → Option (List ℕ)
policy_in (policy ∷ []) = Some policy
policy_in _ = None

-- ---- a document that was read

-- nothing is put
pub record PutsNothing (e : Ends LintStatus) : Type 0 where
  pub ended : e.status ≡ statuses.Done
  pub quiet : e.out' ≡ e.out
  pub silent : e.err' ≡ e.err

-- each refusal is put in a line, and one line on the error sink tells how many they are
pub record PutsLines (e : Ends LintStatus) (refusals : List Refusal) : Type 0 where
  pub ended : e.status ≡ statuses.Own PolicyRefused
  pub put : Appended (lines_of refusals) e.out e.out'
  pub told : Told linter.name (count_text (length refusals)) e.err e.err'

-- what is told of all refusals, where the sink hasn't failed
abbrev pub Tells : Ends LintStatus → List Refusal → Type 0
Tells e [] = PutsNothing e
Tells e (refusal ∷ more) = PutsLines e (refusal ∷ more)

-- all refusals of the document were found, and they are told; or a front of their lines is, where the sink has failed
pub record Finds (policy document : List ℕ) (held : Option Store) (e : Ends LintStatus) (seen : History) : Type 0 where
  pub refusals : List Refusal
  pub found : Lints policy document held seen e.after refusals
  pub put : Tells e refusals ⊎ PutsFront linter.name e (lines_of refusals)

abbrev pub error_ends : Ends LintStatus → LintError → Type 0
error_ends e FileFault = Stops linter.name e statuses.FileFault (file_error_text FilesFailed)
error_ends e NoMemory = Stops linter.name e statuses.NoMemory (file_error_text FilesMemory)

-- they weren't found, since the last look has failed or memory was refused
pub record FindsNone (policy document : List ℕ) (held : Option Store) (e : Ends LintStatus) (seen : History) : Type 0 where
  pub error : LintError
  pub fails : LintFails policy document held seen e.after error
  pub told : error_ends e error

abbrev pub IsTold : List ℕ → List ℕ → Option Store → Ends LintStatus → History → Type 0
IsTold policy document held e seen = Finds policy document held e seen ⊎ FindsNone policy document held e seen

-- ---- calls

-- the policy's file is looked at, and what follows from its bytes is told; or a line says that words name no policy
abbrev pub IsLint : Option (List ℕ) → Option Store → Ends LintStatus → Type 0
IsLint None held e = (e.after ≡ e.before) × Stops linter.name e statuses.Usage linter.usage
IsLint (Some policy) held e = LooksAt linter.name e policy POLICY_MOST (λ seen document. IsTold policy document held e seen) e.before

-- over files that hold this, where they tell it
abbrev pub IsCall : List (List ℕ) → Option Store → Ends LintStatus → Type 0
IsCall words held e = IsLint (policy_in words) held e
