-- What was looked at, and what is told of a document.
use Rattle.std.specs.Prelude.{◌≡◌, ℕ, true, List, [], Option, Ok}
use Rattle.muen_build.specs.Accepting.{AreAskedInTurn, Files, Grows, IsAskedBy, WithDocument, WithGiven}
use Rattle.muen_build.specs.Looks.{Looked, names_file}
use Rattle.muen_build.specs.Refusals.{lawful_policy_of}
use Rattle.muen_num.specs.declared.limits.TheConstants.{COMPONENT_FILE_MOST}
use Rattle.muen_outside.specs.States.{History, Look}
use Rattle.muen_outside.specs.Store.{Store}
use Rattle.policy_lawful.specs.refusal.Refusal.{Refusal}
use Rattle.policy_lawful.specs.source.Source.{Source}
use Rattle.policy_lint.specs.All.{all_contents_refused, all_refusals}
use Rattle.policy_lint.specs.Seen.{LookingSays}
use Rattle.policy_lint.specs.declared.error.LintError.{LintError}

-- looks were made at files that contents of the policy name, and over all files that agree with them these are the refusals of
-- its contents
pub record TellsContents (given : Files) (p : Source) (held : Option Store) (old new : History) (refusals : List Refusal) : Type 0 where
  pub looks : List Look
  pub grows : Grows given (IsAskedBy (names_file p)) held old new [] looks
  pub told : WithGiven given looks (λ files. refusals ≡ all_contents_refused files p)

-- a look is at a component file that a content of the document's policy names, which keeps every rule
pub record IsNamed (document : List ℕ) (before : List Look) (l : Look) : Type 0 where
  pub policy : Source
  pub lawful : lawful_policy_of document ≡ Ok policy
  pub file : names_file policy l.name ≡ true
  pub most : l.most ≡ COMPONENT_FILE_MOST

-- looks were made, each at another name, and over all files that agree with them, with the document under its name, these are
-- all refusals
pub record Lints (name document : List ℕ) (held : Option Store) (old new : History) (refusals : List Refusal) : Type 0 where
  pub looks : List Look
  pub looked : Looked name held old new looks
  pub asked : AreAskedInTurn (IsNamed document) [] looks
  pub told : WithDocument name document looks (λ files. refusals ≡ all_refusals files document)

-- looks were made, of which the last one failed; or memory was refused
pub record LintFails (name document : List ℕ) (held : Option Store) (old new : History) (error : LintError) : Type 0 where
  pub looks : List Look
  pub looked : Looked name held old new looks
  pub asked : AreAskedInTurn (IsNamed document) [] looks
  pub says : LookingSays looks error
