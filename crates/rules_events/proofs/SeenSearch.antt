-- A search of the subjects by what the subject at each index sees, one subject further.
use Rattle.std.proofs.Common.{◌≡◌, ℕ, ◌+◌, ◌<◌, List, drop, get_or, length, Option, Some, None, sym, subst, ◌∙◌}
use Rattle.std.specs.Option.{option_or}
use Rattle.muen_num.specs.Search.{first_in}
use Rattle.muen_num.proofs.FirstSteps.{first_step}
use Rattle.policy_lawful.specs.declared.resolved.Subject.{Subject}

module _ {O : Type 0} (at : Subject → Option O) (ss read : List Subject) (k : ℕ) (s : Subject) (same : read ≡ ss) (within : k < length read) (is : s ≡ get_or read k s) where
  step : (answer : Option O) → answer ≡ at s → first_in at (drop k ss) ≡ option_or answer (first_in at (drop (k + 1) ss))
  step answer says =
      first_step at ss k s answer (subst (λ xs. k < length xs) same within) (subst (λ xs. s ≡ get_or xs k s) same is) says

  -- the subject is the one that is sought
  pub found : (o : O) → Some o ≡ at s → first_in at (drop k ss) ≡ first_in at ss → Some o ≡ first_in at ss
  found o says before = sym (step (Some o) says) ∙ before

  -- .. or it isn't
  pub further : None ≡ at s → first_in at (drop k ss) ≡ first_in at ss → first_in at (drop (k + 1) ss) ≡ first_in at ss
  further says before = sym (step None says) ∙ before
