-- The subjects from one on: that one, read with its index, and those behind it.
use Rattle.std.proofs.Common.{◌≡◌, ℕ, ◌+◌, ◌<◌, suc, Bool, List, drop, drop-cons, add-one, get_or, length, Option, sym, ap, subst, ◌∙◌}
use Rattle.std.specs.Prelude.{◌||◌}
use Rattle.std.specs.List.{list_any}
use Rattle.std.specs.Option.{option_or}
use Rattle.muen_num.specs.Search.{first_in}
use Rattle.muen_num.proofs.FirstSteps.{first_step}
use Rattle.policy_lawful.specs.declared.resolved.Subject.{Subject}

module _ (ss read : List Subject) (k : ℕ) (s : Subject) (same : read ≡ ss) (within : k < length read) (is : s ≡ get_or read k s) where
  inside : k < length ss
  inside = subst (λ xs. k < length xs) same within

  there : s ≡ get_or ss k s
  there = subst (λ xs. s ≡ get_or xs k s) same is

  -- one of them passes, where the first does or one behind it
  pub any_in_turn : (test : Subject → Bool) → list_any test (drop k ss) ≡ (test s || list_any test (drop (k + 1) ss))
  any_in_turn test =
      ap (list_any test) (drop-cons ss k s inside) ∙ ap (λ z. test z || list_any test (drop (suc k) ss)) (sym there)
      ∙ ap (λ n. test s || list_any test (drop n ss)) (sym (add-one k))

  -- the first offence is of the first of them or of those behind it
  pub first_in_turn : {O : Type 0} (at : Subject → Option O) (answer : Option O) → answer ≡ at s → first_in at (drop k ss) ≡ option_or answer (first_in at (drop (k + 1) ss))
  first_in_turn at answer says = first_step at ss k s answer inside there says
