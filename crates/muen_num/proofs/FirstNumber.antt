-- The first number below a bound that has an answer.
use Rattle.std.proofs.Common.{◌≡◌, ℕ, zero, suc, ◌+◌, ◌<◌, [], ◌∷◌, Option, Some, None, ap, ◌∙◌, subst, inl, inr, add-one, arith}
use Rattle.std.specs.Option.{option_or}
use Rattle.std.proofs.lemmas.Bool.{cases_eq}
use Rattle.muen_num.specs.Range.{numbers_below}
use Rattle.muen_num.specs.Search.{first_in}
use Rattle.muen_num.proofs.SearchLaws.{first_in-append}

pub numbers_none_more : {O : Type 0} (at : ℕ → Option O) (i : ℕ) → first_in at (numbers_below i) ≡ None → at i ≡ None → first_in at (numbers_below (i + 1)) ≡ None
numbers_none_more at i none here =
    ap (λ n. first_in at (numbers_below n)) (add-one i)
    ∙ first_in-append at (numbers_below i) (i ∷ [])
    ∙ ap (λ o. option_or o (option_or (at i) None)) none
    ∙ ap (λ o. option_or o None) here

pub number_found : {O : Type 0} (at : ℕ → Option O) (n i : ℕ) (o : O) → i < n → first_in at (numbers_below i) ≡ None → at i ≡ Some o → first_in at (numbers_below n) ≡ Some o
number_found at zero i o l none here = absurd (omega arith)
number_found at (suc n) i o l none here =
    first_in-append at (numbers_below n) (n ∷ [])
    ∙ elim (cases_eq i n) as (λ _. option_or (first_in at (numbers_below n)) (option_or (at n) None) ≡ Some o) [
      | inl e ↦
          let none' : first_in at (numbers_below n) ≡ None = subst (λ m. first_in at (numbers_below m) ≡ None) e none in
          let here' : at n ≡ Some o = subst (λ m. at m ≡ Some o) e here in
          ap (λ p. option_or p (option_or (at n) None)) none' ∙ ap (λ p. option_or p None) here'
      | inr ne ↦
          let l' : i < n = omega arith in
          ap (λ p. option_or p (option_or (at n) None)) (number_found at n i o l' none here)
    ]
