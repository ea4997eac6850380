-- Texts for the items of a list with their numbers, one after another.
use Rattle.std.proofs.Common.{◌≡◌, ℕ, suc, ◌+◌, ◌<◌, List, [], ◌∷◌, ◌++◌, length, get_or, take, Result, IsErr, sym, ap, subst, ◌∙◌, append-nil, add-one, arith}
use Rattle.std.specs.List.{enumerate_from, flat_map}
use Rattle.std.proofs.lemmas.Grind.{flat_map-append}
use Rattle.std.proofs.lemmas.List.{length-take-le, take_all, take_more}
use Rattle.muen_num.proofs.Lists.{enumerate_push}
use Rattle.muen_outside.specs.Buffered.{OutState, Given, Gives, Lost}
use Rattle.muen_outside.proofs.Buffered.{given_none, given_step, step_exit}

module _ {X : Type 0} (f : ℕ × X → List ℕ) (xs : List X) where
  -- the text of the first n
  abbrev pub text_to : ℕ → List ℕ
  text_to n = flat_map f (enumerate_from 0 (take n xs))

  one_more : (d : X) (n : ℕ) → n < length xs → text_to (suc n) ≡ text_to n ++ f (n, get_or xs n d)
  one_more d n h =
      let index : 0 + length (take n xs) ≡ n = omega (arith, length-take-le n xs (omega arith)) in
      ap (λ k. flat_map f (enumerate_from 0 (take k xs))) (sym (add-one n))
      ∙ ap (λ ys. flat_map f (enumerate_from 0 ys)) (take_more xs n d h)
      ∙ ap (flat_map f) (enumerate_push 0 (take n xs) (get_or xs n d))
      ∙ flat_map-append f (enumerate_from 0 (take n xs)) ((0 + length (take n xs), get_or xs n d) ∷ [])
      ∙ ap (λ ys. text_to n ++ ys) (append-nil (f (0 + length (take n xs), get_or xs n d)))
      ∙ ap (λ k. text_to n ++ f (k, get_or xs n d)) index

  -- one item of many
  pub given_numbered : (n : ℕ) (x : X) (b : List ℕ) (s t u : OutState) → Given (text_to n) s t → Given b t u → n < length xs → x ≡ get_or xs n x → b ≡ f (n, x) → Given (text_to (n + 1)) s u
  given_numbered n x b s t u p q h is same =
      given_step text_to (λ k. f (k, get_or xs k x)) (length xs) (one_more x) n b s t u h (same ∙ ap (λ y. f (n, y)) is) p q

  -- it failed at one item of many, at the exit of a `?`
  pub numbered_exit : {E : Type 0} (n : ℕ) (x : X) (b : List ℕ) (s t u : OutState) (r : Result (Unit {0}) E) → IsErr r → Given (text_to n) s t → Lost b t u → n < length xs → x ≡ get_or xs n x → b ≡ f (n, x)
      → Gives (flat_map f (enumerate_from 0 xs)) s u r
  numbered_exit n x b s t u r err p q h is same =
      subst (λ ys. Gives (flat_map f (enumerate_from 0 ys)) s u r) (take_all (length xs) xs (omega arith))
      (step_exit text_to (λ k. f (k, get_or xs k x)) (length xs) (one_more x) n b s t u r err h (same ∙ ap (λ y. f (n, y)) is) p q)

pub ruleset numbered = (given_none, given_numbered)
