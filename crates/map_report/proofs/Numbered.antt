-- What is put for each element of a list with its index.
use Rattle.std.proofs.Common.{◌≡◌, ℕ, ◌+◌, ◌<◌, ◌≤◌, List, length, get_or, take, Result, IsErr, sym, ap, subst, ◌∙◌, arith}
use Rattle.std.specs.List.{enumerate_from, flat_map}
use Rattle.std.proofs.lemmas.List.{take_all}
use Rattle.std.proofs.lemmas.List.FromFn.{length-enumerate_from, get_or-enumerate_from}
use Rattle.muen_outside.specs.Buffered.{Given, Gives, Lost, OutState}
use Rattle.muen_outside.proofs.Buffered.{given_item, item_exit}

module _ {X : Type 0} (f : ℕ × X → List ℕ) (xs : List X) (i : ℕ) (x : X) (within : i < length xs) (is : x ≡ get_or xs i x) where
  abbrev pair : ℕ → X → ℕ × X
  pair n y = (n, y)

  abbrev numbered : ℕ → ℕ × X
  numbered n = (n, get_or xs i x)

  from_zero : numbered (0 + i) ≡ numbered i
  from_zero = ap numbered (omega arith)

  at_index : pair i x ≡ get_or (enumerate_from 0 xs) i (i, x)
  at_index = ap (pair i) is ∙ sym (get_or-enumerate_from 0 xs i (i, x) within ∙ from_zero)

  within_all : i < length (enumerate_from 0 xs)
  within_all = subst (λ n. i < n) (sym (length-enumerate_from 0 xs)) within

  pub one_more : (b : List ℕ) (s t u : OutState) → Given (flat_map f (take i (enumerate_from 0 xs))) s t → Given b t u → b ≡ f (i, x) → Given (flat_map f (take (i + 1) (enumerate_from 0 xs))) s u
  one_more b s t u before put eq = given_item f (enumerate_from 0 xs) i (i, x) b s t u before put within_all (eq ∙ ap f at_index)

  pub one_lost : {E : Type 0} (b : List ℕ) (s t u : OutState) (r : Result (Unit {0}) E) → IsErr r → Given (flat_map f (take i (enumerate_from 0 xs))) s t → Lost b t u → b ≡ f (i, x) → Gives (flat_map f (enumerate_from 0 xs)) s u r
  one_lost b s t u r err before lost eq = item_exit f (enumerate_from 0 xs) i (i, x) b s t u r err before lost within_all (eq ∙ ap f at_index)

-- where all were
pub all_given : {X : Type 0} (f : ℕ × X → List ℕ) (xs : List X) (i : ℕ) (s t : OutState) → length xs ≤ i → Given (flat_map f (take i (enumerate_from 0 xs))) s t → Given (flat_map f (enumerate_from 0 xs)) s t
all_given f xs i s t many h = subst (λ ys. Given (flat_map f ys) s t) (take_all i (enumerate_from 0 xs) (omega (arith, many, length-enumerate_from 0 xs))) h
