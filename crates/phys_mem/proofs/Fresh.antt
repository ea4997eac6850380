-- A list of a Vec that was empty and then filled up with None.
use Rattle.std.proofs.Common.{◌≡◌, inl, inr, ℕ, zero, suc, List, [], ◌∷◌, ◌++◌, length, take, get_or, replicate, Option, None, ap, ◌∙◌, arith}
use Rattle.std.proofs.lemmas.Bool.{cases_lt}
use Rattle.std.proofs.lemmas.List.{get_or-replicate, get_or_past, length-replicate}

module _ {X : Type 0} where
  long : (n : ℕ) (o : Option X) → length (replicate n o) ≡ n
  long n o = length-replicate n o

  at : (n i : ℕ) (o : Option X) → get_or (replicate n o) i o ≡ o
  at n i o =
      elim (cases_lt i n) [
        | inl l ↦ get_or-replicate n i o o l
        | inr l ↦ get_or_past (replicate n o) i o (omega (arith, long n o, l))
      ]

  fronted : (xs front : List (Option X)) (n k : ℕ) → xs ≡ take n front ++ replicate k None → length front ≡ 0 → xs ≡ replicate k None
  fronted xs [] zero k e h = e
  fronted xs [] (suc n) k e h = e
  fronted xs (x ∷ front) n k e h = absurd (omega arith)

  pub fresh : (xs front : List (Option X)) (n k : ℕ) → xs ≡ take n front ++ replicate k None → length front ≡ 0 → (i : ℕ) → get_or xs i None ≡ None
  fresh xs front n k e h i = ap (λ ys. get_or ys i None) (fronted xs front n k e h) ∙ at k i None
