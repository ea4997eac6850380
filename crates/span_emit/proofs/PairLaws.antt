-- What holds of each element of a list and each later one.
use Rattle.std.proofs.Common.{◌≡◌, ℕ, suc, ◌+◌, ◌<◌, ◌≤◌, ◌⊎◌, inl, inr, Bool, false, All, List, [], ◌∷◌, ◌++◌, arith}
use Rattle.std.specs.List.{AllPairs, IsDistinct}
use Rattle.std.specs.List.Sorted.{IsNonDecreasingBy, IsPermutation}
use Rattle.std.proofs.lemmas.List.Elements.{All-append, All-cons, All-from_recursion, All-head, All-nil, All-tail, recursion_from_All}
use Rattle.std.proofs.lemmas.List.Kept.{AllPairs-cons}
use Rattle.std.proofs.lemmas.Map.Keys.{IsDistinct-IsPermutation}

-- ---- each

pub all_second : {X : Type 0} (P : X → Type 0) (xs ys : List X) → All P (xs ++ ys) → All P ys
all_second P [] ys h = h
all_second P (x ∷ xs) ys h = all_second P xs ys (All-tail P x (xs ++ ys) h)

-- ---- pairs

module _ {X : Type 0} (R : X → X → Type 0) where
  pub pairs_nil : AllPairs R []
  pairs_nil = λ i j d l m. absurd (omega arith)

  pub pairs_head : (x : X) (xs : List X) → AllPairs R (x ∷ xs) → All (R x) xs
  pairs_head x xs h = λ k d l. h 0 (suc k) d (omega arith) (omega arith)

  pub pairs_tail : (x : X) (xs : List X) → AllPairs R (x ∷ xs) → AllPairs R xs
  pairs_tail x xs h = λ i j d l m. h (suc i) (suc j) d (omega arith) (omega arith)

  pub pairs_append : (xs ys : List X) → AllPairs R xs → AllPairs R ys → All (λ x. All (R x) ys) xs → AllPairs R (xs ++ ys)
  pairs_append [] ys h k c = k
  pairs_append (x ∷ xs) ys h k c =
      AllPairs-cons R x (xs ++ ys)
      (All-append (R x) xs ys (pairs_head x xs h) (All-head (λ x. All (R x) ys) x xs c))
      (pairs_append xs ys (pairs_tail x xs h) k (All-tail (λ x. All (R x) ys) x xs c))

  pub pairs_second : (xs ys : List X) → AllPairs R (xs ++ ys) → AllPairs R ys
  pairs_second [] ys h = h
  pairs_second (x ∷ xs) ys h = pairs_second xs ys (pairs_tail x (xs ++ ys) h)

  pub pairs_across : (xs ys : List X) → AllPairs R (xs ++ ys) → All (λ x. All (R x) ys) xs
  pairs_across [] ys h = All-nil (λ x. All (R x) ys)
  pairs_across (x ∷ xs) ys h =
      All-cons (λ x. All (R x) ys) x xs (all_second (R x) xs ys (pairs_head x (xs ++ ys) h)) (pairs_across xs ys (pairs_tail x (xs ++ ys) h))

pub pairs_weaker : {X : Type 0} (R Q : X → X → Type 0) → ((a b : X) → R a b → Q a b) → (xs : List X) → AllPairs R xs → AllPairs Q xs
pairs_weaker R Q so xs h = λ i j d l m. so _ _ (h i j d l m)

-- ---- in another order

module _ {X : Type 0} (clash : X → X → Bool) where
  abbrev IsApart : X → X → Type 0
  IsApart a b = clash a b ≡ false

  distinct : (xs : List X) → AllPairs IsApart xs → IsDistinct clash xs
  unfolding IsDistinct
  distinct [] h = tt
  distinct (x ∷ xs) h = (recursion_from_All (IsApart x) xs (pairs_head IsApart x xs h), distinct xs (pairs_tail IsApart x xs h))

  pairs_from : (xs : List X) → IsDistinct clash xs → AllPairs IsApart xs
  unfolding IsDistinct
  pairs_from [] h = pairs_nil IsApart
  pairs_from (x ∷ xs) h = AllPairs-cons IsApart x xs (All-from_recursion (IsApart x) xs h.0) (pairs_from xs h.1)

  -- a test that flips tells the same of two lists of the same elements
  pub pairs_permuted : ((a b : X) → clash a b ≡ clash b a) → (xs ys : List X) → IsPermutation xs ys → AllPairs (λ a b. clash a b ≡ false) xs → AllPairs (λ a b. clash a b ≡ false) ys
  pairs_permuted flips xs ys p h = pairs_from ys (IsDistinct-IsPermutation clash flips xs ys p (distinct xs h))

-- ranges that aren't empty and share no number, by where they start: each ends before the later ones start
pub ascend : {X : Type 0} (start size : X → ℕ) (xs : List X) → IsNonDecreasingBy start xs → All (λ x. 0 < size x) xs
    → AllPairs (λ a b. (start a + size a ≤ start b) ⊎ (start b + size b ≤ start a)) xs → AllPairs (λ a b. start a + size a ≤ start b) xs
ascend start size xs up some apart = λ i j d l m.
    elim (apart i j d l m) [
      | inl before ↦ before
      | inr behind ↦ let p = up i j d (omega arith) m in let q = some j d m in absurd (omega arith)
    ]
