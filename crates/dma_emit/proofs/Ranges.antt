-- Ranges of numbers of which no two share one: in the order of their starts each ends before the next starts.
use Rattle.std.proofs.Common.{◌≡◌, ℕ, zero, suc, ◌+◌, ◌<◌, ◌≤◌, ◌⊎◌, inl, inr, Bool, true, false, not, All, List, [], ◌∷◌, ap, ◌∙◌, arith}
use Rattle.std.specs.Prelude.{◌||◌, nat_le}
use Rattle.std.specs.List.{AllPairs}
use Rattle.std.specs.List.Sorted.{IsNonDecreasingBy, IsPermutation}
use Rattle.std.proofs.Math.Bool.{or_comm}
use Rattle.std.proofs.lemmas.Bool.{cases_Bool, le-leb, leb-false, leb-true, not-false, or_cases}
use Rattle.std.proofs.lemmas.List.Elements.{All-cons, All-nil, All-weaker}
use Rattle.std.proofs.lemmas.List.Sorted.{All-permutation}
use Rattle.expand_kernel.specs.Ordered.{in_order, inserted}
use Rattle.expand_kernel.proofs.Ordered.{in_order_permutes, All-inserted}
use Rattle.span_emit.proofs.PairLaws.{ascend, pairs_permuted, pairs_weaker}

-- ---- a list in the order of a number of its elements

module _ {X : Type 0} (key : X → ℕ) where
  abbrev pub before : X → X → Bool
  before a b = nat_le (key a) (key b)

  abbrev Rises : List X → Type 0
  Rises [] = Unit {0}
  Rises (x ∷ xs) = All (λ y. key x ≤ key y) xs × Rises xs

  inserted_rises : (x : X) (ys : List X) → Rises ys → Rises (inserted before x ys)
  unfolding inserted
  inserted_rises x [] h = (All-nil (λ y. key x ≤ key y), tt)
  inserted_rises x (y ∷ ys) h = elim (cases_Bool (before x y)) [
    | inl here ↦
        let l : key x ≤ key y = leb-true _ _ here in
        rw here (All-cons (λ z. key x ≤ key z) y ys l (All-weaker (λ z. key y ≤ key z) (λ z. key x ≤ key z) (λ z k. omega arith) ys h.0), h)
    | inr later ↦
        let l : key y < key x = leb-false _ _ later in
        rw later (All-inserted before (λ z. key y ≤ key z) x ys (omega arith) h.0, inserted_rises x ys h.1)
  ]

  order_rises : (xs : List X) → Rises (in_order before xs)
  unfolding in_order
  order_rises [] = tt
  order_rises (x ∷ xs) = inserted_rises x (in_order before xs) (order_rises xs)

  rising : (xs : List X) → Rises xs → IsNonDecreasingBy key xs
  rising [] h i j d l m = absurd (omega arith)
  rising (x ∷ xs) h zero zero d l m = omega arith
  rising (x ∷ xs) h zero (suc j) d l m = h.0 j d (omega arith)
  rising (x ∷ xs) h (suc i) zero d l m = absurd (omega arith)
  rising (x ∷ xs) h (suc i) (suc j) d l m = rising xs h.1 i j d (omega arith) (omega arith)

-- ---- ranges

module _ {X : Type 0} (start size : X → ℕ) where
  -- two that share no number
  abbrev pub AreTwo : X → X → Type 0
  AreTwo a b = (start a + size a ≤ start b) ⊎ (start b + size b ≤ start a)

  abbrev pub IsBefore : X → X → Type 0
  IsBefore a b = start a + size a ≤ start b

  abbrev clash : X → X → Bool
  clash a b = not (nat_le (start a + size a) (start b) || nat_le (start b + size b) (start a))

  no_clash : (a b : X) → AreTwo a b → clash a b ≡ false
  no_clash a b (inl first) = ap (λ t. not (t || nat_le (start b + size b) (start a))) (le-leb (start a + size a) (start b) first)
  no_clash a b (inr behind) =
      ap (λ t. not (nat_le (start a + size a) (start b) || t)) (le-leb (start b + size b) (start a) behind)
      ∙ ap not (or_comm (nat_le (start a + size a) (start b)) true)

  two_from : (a b : X) → clash a b ≡ false → AreTwo a b
  two_from a b h = elim (or_cases (nat_le (start a + size a) (start b)) (nat_le (start b + size b) (start a)) (not-false _ h)) [
    | inl first ↦ inl (leb-true _ _ first)
    | inr behind ↦ inr (leb-true _ _ behind)
  ]

  -- in another order
  pub two_moved : (xs ys : List X) → IsPermutation xs ys → AllPairs AreTwo xs → AllPairs AreTwo ys
  two_moved xs ys moved two =
      pairs_weaker (λ a b. clash a b ≡ false) AreTwo two_from ys
      (pairs_permuted clash (λ a b. ap not (or_comm (nat_le (start a + size a) (start b)) (nat_le (start b + size b) (start a)))) xs ys moved
      (pairs_weaker AreTwo (λ a b. clash a b ≡ false) no_clash xs two))

  -- in the order of their starts
  pub ascending : (xs : List X) → All (λ x. 0 < size x) xs → AllPairs AreTwo xs → AllPairs IsBefore (in_order (before start) xs)
  ascending xs some two =
      let ys = in_order (before start) xs in
      let moved : IsPermutation xs ys = in_order_permutes (before start) xs in
      ascend start size ys (rising start ys (order_rises start xs)) (All-permutation (λ x. 0 < size x) xs ys moved some) (two_moved xs ys moved two)
