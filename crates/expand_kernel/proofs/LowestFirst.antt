-- Ranges that share no number, put in order by where they start: each ends before the later ones start.
use Rattle.std.proofs.Common.{◌≡◌, ℕ, ◌+◌, ◌<◌, ◌≤◌, Bool, true, false, not, List, [], ◌∷◌, refl, ap, arith}
use Rattle.std.specs.Prelude.{◌||◌, nat_le, if◌then◌else◌}
use Rattle.std.specs.List.{All, AllByRecursion, AllPairs, IsDistinct}
use Rattle.std.proofs.Math.Bool.{or_comm}
use Rattle.std.proofs.lemmas.Bool.{leb-true, leb-false}
use Rattle.std.proofs.lemmas.List.Elements.{All-from_recursion, recursion_from_All}
use Rattle.std.proofs.lemmas.List.Kept.{AllPairs-cons}
use Rattle.std.proofs.lemmas.List.Sorted.{All-permutation}
use Rattle.std.proofs.lemmas.Map.Keys.{IsDistinct-IsPermutation}
use Rattle.expand_grants.specs.Ordered.{in_order, inserted}
use Rattle.expand_grants.proofs.Ordered.{in_order_permutes}

-- what follows for each
each_so : {X : Type 0} (P Q : X → Type 0) → ((x : X) → P x → Q x) → (xs : List X) → AllByRecursion P xs → AllByRecursion Q xs
each_so P Q so [] all = tt
each_so P Q so (x ∷ xs) all = (so x all.0, each_so P Q so xs all.1)

module _ {X : Type 0} (start size : X → ℕ) where
  abbrev pub no_higher : X → X → Bool
  no_higher a b = nat_le (start a) (start b)

  -- ---- in order

  -- each starts no higher than the later ones
  abbrev Rises : List X → Type 0
  Rises [] = Unit {0}
  Rises (x ∷ xs) = AllByRecursion (λ y. start x ≤ start y) xs × Rises xs

  each_inserted : (P : X → Type 0) (x : X) (ys : List X) → P x → AllByRecursion P ys → AllByRecursion P (inserted no_higher x ys)
  unfolding inserted
  each_inserted P x [] p all = (p, tt)
  each_inserted P x (y ∷ ys) p all =
      elim (nat_le (start x) (start y)) as (λ b. AllByRecursion P (if b then x ∷ y ∷ ys else y ∷ inserted no_higher x ys)) [
        | true ↦ (p, all)
        | false ↦ (all.0, each_inserted P x ys p all.1)
      ]

  rises_inserted : (x : X) (ys : List X) → Rises ys → Rises (inserted no_higher x ys)
  unfolding inserted
  rises_inserted x [] h = (tt, tt)
  rises_inserted x (y ∷ ys) h =
      elim (nat_le (start x) (start y)) as (λ b. nat_le (start x) (start y) ≡ b → Rises (if b then x ∷ y ∷ ys else y ∷ inserted no_higher x ys)) [
        | true ↦ λ e.
            let l : start x ≤ start y = leb-true (start x) (start y) e in
            ((l, each_so (λ z. start y ≤ start z) (λ z. start x ≤ start z) (λ z m. omega arith) ys h.0), h)
        | false ↦ λ e.
            let l : start y ≤ start x = le_below e in
            (each_inserted (λ z. start y ≤ start z) x ys l h.0, rises_inserted x ys h.1)
      ] refl
    where
      le_below : nat_le (start x) (start y) ≡ false → start y ≤ start x
      le_below e = let l = leb-false (start x) (start y) e in omega arith

  rises_in_order : (xs : List X) → Rises (in_order no_higher xs)
  unfolding in_order
  rises_in_order [] = tt
  rises_in_order (x ∷ xs) = rises_inserted x (in_order no_higher xs) (rises_in_order xs)

  -- ---- apart

  -- they share a number, where neither is empty
  abbrev pub clash : X → X → Bool
  clash a b = not (nat_le (start a + size a) (start b) || nat_le (start b + size b) (start a))

  abbrev IsBefore : X → X → Type 0
  IsBefore a b = start a + size a ≤ start b

  before_by : (a b : X) (p q : Bool) → nat_le (start a + size a) (start b) ≡ p → nat_le (start b + size b) (start a) ≡ q → not (p || q) ≡ false → start a ≤ start b → 0 < size b → IsBefore a b
  before_by a b true q e f n l some = leb-true (start a + size a) (start b) e
  before_by a b false true e f n l some = let m = leb-true (start b + size b) (start a) f in absurd (omega arith)
  before_by a b false false e f n l some = absurd (cc)

  each_before : (x : X) (ys : List X) → AllByRecursion (λ y. start x ≤ start y) ys → AllByRecursion (λ y. clash x y ≡ false) ys → AllByRecursion (λ y. 0 < size y) ys → AllByRecursion (IsBefore x) ys
  each_before x [] up apart some = tt
  each_before x (y ∷ ys) up apart some =
      (before_by x y _ _ refl refl apart.0 up.0 some.0, each_before x ys up.1 apart.1 some.1)

  pairs_before : (ys : List X) → Rises ys → IsDistinct clash ys → AllByRecursion (λ y. 0 < size y) ys → AllPairs IsBefore ys
  unfolding IsDistinct
  pairs_before [] up apart some = λ i j d p q. absurd (omega arith)
  pairs_before (y ∷ ys) up apart some =
      AllPairs-cons IsBefore y ys (All-from_recursion (IsBefore y) ys (each_before y ys up.0 apart.0 some.1)) (pairs_before ys up.1 apart.1 some.1)

  -- ranges that share nothing and aren't empty, in order
  pub before_in_order : (xs : List X) → IsDistinct clash xs → All (λ x. 0 < size x) xs → AllPairs IsBefore (in_order no_higher xs)
  before_in_order xs apart some =
      let ys = in_order no_higher xs in
      let p = in_order_permutes no_higher xs in
      pairs_before ys (rises_in_order xs)
      (IsDistinct-IsPermutation clash (λ a b. ap not (or_comm (nat_le (start a + size a) (start b)) (nat_le (start b + size b) (start a)))) xs ys p apart)
      (recursion_from_All (λ x. 0 < size x) ys (All-permutation (λ x. 0 < size x) xs ys p some))
