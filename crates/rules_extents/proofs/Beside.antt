-- Ranges beside others that share no address.
use Rattle.std.proofs.Common.{◌≡◌, ℕ, ◌+◌, ◌-◌, ◌<◌, ◌≤◌, ◌⊎◌, inl, inr, Bool, false, List, [], ◌++◌, length, get_or, map, Option, Some, None, refl, sym, ap, ◌∙◌, subst, arith, length-append}
use Rattle.std.specs.Prelude.{is_some}
use Rattle.std.specs.List.{All, AllAdjacentBelow}
use Rattle.std.specs.List.Sorted.{IsPermutation, IsNonDecreasingBy}
use Rattle.std.proofs.lemmas.Bool.{cases_lt}
use Rattle.std.proofs.lemmas.List.{append_assoc, get_or-append-add, get_or-map, get_or_append_left, length-map, map-append}
use Rattle.std.proofs.lemmas.List.Sorted.{All-permutation, IsPermutation-append_comm, IsPermutation-append_left, IsPermutation-map, IsPermutation-sym}
use Rattle.policy_lawful.specs.Rules.{first_overlap}
use Rattle.policy_lawful.specs.declared.offence.Extent.{Extent}
use Rattle.rules_extents.specs.AddressRange.{IsApart, IsBelow, address_range_of}
use Rattle.rules_extents.specs.Shared.{AreKept, IsBehind, IsInFront, StayApart}
use Rattle.rules_extents.specs.declared.overlap.AddressRange.{AddressRange}
use Rattle.rules_extents.proofs.Overlaps.{apart_back, overlap_none, ranges_apart}
use Rattle.rules_extents.proofs.Ranges.{EachTwo, EachTwo-permutation, apart_from_neighbours}

-- ---- between two that are next to each other

module _ (ranges : List AddressRange) (up : IsNonDecreasingBy (λ s. s.address) ranges) (below : AllAdjacentBelow IsBelow ranges (length ranges)) (count : ℕ) (bound : count ≤ length ranges) (range : AddressRange) where
  -- each in front ends before the last of them begins, or is it
  in_front : ((d : AddressRange) → 0 < count → IsBelow (get_or ranges (count - 1) d) range) → (k : ℕ) (d : AddressRange) → k < count → IsBelow (get_or ranges k d) range
  in_front last k d l =
      let there = last d (omega (arith, l)) in
      elim (cases_lt k (count - 1)) as (λ _. IsBelow (get_or ranges k d) range) [
        | inl before ↦
            let here = below k d (omega (arith, before, bound)) in
            let on = up (k + 1) (count - 1) d (omega (arith, before)) (omega (arith, bound, l)) in
            omega (arith, here, on, there)
        | inr at ↦ subst (λ j. IsBelow (get_or ranges j d) range) (omega (arith, at, l)) there
      ]

  pub all_apart : IsBehind ranges count range → IsInFront ranges count range → All (λ s. IsApart s range) ranges
  all_apart last next k d l =
      elim (cases_lt k count) as (λ _. IsApart (get_or ranges k d) range) [
        | inl before ↦ inl (in_front last k d before)
        | inr behind ↦
            let here = next d (omega (arith, behind, l)) in
            let on = up count k d behind l in
            inr (omega (arith, here, on))
      ]

-- ---- two lists

abbrev Across : {X : Type 0} → (X → X → Type 0) → List X → List X → Type 0
Across {X} R xs ys = (i j : ℕ) (d : X) → i < length xs → j < length ys → R (get_or xs i d) (get_or ys j d)

-- an element of two lists that are joined
where_joined : {X : Type 0} (xs ys : List X) (i : ℕ) (d : X) → i < length (xs ++ ys)
    → ((i < length xs) × (get_or (xs ++ ys) i d ≡ get_or xs i d)) ⊎ ((length xs ≤ i) × ((i - length xs < length ys) × (get_or (xs ++ ys) i d ≡ get_or ys (i - length xs) d)))
where_joined xs ys i d l =
    let many : length (xs ++ ys) ≡ length xs + length ys = length-append xs ys in
    elim (cases_lt i (length xs)) as (λ _. ((i < length xs) × (get_or (xs ++ ys) i d ≡ get_or xs i d)) ⊎ ((length xs ≤ i) × ((i - length xs < length ys) × (get_or (xs ++ ys) i d ≡ get_or ys (i - length xs) d)))) [
      | inl h ↦ inl (h, get_or_append_left xs ys d i h)
      | inr h ↦ inr (h, (omega (arith, many, l, h), ap (λ j. get_or (xs ++ ys) j d) (omega (arith, h)) ∙ get_or-append-add xs ys (i - length xs) d))
    ]

EachTwo-append : {X : Type 0} (R : X → X → Type 0) → ((a b : X) → R a b → R b a) → (xs ys : List X) → EachTwo R xs → EachTwo R ys → Across R xs ys → EachTwo R (xs ++ ys)
EachTwo-append R turned xs ys one other across i j d li lj n =
    elim (where_joined xs ys i d li) as (λ _. R (get_or (xs ++ ys) i d) (get_or (xs ++ ys) j d)) [
      | inl a ↦ elim (where_joined xs ys j d lj) as (λ _. R (get_or (xs ++ ys) i d) (get_or (xs ++ ys) j d)) [
        | inl b ↦ rw (a.1, b.1) (one i j d a.0 b.0 n)
        | inr b ↦ rw (a.1, b.1.1) (across i (j - length xs) d a.0 b.1.0)
      ]
      | inr a ↦ elim (where_joined xs ys j d lj) as (λ _. R (get_or (xs ++ ys) i d) (get_or (xs ++ ys) j d)) [
        | inl b ↦ rw (a.1.1, b.1) (turned _ _ (across j (i - length xs) d b.0 a.1.0))
        | inr b ↦ rw (a.1.1, b.1.1) (other (i - length xs) (j - length xs) d a.1.0 b.1.0 (λ same. n (let f = a.0 in let g = b.0 in omega (arith, same, f, g))))
      ]
    ]

-- ---- ranges beside those that are kept

across : (kept others : List Extent) (ranges : List AddressRange) → AreKept ranges kept → All (λ e. All (λ s. IsApart s (address_range_of e)) ranges) others → Across IsApart (map address_range_of kept) (map address_range_of others)
across kept others ranges moved clear i j d li lj =
    let many : length (map address_range_of others) ≡ length others = length-map others address_range_of in
    let nowhere : Extent = record { name = []; address = 0; size = 0 } in
    rw (get_or-map address_range_of others j nowhere d (omega (arith, many, lj)))
    (All-permutation (λ s. IsApart s (address_range_of (get_or others j nowhere))) ranges (map address_range_of kept) (IsPermutation-sym _ _ moved) (clear j nowhere (omega (arith, many, lj))) i d li)

reordered : (front kept behind : List Extent) → EachTwo IsApart (map address_range_of (kept ++ (front ++ behind))) → EachTwo IsApart (map address_range_of (front ++ kept ++ behind))
reordered front kept behind h =
    EachTwo-permutation IsApart (map address_range_of (kept ++ (front ++ behind))) (map address_range_of (front ++ kept ++ behind))
    (IsPermutation-map address_range_of (kept ++ (front ++ behind)) (front ++ kept ++ behind)
    (subst (λ xs. IsPermutation xs (front ++ kept ++ behind)) (append_assoc kept front behind)
    (IsPermutation-append_left behind (kept ++ front) (front ++ kept) (IsPermutation-append_comm kept front)))) h

pub stay_apart : (ranges : List AddressRange) (front behind : List Extent) → AllAdjacentBelow IsBelow ranges (length ranges) → first_overlap (front ++ behind) ≡ None
    → All (λ e. All (λ s. IsApart s (address_range_of e)) ranges) (front ++ behind) → StayApart ranges front behind
stay_apart ranges front behind below apart clear kept moved =
    let both : EachTwo IsApart (map address_range_of (kept ++ (front ++ behind))) =
    subst (EachTwo IsApart) (sym (map-append address_range_of kept (front ++ behind)))
    (EachTwo-append IsApart apart_back (map address_range_of kept) (map address_range_of (front ++ behind))
    (EachTwo-permutation IsApart ranges (map address_range_of kept) (IsPermutation-sym _ _ moved) (apart_from_neighbours ranges below))
    (ranges_apart (front ++ behind) apart)
    (across kept (front ++ behind) ranges moved clear)) in
    overlap_none (front ++ kept ++ behind) (reordered front kept behind both)

pub none_at_all : {X : Type 0} (o : Option X) (b : Bool) → b ≡ is_some o → b ≡ false → o ≡ None
none_at_all None b says isnt = refl
none_at_all (Some x) b says isnt = absurd (cc)
