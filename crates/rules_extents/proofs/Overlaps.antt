-- When ranges overlap, told by their addresses in order; and which pair is the first.
use Rattle.std.proofs.Common.{◌≡◌, ℕ, ◌+◌, ◌<◌, ◌↔◌, inl, inr, Bool, true, false, leb, not, List, [], ◌∷◌, length, get_or, take, map, Some, None, refl, sym, ap, ◌∙◌, arith}
use Rattle.std.specs.Prelude.{◌||◌, is_some}
use Rattle.std.specs.List.{AllAdjacentBelow}
use Rattle.std.specs.List.Sorted.{IsPermutation, IsNonDecreasingBy}
use Rattle.std.proofs.lemmas.Bool.{leb-true, le-leb, or_cases, or_right, cases_order, false≢true}
use Rattle.std.proofs.lemmas.List.{length-map, get_or-map, take_all}
use Rattle.std.proofs.lemmas.List.Sorted.{IsPermutation-sym}
use Rattle.muen_num.specs.Search.{first_in, unless}
use Rattle.policy_lawful.specs.Offences.{two}
use Rattle.policy_lawful.specs.Rules.{are_apart, overlapping, first_overlap}
use Rattle.policy_lawful.specs.declared.offence.Extent.{Extent}
use Rattle.muen_num.proofs.SearchLaws.{unless_none}
use Rattle.rules_extents.specs.declared.overlap.AddressRange.{AddressRange}
use Rattle.rules_extents.specs.AddressRange.{IsApart, IsBelow, address_range_of, sum_of_ends}
use Rattle.muen_num.proofs.FirstPair.{pairs_at, pairs_from, first_pair-last}
use Rattle.rules_extents.proofs.Ranges.{EachTwo, EachTwo-permutation, apart_from_neighbours, neighbours_from_apart}

-- ---- two ranges

apart_at : (a b : Extent) → overlapping a b ≡ None → IsApart (address_range_of a) (address_range_of b)
apart_at a b e =
    elim (or_cases _ _ (unless_none (are_apart a b) (two a.name b.name) e)) [
      | inl f ↦ inl (leb-true _ _ f)
      | inr f ↦ inr (leb-true _ _ f)
    ]

apart_from : (a b : Extent) → IsApart (address_range_of a) (address_range_of b) → overlapping a b ≡ None
apart_from a b (inl h) = ap (λ t. unless (t || leb (b.address + b.size) a.address) (two a.name b.name)) (le-leb _ _ h)
apart_from a b (inr h) =
    ap (λ t. unless t (two a.name b.name)) (or_right (leb (a.address + a.size) b.address) (leb (b.address + b.size) a.address) (le-leb _ _ h))

pub apart_back : (a b : AddressRange) → IsApart a b → IsApart b a
apart_back a b (inl h) = inr h
apart_back a b (inr h) = inl h

-- ---- many

nowhere : Extent
nowhere = record { name = []; address = 0; size = 0 }

-- no two overlap just where each two are apart
pub ranges_apart : (xs : List Extent) → first_overlap xs ≡ None → EachTwo IsApart (map address_range_of xs)
unfolding first_overlap
ranges_apart xs e i j d li lj n =
    let many : length (map address_range_of xs) ≡ length xs = length-map xs address_range_of in
    let ki : i < length xs = omega arith in
    let kj : j < length xs = omega arith in
    let pairs = pairs_at overlapping xs e in
    rw (get_or-map address_range_of xs i nowhere d ki, get_or-map address_range_of xs j nowhere d kj) (
    elim (cases_order i j) [
      | inl same ↦ absurd (n same)
      | inr apart ↦ elim apart [
        | inl l ↦ apart_at _ _ (pairs i j nowhere l kj)
        | inr l ↦ apart_back _ _ (apart_at _ _ (pairs j i nowhere l ki))
      ]
    ]
    )

pub overlap_none : (xs : List Extent) → EachTwo IsApart (map address_range_of xs) → first_overlap xs ≡ None
unfolding first_overlap
overlap_none xs h =
    pairs_from overlapping xs (λ i j d l m.
    let many : length (map address_range_of xs) ≡ length xs = length-map xs address_range_of in
    let k : i < length xs = omega arith in
    let apart = h i j (address_range_of d) (omega arith) (omega arith) (omega arith) in
    apart_from _ _ (rw (get_or-map address_range_of xs i d (address_range_of d) k, get_or-map address_range_of xs j d (address_range_of d) m) at apart))

-- some two overlap just where, in that order, one doesn't end before the next begins
pub overlap_is : (xs : List Extent) (ys : List AddressRange) (r : Bool) → IsPermutation (map address_range_of xs) ys → IsNonDecreasingBy sum_of_ends ys → (r ≡ true) ↔ AllAdjacentBelow IsBelow ys (length ys) → not r ≡ is_some (first_overlap xs)
overlap_is xs ys true moved up h =
    let apart = EachTwo-permutation IsApart ys (map address_range_of xs) (IsPermutation-sym _ _ moved) (apart_from_neighbours ys (h.0 refl)) in
    ap is_some (sym (overlap_none xs apart))
overlap_is xs ys false moved up h =
    (elim (first_overlap xs) as (λ o. first_overlap xs ≡ o → true ≡ is_some o) [
      | None ↦ λ e.
          let apart = EachTwo-permutation IsApart (map address_range_of xs) ys moved (ranges_apart xs e) in
          absurd (false≢true (h.1 (neighbours_from_apart ys up apart)))
      | Some o ↦ λ e. refl
    ]) refl

-- what `last` overlaps first, where it ends the least front in which some two overlap
pub overlap_with_last : (xs : List Extent) (n : ℕ) (last : Extent) → n < length xs → last ≡ get_or xs n last → first_overlap (take n xs) ≡ None → is_some (first_overlap (take (n + 1) xs)) ≡ true → first_in (λ b. overlapping b last) (take n xs) ≡ first_overlap xs
unfolding first_overlap
overlap_with_last xs n last l here none some =
    ap (λ x. first_in (λ b. overlapping b x) (take n xs)) here ∙ sym (first_pair-last overlapping xs n last l none some)

-- ---- where the search begins

pub no_overlap_in_none : first_overlap [] ≡ None
unfolding first_overlap
no_overlap_in_none = refl

pub some_within : (xs : List Extent) → is_some (first_overlap xs) ≡ true → 0 < length xs
some_within [] e = absurd (false≢true (sym (ap is_some no_overlap_in_none) ∙ e))
some_within (x ∷ xs) e = omega arith

-- the front of all has two that overlap where some two do
pub overlap_in_all : (xs : List Extent) → is_some (first_overlap xs) ≡ true → is_some (first_overlap (take (length xs) xs)) ≡ true
overlap_in_all xs some = ap (λ front. is_some (first_overlap front)) (take_all (length xs) xs (omega arith)) ∙ some
