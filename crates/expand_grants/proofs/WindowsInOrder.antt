-- The windows of a subject by guest address: no two have the same.
use Rattle.std.proofs.Common.{◌≡◌, ℕ, zero, suc, ◌+◌, ◌<◌, Bool, true, false, All, List, [], ◌∷◌, length, get_or, map, Some, None, sym, ap, ◌∙◌, arith}
use Rattle.std.specs.Prelude.{◌==◌, ◌||◌, nat_le, slice_get}
use Rattle.std.specs.List.{AllByRecursion, AllPairs, IsDistinct, list_all}
use Rattle.std.specs.List.Sorted.{IsNonDecreasingBy, IsPermutation}
use Rattle.std.proofs.lemmas.Bool.{and_parts, ltb-true}
use Rattle.std.proofs.lemmas.Bool.Decides.{nat_tests}
use Rattle.std.proofs.lemmas.List.{get_or-map, length-map}
use Rattle.std.proofs.lemmas.List.Folds.{list_all-map}
use Rattle.std.proofs.lemmas.Map.Keys.{IsDistinct-IsPermutation}
use Rattle.std.proofs.lemmas.Option.{slice_get-get_or}
use Rattle.muen_num.proofs.FirstPair.{pairs_at}
use Rattle.muen_num.proofs.Lists.{passes_at}
use Rattle.muen_num.proofs.Numbers.{equal_turned, lower}
use Rattle.muen_num.proofs.SearchLaws.{unless_none}
use Rattle.policy_lawful.specs.Resolution.{IsResolved, Resolution, source_of, subject_named, subject_in_range}
use Rattle.policy_lawful.specs.Rules.{are_apart, first_overlap, is_guest, offence_4, offence_5, overlapping, window_extents}
use Rattle.policy_lawful.specs.declared.offence.Extent.{Extent}
use Rattle.policy_lawful.specs.declared.resolved.Subject.{Subject}
use Rattle.policy_lawful.proofs.KeptAddresses.{addresses_kept}
use Rattle.policy_lawful.specs.Views.{view_extent, views_of}
use Rattle.policy_lawful.specs.declared.view.View.{View}
use Rattle.policy_lawful.proofs.ExtentsByIndex.{extents_by_index}
use Rattle.expand_grants.specs.Kept.{is_lower_view, same_guest}
use Rattle.expand_grants.specs.Numbered.{IsNamed}
use Rattle.expand_grants.specs.Ordered.{in_order}
use Rattle.expand_grants.proofs.Elements.{none_there}
use Rattle.expand_grants.proofs.Ordered.{All-in_order, ordered_is}

-- ---- elements of which no two are the same

module _ {X : Type 0} (same : X → X → Bool) where
  each_later : (x : X) (xs : List X) → ((j : ℕ) (d : X) → j < length xs → same x (get_or xs j d) ≡ false) → AllByRecursion (λ y. same x y ≡ false) xs
  each_later x [] h = tt
  each_later x (y ∷ ys) h = (h 0 y (omega arith), each_later x ys (λ j d l. h (suc j) d (omega arith)))

  distinct_from : (xs : List X) → AllPairs (λ a b. same a b ≡ false) xs → IsDistinct same xs
  unfolding IsDistinct
  distinct_from [] h = tt
  distinct_from (x ∷ xs) h = (each_later x xs (λ j d l. h 0 (suc j) d (omega arith) (omega arith)), distinct_from xs (λ i j d l m. h (suc i) (suc j) d (omega arith) (omega arith)))

  later_is : (x : X) (xs : List X) → AllByRecursion (λ y. same x y ≡ false) xs → (j : ℕ) (d : X) → j < length xs → same x (get_or xs j d) ≡ false
  later_is x [] h j d l = absurd (omega arith)
  later_is x (y ∷ ys) h zero d l = h.0
  later_is x (y ∷ ys) h (suc j) d l = later_is x ys h.1 j d (omega arith)

  pairs_of : (xs : List X) → IsDistinct same xs → AllPairs (λ a b. same a b ≡ false) xs
  unfolding IsDistinct
  pairs_of [] h i j d l m = absurd (omega arith)
  pairs_of (x ∷ xs) h i zero d l m = absurd (omega arith)
  pairs_of (x ∷ xs) h zero (suc j) d l m = later_is x xs h.0 j d (omega arith)
  pairs_of (x ∷ xs) h (suc i) (suc j) d l m = pairs_of xs h.1 i j d (omega arith) (omega arith)

-- ---- windows that are sorted

-- what is sorted by guest addresses that differ is in their order
pub sorted_is : (xs ys : List View) → IsDistinct same_guest xs → IsPermutation xs ys → IsNonDecreasingBy (λ v. v.guest) ys → ys ≡ in_order is_lower_view xs
sorted_is xs ys distinct moved rising =
    let apart = pairs_of same_guest ys (IsDistinct-IsPermutation same_guest (λ a b. equal_turned a.guest b.guest) xs ys moved distinct) in
    sym (ordered_is is_lower_view xs ys moved
    (λ i j d l m. lower (get_or ys i d).guest (get_or ys j d).guest (rising i j d (omega (arith, l)) m) (apart i j d l m)))

-- and is named as before
pub named_in_order : (r : Resolution) (xs : List View) → All (λ v. IsNamed r v v.shows) xs → All (λ v. IsNamed r v v.shows) (in_order is_lower_view xs)
named_in_order r xs h = All-in_order is_lower_view (λ v. IsNamed r v v.shows) xs h

-- ---- windows of a lawful policy

differ_by : (a size_a b size_b : ℕ) → 0 < size_a → 0 < size_b → (nat_le (a + size_a) b || nat_le (b + size_b) a) ≡ true → (a == b) ≡ false
differ_by a size_a b size_b x y apart = grind (arith, nat_tests, x, y, apart)

some_size : (address size : ℕ) → is_guest address size ≡ true → 0 < size
some_size address size h = ltb-true 0 size (and_parts _ _ (and_parts _ _ (and_parts _ _ h).0).1).1

differ : (a b : View) → is_guest a.guest a.size ≡ true → is_guest b.guest b.size ≡ true → are_apart (view_extent a) (view_extent b) ≡ true → same_guest a b ≡ false
differ a b g h apart = differ_by a.guest a.size b.guest b.size (some_size a.guest a.size g) (some_size b.guest b.size h) apart

extents_differ : (views : List View) → list_all (λ e. is_guest e.address e.size) (map view_extent views) ≡ true → first_overlap (map view_extent views) ≡ None → IsDistinct same_guest views
unfolding first_overlap
extents_differ views ranges none =
    distinct_from same_guest views
    (λ i j d l m.
    let many : length (map view_extent views) ≡ length views = length-map views view_extent in
    let a = get_or views i d in
    let b = get_or views j d in
    let each : list_all (λ v. is_guest v.guest v.size) views ≡ true = sym (list_all-map (λ (e : Extent). is_guest e.address e.size) view_extent views) ∙ ranges in
    let at_a : get_or (map view_extent views) i (view_extent d) ≡ view_extent a = get_or-map view_extent views i d (view_extent d) (omega (arith, l, m)) in
    let at_b : get_or (map view_extent views) j (view_extent d) ≡ view_extent b = get_or-map view_extent views j d (view_extent d) m in
    let apart : overlapping (view_extent a) (view_extent b) ≡ None =
    (λ k. overlapping (sym at_a k) (sym at_b k)) ∙ pairs_at overlapping (map view_extent views) none i j (view_extent d) l (omega (arith, many, m)) in
    differ a b
    (passes_at (λ v. is_guest v.guest v.size) views i a each (slice_get-get_or views i d (omega (arith, l, m))))
    (passes_at (λ v. is_guest v.guest v.size) views j b each (slice_get-get_or views j d m))
    (unless_none _ _ apart))

-- the windows of a subject are at different guest addresses
pub guests_differ : (r : Resolution) (k : ℕ) (s : Subject) → IsResolved r → offence_4 (source_of r) ≡ None → offence_5 (source_of r) ≡ None → slice_get r.subjects k ≡ Some s → subject_in_range r s ≡ true
    → IsDistinct same_guest (views_of r s)
unfolding source_of offence_5
guests_differ r k s q lawful_4 lawful_5 at in_range =
    let p = source_of r in
    let by_index = extents_by_index r s q in_range in
    let ranges = passes_at (λ s. list_all (λ e. is_guest e.address e.size) (window_extents p (subject_named r s))) r.subjects k s
    (sym (list_all-map (λ s. list_all (λ e. is_guest e.address e.size) (window_extents p s)) (subject_named r) r.subjects) ∙ (addresses_kept p lawful_4).windows) at in
    let none = none_there (λ s. first_overlap (window_extents p s)) (subject_named r) r.subjects k s lawful_5 at in
    extents_differ (views_of r s)
    (ap (list_all (λ e. is_guest e.address e.size)) (sym by_index) ∙ ranges)
    (ap first_overlap (sym by_index) ∙ none)
