-- The windows of a subject in parts: those on what its component provides are looked at once, at the component.
use Rattle.std.proofs.Common.{◌≡◌, ℕ, zero, suc, ◌+◌, ◌<◌, ◌⊎◌, inl, inr, get_or, true, List, [], ◌∷◌, ◌++◌, length, map, Option, Some, None, refl, sym, ap, ◌∙◌, subst}
use Rattle.std.specs.Prelude.{slice_get, IfSome, IsSomeAnd}
use Rattle.std.specs.Option.{option_map_or, option_or}
use Rattle.std.specs.List.{enumerate_from}
use Rattle.std.proofs.lemmas.List.{map-append}
use Rattle.std.proofs.lemmas.Option.{slice_get_read}
use Rattle.muen_num.specs.Search.{first_in, unless}
use Rattle.muen_num.proofs.SearchLaws.{first_in-append, none_both, option_or-None, unless_none}
use Rattle.policy_lawful.specs.ByIndex.{provided_at}
use Rattle.policy_lawful.specs.Offences.{two}
use Rattle.policy_lawful.specs.Resolution.{Resolution}
use Rattle.policy_lawful.specs.Rules.{first_overlap, is_guest}
use Rattle.policy_lawful.specs.Views.{provided_view, view_extent, views_of}
use Rattle.policy_lawful.specs.declared.resolved.ComponentUse.{ComponentUse}
use Rattle.policy_lawful.specs.declared.resolved.Subject.{Subject}
use Rattle.policy_lawful.specs.declared.view.View.{View}
use Rattle.policy_lawful.specs.source.Component.{Component}
use Rattle.policy_lawful.specs.source.Provided.{Provided}
use Rattle.policy_views.specs.Parts.{behind_views, front_views, given_views}
use Rattle.policy_views.proofs.ViewsInParts.{in_parts}
use Rattle.rules_extents.specs.Parted.{AreProvided, kept_at, provided_extent, provided_to}
use Rattle.rules_extents.specs.Shared.{AreKept, StayApart}
use Rattle.rules_extents.specs.Windows.{component_ranges, elements_offence, outside, outside_in_subject, overlap_in_subject, provided_offence}
use Rattle.rules_extents.specs.declared.overlap.AddressRange.{AddressRange}

-- ---- rule 4

pub components_kept : (r : Resolution) → elements_offence r ≡ None → first_in component_ranges r.components ≡ None
components_kept r h = (none_both _ (first_in component_ranges r.components) h).1

none_there : {X O : Type 0} (at : X → Option O) (xs : List X) → first_in at xs ≡ None → (k : ℕ) (x : X) → slice_get xs k ≡ Some x → at x ≡ None
none_there at [] h k x e = absurd (cc)
none_there at (y ∷ ys) h zero x e = let same : y ≡ x = cc in subst (λ z. at z ≡ None) same (none_both (at y) (first_in at ys) h).0
none_there at (y ∷ ys) h (suc k) x e = none_there at ys (none_both (at y) (first_in at ys) h).1 k x e

of_provided : (by name : List ℕ) (n : ℕ) (xs : List Provided) → first_in (provided_offence name) xs ≡ None → first_in (outside by) (map provided_view (enumerate_from n xs)) ≡ None
of_provided by name n [] h = refl
of_provided by name n (x ∷ xs) h =
    let both = none_both (provided_offence name x) (first_in (provided_offence name) xs) h in
    let here : is_guest x.virtual_address x.size ≡ true = unless_none (is_guest x.virtual_address x.size) (two name x.logical) both.0 in
    ap (λ b. option_or (unless b (two by x.logical)) (first_in (outside by) (map provided_view (enumerate_from (n + 1) xs)))) here ∙ of_provided by name (n + 1) xs both.1

of_component : (by : List ℕ) (o : Option Component) → ((c : Component) → o ≡ Some c → component_ranges c ≡ None) → first_in (outside by) (map provided_view (enumerate_from 0 (option_map_or (λ c. c.provides) o []))) ≡ None
of_component by None h = refl
of_component by (Some c) h =
    of_provided by c.name 0 c.provides (none_both (first_in (provided_offence c.name) c.provides) _ (none_both _ _ (h c refl)).0).0

given_inside : (r : Resolution) (by : List ℕ) (used : Option ComponentUse) → first_in component_ranges r.components ≡ None → first_in (outside by) (map provided_view (enumerate_from 0 (provided_at r.components used))) ≡ None
given_inside r by None h = refl
given_inside r by (Some used) h = of_component by (slice_get r.components used.used) (λ c e. none_there component_ranges r.components h used.used c e)

pub outside_parted : (r : Resolution) (s : Subject) → first_in component_ranges r.components ≡ None
    → outside_in_subject r s ≡ option_or (first_in (outside s.name) (front_views r s)) (first_in (outside s.name) (behind_views r s))
outside_parted r s h =
    ap (first_in (outside s.name)) (sym (in_parts r s))
    ∙ first_in-append (outside s.name) (front_views r s ++ given_views r s) (behind_views r s)
    ∙ ap (λ o. option_or o (first_in (outside s.name) (behind_views r s)))
    (first_in-append (outside s.name) (front_views r s) (given_views r s)
    ∙ ap (option_or (first_in (outside s.name) (front_views r s))) (given_inside r s.name s.component h)
    ∙ option_or-None (first_in (outside s.name) (front_views r s)))

-- ---- rule 5

given_extents : (n : ℕ) (xs : List Provided) → map view_extent (map provided_view (enumerate_from n xs)) ≡ map provided_extent xs
given_extents n [] = refl
given_extents n (x ∷ xs) = ap (λ es. provided_extent x ∷ es) (given_extents (n + 1) xs)

extents_parted : (r : Resolution) (s : Subject)
    → map view_extent (views_of r s) ≡ map view_extent (front_views r s) ++ map provided_extent (provided_at r.components s.component) ++ map view_extent (behind_views r s)
extents_parted r s =
    ap (map view_extent) (sym (in_parts r s))
    ∙ map-append view_extent (front_views r s ++ given_views r s) (behind_views r s)
    ∙ ap (λ es. es ++ map view_extent (behind_views r s))
    (map-append view_extent (front_views r s) (given_views r s)
    ∙ ap (λ es. map view_extent (front_views r s) ++ es) (given_extents 0 (provided_at r.components s.component)))

module _ (r : Resolution) (s : Subject) (front behind : List View) (in_front : front ≡ front_views r s) (after : behind ≡ behind_views r s) where
  all_are : map view_extent front ++ map provided_extent (provided_at r.components s.component) ++ map view_extent behind ≡ map view_extent (views_of r s)
  all_are =
      (λ i. map view_extent (in_front i) ++ map provided_extent (provided_at r.components s.component) ++ map view_extent (after i)) ∙ sym (extents_parted r s)

  pub overlap_parted : first_overlap (map view_extent front ++ map provided_extent (provided_at r.components s.component) ++ map view_extent behind) ≡ overlap_in_subject r s
  overlap_parted = ap first_overlap all_are

  told : (kept : List (Option (List AddressRange))) (used : Option ComponentUse) → AreProvided kept r.components → (apart : List AddressRange) → provided_to kept used ≡ Some apart → StayApart apart (map view_extent front) (map view_extent behind)
      → first_overlap (map view_extent front ++ map provided_extent (provided_at r.components used) ++ map view_extent behind) ≡ None
  told kept None are apart is stay = absurd (cc)
  told kept (Some used) are apart is stay =
      let (c, at, kept) = are used.used apart is in
      ap (λ o. first_overlap (map view_extent front ++ map provided_extent (option_map_or (λ c. c.provides) o []) ++ map view_extent behind)) at
      ∙ stay (map provided_extent c.provides) kept

  pub told_apart : (kept : List (Option (List AddressRange))) → AreProvided kept r.components → IsSomeAnd (provided_to kept s.component) (λ ranges. StayApart ranges (map view_extent front) (map view_extent behind)) → None ≡ overlap_in_subject r s
  told_apart kept are stay =
      (elim (provided_to kept s.component) as (λ o. provided_to kept s.component ≡ o → IsSomeAnd o (λ ranges. StayApart ranges (map view_extent front) (map view_extent behind)) → None ≡ overlap_in_subject r s) [
        | None ↦ λ is stay. absurd stay
        | Some apart ↦ λ is stay. sym (told kept s.component are apart is stay) ∙ overlap_parted
      ]) refl stay

-- what is kept for one component more
kept_last : (all : List (Option (List AddressRange))) (o : Option (List AddressRange)) (k : ℕ) (ranges : List AddressRange) → kept_at (all ++ o ∷ []) k ≡ Some ranges → (kept_at all k ≡ Some ranges) ⊎ ((k ≡ length all) × (o ≡ Some ranges))
kept_last [] o zero ranges e = inr (refl, e)
kept_last [] o (suc k) ranges e = absurd (cc)
kept_last (x ∷ all) o zero ranges e = inl e
kept_last (x ∷ all) o (suc k) ranges e =
    elim (kept_last all o k ranges e) as (λ _. (kept_at all k ≡ Some ranges) ⊎ ((suc k ≡ suc (length all)) × (o ≡ Some ranges))) [
      | inl h ↦ inl h
      | inr h ↦ inr (ap suc h.0, h.1)
    ]

pub more_provided : (all : List (Option (List AddressRange))) (o : Option (List AddressRange)) (cs : List Component) (i : ℕ) (c : Component) → length all ≡ i → AreProvided all cs → i < length cs → c ≡ get_or cs i c
    → IfSome o (λ ranges. AreKept ranges (map provided_extent c.provides)) → AreProvided (all ++ o ∷ []) cs
more_provided all o cs i c room had within is kept k ranges e =
    elim (kept_last all o k ranges e) as (λ _. (c : Component) × (slice_get cs k ≡ Some c) × AreKept ranges (map provided_extent c.provides)) [
      | inl h ↦ had k ranges h
      | inr h ↦
          let at : k ≡ i = h.0 ∙ room in
          (c, subst (λ j. slice_get cs j ≡ Some c) (sym at) (slice_get_read cs (length cs) i c refl within is), subst (λ o. IfSome o (λ ranges. AreKept ranges (map provided_extent c.provides))) h.1 kept)
    ]

pub none_provided : (all : List (Option (List AddressRange))) (cs : List Component) → all ≡ [] → AreProvided all cs
none_provided [] cs none k ranges e = absurd (cc)
none_provided (o ∷ all) cs none k ranges e = absurd (cc)
