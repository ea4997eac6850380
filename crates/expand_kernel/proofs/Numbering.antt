-- All regions by number: those of things that are placed, and the kernel's by what is granted, are those of the policy.
use Rattle.std.proofs.Common.{◌≡◌, ℕ, zero, suc, ◌+◌, ◌*◌, Bool, true, List, [], ◌∷◌, ◌++◌, length, map, None, Some, refl, sym, ap, ◌∙◌, arith, length-append}
use Rattle.std.specs.Prelude.{option_map, slice_get}
use Rattle.std.specs.List.{All, AllByRecursion, AllZip, flat_map, list_all}
use Rattle.std.proofs.lemmas.Bool.{and_parts}
use Rattle.std.proofs.lemmas.List.{length-map}
use Rattle.std.proofs.lemmas.List.Elements.{All-from_recursion}
use Rattle.std.proofs.lemmas.Option.{slice_get-map}
use Rattle.expand_grants.specs.Grants.{AreGrants, AreGrantsOf}
use Rattle.expand_grants.specs.declared.granted.Grants.{Grants}
use Rattle.expand_kernel.specs.ByIndex.{CanMap, granted_ranges, kernel_first, kernel_for, kernel_for_each, regions_by_number}
use Rattle.expand_kernel.specs.Regions.{kernel_regions, kernel_regions_of, regions_of}
use Rattle.policy_lawful.specs.declared.thing.Region.{Region}
use Rattle.expand_kernel.proofs.GrantedRanges.{can_map, pages_granted}
use Rattle.ept_emit.specs.Pages.{ept_pages}
use Rattle.muen_num.proofs.Lists.{at_left, get_right}
use Rattle.muen_num.specs.Search.{first_in}
use Rattle.muen_num.proofs.SearchLaws.{none_both}
use Rattle.policy_lawful.specs.Lawful.{IsLawful}
use Rattle.policy_lawful.specs.Resolution.{IsResolved, Resolution, source_of, subject_named}
use Rattle.policy_lawful.specs.Rules.{first_overlap, is_guest, offence_5, window_extents}
use Rattle.policy_lawful.specs.Thing.{Item, placed_items}
use Rattle.policy_lawful.specs.Things.{AreDeclared, IsThingOf, placed_things, region_of, region_of_thing}
use Rattle.policy_lawful.specs.declared.resolved.Subject.{Subject}
use Rattle.policy_lawful.specs.declared.thing.Thing.{Thing}
use Rattle.policy_lawful.proofs.KeptAddresses.{addresses_kept}
use Rattle.policy_lawful.proofs.KeptRules.{rules_of}
use Rattle.policy_lawful.proofs.ThingsByIndex.{placed_by_index}
use Rattle.policy_lawful.specs.source.Source.{Source}
use Rattle.policy_lawful.specs.source.Subject.{Subject as NamedSubject}

-- each window of a subject is a range of guest addresses
abbrev are_guests : Resolution → NamedSubject → Bool
are_guests r s = list_all (λ e. is_guest e.address e.size) (window_extents (source_of r) s)

module _ (r : Resolution) where
  -- each subject's windows can be mapped
  can_map_each : (ss : List Subject) (gs : List Grants) → AllZip (AreGrantsOf r) ss gs
      → list_all (are_guests r) (map (subject_named r) ss) ≡ true → first_in (λ s. first_overlap (window_extents (source_of r) s)) (map (subject_named r) ss) ≡ None
      → AllByRecursion (λ g. CanMap g.windows) gs
  can_map_each [] [] granted guests none = tt
  can_map_each [] (g ∷ gs) granted guests none = absurd granted
  can_map_each (s ∷ ss) [] granted guests none = absurd granted
  can_map_each (s ∷ ss) (g ∷ gs) granted guests none =
      let a = and_parts _ _ guests in
      let n = none_both _ _ none in
      (rw granted.0.windows (can_map (source_of r) (subject_named r s) a.0 n.0), can_map_each ss gs granted.1 a.1 n.1)

  -- and the kernel's regions are by its windows
  kernel_by_index : (ss : List Subject) (gs : List Grants) → AllZip (AreGrantsOf r) ss gs → kernel_for_each ss gs ≡ flat_map (kernel_regions_of (source_of r)) (map (subject_named r) ss)
  unfolding kernel_for_each
  kernel_by_index [] [] granted = refl
  kernel_by_index [] (g ∷ gs) granted = absurd granted
  kernel_by_index (s ∷ ss) [] granted = absurd granted
  kernel_by_index (s ∷ ss) (g ∷ gs) granted =
      let pages : ept_pages (granted_ranges g.windows) ≡ _ = (λ i. ept_pages (granted_ranges (granted.0.windows i))) ∙ pages_granted (source_of r) (subject_named r s) in
      λ i. kernel_regions s.name (pages i) ++ kernel_by_index ss gs granted.1 i

-- what is granted can be mapped
pub can_map_granted : (r : Resolution) (gs : List Grants) → IsLawful (source_of r) → AreGrants r gs → All (λ g. CanMap g.windows) gs
unfolding offence_5 source_of
can_map_granted r gs lawful granted =
    All-from_recursion (λ g. CanMap g.windows) gs
    (can_map_each r r.subjects gs granted (addresses_kept (source_of r) (rules_of lawful).rule_4).windows (rules_of lawful).rule_5)

-- the regions of things are those of their items
regions_same : (r : Resolution) (p : Source) (items : List Item) (things : List Thing) → AllZip (IsThingOf r p) items things → map region_of_thing things ≡ map region_of items
regions_same r p [] [] h = refl
regions_same r p [] (t ∷ ts) h = absurd h
regions_same r p (x ∷ xs) [] h = absurd h
regions_same r p (x ∷ xs) (t ∷ ts) h = λ i. h.0.region i ∷ regions_same r p xs ts h.1 i

-- all regions by number are those of things that are placed, and then the kernel's
pub joined_by_index : (r : Resolution) (gs : List Grants) (things : List Thing) (kernel all : List Region) → AreGrants r gs
    → AreDeclared r (placed_items (source_of r)) things → kernel ≡ kernel_for_each r.subjects gs → all ≡ map region_of_thing things ++ kernel → all ≡ regions_of (source_of r)
unfolding source_of regions_of
joined_by_index r gs things kernel all granted declared k is =
    is ∙ (λ i. regions_same r (source_of r) (placed_items (source_of r)) things declared i ++ (k ∙ kernel_by_index r r.subjects gs granted) i)

-- ---- at a number

kernel_at : (ss : List Subject) (gs : List Grants) (k j : ℕ) (s : Subject) (g : Grants) (y : Region) → slice_get ss k ≡ Some s → slice_get gs k ≡ Some g → slice_get (kernel_for (s, g)) j ≡ Some y
    → slice_get (kernel_for_each ss gs) (5 * k + j) ≡ Some y
unfolding kernel_for_each
kernel_at [] gs k j s g y a b e = absurd (cc)
kernel_at (z ∷ zs) [] k j s g y a b e = absurd (cc)
kernel_at (z ∷ zs) (h ∷ hs) zero j s g y a b e =
    let p : z ≡ s = cc in
    let q : h ≡ g = cc in
    let first : 5 * 0 + j ≡ j = omega arith in
    ap (slice_get (kernel_for (z, h) ++ kernel_for_each zs hs)) first
    ∙ at_left (kernel_for (z, h)) (kernel_for_each zs hs) j y ((λ i. slice_get (kernel_for (p i, q i)) j) ∙ e)
kernel_at (z ∷ zs) (h ∷ hs) (suc k) j s g y a b e =
    let n : 5 * suc k + j ≡ 5 + (5 * k + j) = omega arith in
    ap (slice_get (kernel_for (z, h) ++ kernel_for_each zs hs)) n
    ∙ get_right (kernel_for (z, h)) (kernel_for_each zs hs) (5 * k + j)
    ∙ kernel_at zs hs k j s g y a b e

kernel_many : (R : Subject → Grants → Type 0) (ss : List Subject) (gs : List Grants) → AllZip R ss gs → length (kernel_for_each ss gs) ≡ 5 * length ss
unfolding kernel_for_each
kernel_many R [] [] h = refl
kernel_many R [] (g ∷ gs) h = absurd h
kernel_many R (s ∷ ss) [] h = absurd h
kernel_many R (s ∷ ss) (g ∷ gs) h =
    let rest = kernel_many R ss gs h.1 in
    let here = length-append (kernel_for (s, g)) (kernel_for_each ss gs) in
    omega (arith, here, rest)

module _ (r : Resolution) (q : IsResolved r) (gs : List Grants) (granted : AreGrants r gs) (all : List Region) (are : all ≡ regions_of (source_of r)) where
  -- **the regions** by number
  pub regions_are : all ≡ regions_by_number r gs
  unfolding source_of regions_of
  regions_are = are ∙ (λ i. sym (regions_same r (source_of r) (placed_items (source_of r)) (placed_things r) (placed_by_index r q)) i ++ sym (kernel_by_index r r.subjects gs granted) i)

  -- how many there are
  pub regions_many : length all ≡ kernel_first r (length r.subjects)
  regions_many =
      let placed = map region_of_thing (placed_things r) in
      let a = ap length regions_are ∙ length-append placed (kernel_for_each r.subjects gs) in
      let b = length-map (placed_things r) region_of_thing in
      let c = kernel_many (AreGrantsOf r) r.subjects gs granted in
      omega (arith, a, b, c)

  -- that of a thing has the thing's number
  pub region_at : (n : ℕ) (t : Thing) → slice_get (placed_things r) n ≡ Some t → slice_get all n ≡ Some (region_of_thing t)
  region_at n t at =
      ap (λ rs. slice_get rs n) regions_are
      ∙ at_left (map region_of_thing (placed_things r)) (kernel_for_each r.subjects gs) n (region_of_thing t) (slice_get-map region_of_thing (placed_things r) n ∙ ap (option_map region_of_thing) at)

  -- those of the kernel stand behind
  pub kernel_region_at : (k j : ℕ) (s : Subject) (g : Grants) (y : Region) → slice_get r.subjects k ≡ Some s → slice_get gs k ≡ Some g
      → slice_get (kernel_regions s.name (ept_pages (granted_ranges g.windows))) j ≡ Some y → slice_get all (kernel_first r k + j) ≡ Some y
  kernel_region_at k j s g y at here e =
      let placed = map region_of_thing (placed_things r) in
      let number : kernel_first r k + j ≡ length placed + (5 * k + j) = omega (arith, length-map (placed_things r) region_of_thing) in
      (λ i. slice_get (regions_are i) (number i))
      ∙ get_right placed (kernel_for_each r.subjects gs) (5 * k + j)
      ∙ kernel_at r.subjects gs k j s g y at here e
