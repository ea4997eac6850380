-- No two things of a policy with unique names are the same, so each is the first that is as itself, and is found by itself.
use Rattle.std.proofs.Common.{◌≡◌, ℕ, suc, ◌+◌, ◌-◌, Bool, false, All, List, [], ◌∷◌, ◌++◌, length, map, Option, Some, None, refl, sym, ap, ◌∙◌, subst, inl, inr, arith}
use Rattle.std.specs.Prelude.{◌&&◌, get_or, slice_get}
use Rattle.std.specs.Option.{option_map_or}
use Rattle.std.specs.List.{flat_map, list_any}
use Rattle.std.specs.Str.{bytes_eq}
use Rattle.std.proofs.lemmas.Bool.{cases_lt}
use Rattle.std.proofs.lemmas.List.Elements.{All-append, All-map, All-nil}
use Rattle.std.proofs.lemmas.List.Folds.{find_at}
use Rattle.std.proofs.lemmas.Option.{slice_get-map}
use Rattle.muen_num.proofs.Lists.{all_at, all_flat, get_left, get_right}
use Rattle.muen_num.proofs.Lookups.{same_self}
use Rattle.muen_num.proofs.Options.{from_some}
use Rattle.policy_lawful.proofs.FirstIndexes.{IsFirstAt, first_left, first_mapped, first_named, first_right, none_joined, none_mapped, none_pieces, other_before}
use Rattle.policy_lawful.proofs.UniqueNames.{logical_unique, parts_unique, provided_unique, unique, unique_parts}
use Rattle.policy_lawful.specs.Rules.{logical_names, offence_1, repeated}
use Rattle.policy_lawful.specs.Thing.{Item, channel_item, component_by, device_item, device_items, item_of, items_of, placed_items, provided_item, provided_items, region_item, same_thing, things_of}
use Rattle.policy_types.specs.declared.source.Component.{Component}
use Rattle.policy_types.specs.declared.source.ComponentUse.{ComponentUse}
use Rattle.policy_types.specs.declared.source.Device.{Device}
use Rattle.policy_types.specs.declared.source.DeviceMemory.{DeviceMemory}
use Rattle.policy_types.specs.declared.source.Provided.{Provided}
use Rattle.policy_types.specs.declared.source.Source.{Source}
use Rattle.policy_types.specs.declared.source.Subject.{Subject}

-- ---- lists

module _ {Y : Type 0} (same : Y → Y → Bool) where
  -- each element is the first that is as itself
  abbrev EachFirst : List Y → Type 0
  EachFirst ys = (n : ℕ) (y : Y) → slice_get ys n ≡ Some y → IsFirstAt (λ w. same w y) ys n

  -- none of these is as this one
  abbrev IsOther : List Y → Y → Type 0
  IsOther xs y = list_any (λ w. same w y) xs ≡ false

  joined : (xs ys : List Y) → EachFirst xs → EachFirst ys → All (IsOther xs) ys → EachFirst (xs ++ ys)
  joined xs ys a b other n y at =
      elim (cases_lt n (length xs)) as (λ _. IsFirstAt (λ w. same w y) (xs ++ ys) n) [
        | inl l ↦ first_left (λ w. same w y) xs ys n (a n y (sym (get_left xs ys n l) ∙ at))
        | inr l ↦
            let k = n - length xs in
            let is : length xs + k ≡ n = omega (arith, l) in
            let here : slice_get ys k ≡ Some y = sym (get_right xs ys k) ∙ ap (slice_get (xs ++ ys)) is ∙ at in
            subst (IsFirstAt (λ w. same w y) (xs ++ ys)) is (first_right (λ w. same w y) xs ys k (all_at (IsOther xs) ys k y other here) (b k y here))
      ]

  module _ {X : Type 0} (name : X → List ℕ) where
    -- of names that differ
    named : (f : X → Y) (xs : List X) → repeated (map name xs) ≡ None → ((x z : X) → same (f x) (f z) ≡ bytes_eq (name x) (name z)) → EachFirst (map f xs)
    named f xs differ test n y at =
        let x = from_some f (slice_get xs n) y (sym (slice_get-map f xs n) ∙ at) in
        subst (λ y. IsFirstAt (λ w. same w y) (map f xs) n) x.2
        (first_mapped (λ w. same w (f x.0)) f xs n (subst (λ t. IsFirstAt t xs n) (λ i z. sym (test z x.0) i) (first_named name xs n x.0 differ x.1)))

    all_pieces : (P : Y → Type 0) (f : X → List Y) (xs : List X) → ((k : ℕ) (x : X) → slice_get xs k ≡ Some x → All P (f x)) → All P (flat_map f xs)
    all_pieces P f [] h = All-nil P
    all_pieces P f (x ∷ xs) h = All-append P (f x) (flat_map f xs) (h 0 x refl) (all_pieces P f xs (λ k z e. h (suc k) z e))

    -- of pieces whose names differ
    pieces : (f : X → List Y) (xs : List X) → repeated (map name xs) ≡ None → ((k : ℕ) (x : X) → slice_get xs k ≡ Some x → EachFirst (f x))
        → ((x z : X) → bytes_eq (name x) (name z) ≡ false → All (IsOther (f x)) (f z)) → EachFirst (flat_map f xs)
    pieces f [] differ each other = λ n y at. absurd cc
    pieces f (x ∷ xs) differ each other =
        joined (f x) (flat_map f xs) (each 0 x refl)
        (pieces f xs (unique_parts (name x ∷ []) (map name xs) differ).1 (λ k z at. each (suc k) z at) other)
        (all_pieces (IsOther (f x)) f xs (λ k z at. other x z (other_before name (x ∷ xs) 0 (suc k) x z differ (omega arith) refl at)))

-- ---- things

module _ (p : Source) (h : offence_1 p ≡ None) where
  abbrev same : Item → Item → Bool
  same a b = same_thing a.thing b.thing

  abbrev regions : List Item
  regions = map region_item p.memory

  abbrev channels : List Item
  channels = map channel_item p.channels

  abbrev provides : Subject → List Provided
  provides s = option_map_or (λ c. c.provides) (component_by p s.component) []

  abbrev brought_by : Subject → List Item
  brought_by s = provided_items s.name (component_by p s.component)

  abbrev memory_of : Device → List Item
  memory_of d = map (device_item d.name) d.memory

  names_of_component : (o : Option ComponentUse) (c : Component) → component_by p o ≡ Some c → repeated (logical_names c) ≡ None
  names_of_component None c is = absurd cc
  names_of_component (Some used) c is = logical_unique p _ c h (sym (find_at (λ (c : Component). bytes_eq c.name used.used) p.components) ∙ is)

  brought_first : (subject : List ℕ) (o : Option Component) → ((c : Component) → o ≡ Some c → repeated (logical_names c) ≡ None) → EachFirst same (provided_items subject o)
  brought_first subject None names = λ n y at. absurd cc
  brought_first subject (Some c) names =
      named same (λ (x : Provided). x.logical) (provided_item subject) c.provides (provided_unique c (names c refl)) (λ x z. ap (λ b. b && bytes_eq x.logical z.logical) (same_self subject))

  all_brought : EachFirst same (flat_map brought_by p.subjects)
  all_brought =
      pieces same (λ (s : Subject). s.name) brought_by p.subjects (unique p h).subjects
      (λ k s at. brought_first s.name (component_by p s.component) (names_of_component s.component))
      (λ s t other.
      All-map (IsOther same (brought_by s)) (provided_item t.name) (provides t)
      (λ k d l.
      let z = get_or (provides t) k d in
      none_mapped (λ w. same w (provided_item t.name z)) (provided_item s.name) (provides s) (λ x. ap (λ b. b && bytes_eq x.logical z.logical) other)))

  all_devices : EachFirst same (flat_map memory_of p.devices)
  all_devices =
      pieces same (λ (d : Device). d.name) memory_of p.devices (unique p h).devices
      (λ k d at. named same (λ (m : DeviceMemory). m.name) (device_item d.name) d.memory (parts_unique p k d h at).memory (λ x z. ap (λ b. b && bytes_eq x.name z.name) (same_self d.name)))
      (λ d e other.
      All-map (IsOther same (memory_of d)) (device_item e.name) e.memory
      (λ k n l.
      let z = get_or e.memory k n in
      none_mapped (λ w. same w (device_item e.name z)) (device_item d.name) d.memory (λ x. ap (λ b. b && bytes_eq x.name z.name) other)))

  -- kinds differ
  all_first : EachFirst same (items_of p)
  unfolding items_of placed_items device_items
  all_first =
      let brought = flat_map brought_by p.subjects in
      joined same (regions ++ channels ++ brought) (flat_map memory_of p.devices)
      (joined same (regions ++ channels) brought
      (joined same regions channels
      (named same _ region_item p.memory (unique p h).regions (λ x z. refl))
      (named same _ channel_item p.channels (unique p h).channels (λ x z. refl))
      (All-map (IsOther same regions) channel_item p.channels (λ k c l. none_mapped _ region_item p.memory (λ x. refl))))
      all_brought
      (all_flat (IsOther same (regions ++ channels)) brought_by
      (λ s. All-map (IsOther same (regions ++ channels)) (provided_item s.name) (provides s) (λ k z l. none_joined _ regions channels (none_mapped _ region_item p.memory (λ x. refl)) (none_mapped _ channel_item p.channels (λ x. refl))))
      p.subjects))
      all_devices
      (all_flat (IsOther same (regions ++ channels ++ brought)) memory_of
      (λ d. All-map (IsOther same (regions ++ channels ++ brought)) (device_item d.name) d.memory
      (λ k m l.
      none_joined _ (regions ++ channels) brought
      (none_joined _ regions channels (none_mapped _ region_item p.memory (λ x. refl)) (none_mapped _ channel_item p.channels (λ x. refl)))
      (none_pieces _ brought_by p.subjects (λ s. none_mapped (λ w. same w (device_item d.name (get_or d.memory k m))) (provided_item s.name) (provides s) (λ x. refl)))))
      p.devices)

  -- **each thing is the first of its kind and names**
  pub thing_first : (n : ℕ) (i : Item) → slice_get (items_of p) n ≡ Some i → IsFirstAt (λ t. same_thing t i.thing) (things_of p) n
  unfolding things_of
  thing_first n i at = first_mapped (λ t. same_thing t i.thing) (λ i. i.thing) (items_of p) n (all_first n i at)

  -- so what the policy declares of it is found by it
  pub item_found : (n : ℕ) (i : Item) → slice_get (items_of p) n ≡ Some i → item_of p i.thing ≡ Some i
  unfolding item_of
  item_found n i at = find_at (λ j. same_thing j.thing i.thing) (items_of p) ∙ ap (slice_get (items_of p)) (all_first n i at).at ∙ at
