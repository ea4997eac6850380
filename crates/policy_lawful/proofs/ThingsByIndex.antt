-- The things of a resolved policy by number are those of its source policy, with what is declared of each.
use Rattle.std.proofs.Common.{◌≡◌, ℕ, suc, ◌+◌, ◌<◌, true, List, [], ◌∷◌, ◌++◌, length, map, Option, Some, None, refl, sym, ap, ◌∙◌, subst, arith}
use Rattle.std.specs.Prelude.{nat_lt, option_and_then, option_map, slice_get}
use Rattle.std.specs.Option.{option_map_or}
use Rattle.std.specs.List.{AllZip, enumerate_from, flat_map}
use Rattle.std.proofs.lemmas.Bool.{and_parts, ltb-true}
use Rattle.muen_num.proofs.Lists.{passes_at, there}
use Rattle.muen_num.proofs.PiecesOfLists.{zip_append, zip_map_both}
use Rattle.policy_lawful.proofs.SourceElements.{parts_in_range}
use Rattle.policy_lawful.proofs.UniqueNames.{unique}
use Rattle.policy_lawful.proofs.WindowsByIndex.{component_at, found_by_name, subject_parts}
use Rattle.policy_lawful.specs.ByIndex.{provided_at}
use Rattle.policy_lawful.specs.Resolution.{IsResolved, Resolution, component_in_range, component_named, source_of, subject_in_range, subject_named}
use Rattle.policy_lawful.specs.Thing.{Item, channel_item, component_by, device_item, device_items, items_of, placed_items, provided_item, provided_items, region_item}
use Rattle.policy_lawful.specs.Things.{AreDeclared, IsThingOf, brought_by, brought_things, channel_thing, content_told, device_thing, device_things, device_things_of, own_thing, placed_things, provided_thing, things_by_number}
use Rattle.policy_lawful.specs.declared.resolved.ComponentUse.{ComponentUse}
use Rattle.policy_lawful.specs.declared.thing.Thing.{Thing}
use Rattle.policy_lawful.specs.rights.Caching.TheVariants.{Wb}
use Rattle.policy_types.specs.declared.source.Component.{Component}
use Rattle.policy_types.specs.declared.source.Device.{Device}
use Rattle.policy_types.specs.declared.source.Provided.{Provided}
use Rattle.policy_types.specs.declared.source.Region.{Region}

-- ---- lists beside one another

module _ {X Y Z : Type 0} (R : Y → Z → Type 0) where
  zip_numbered : (f : X → Y) (g : ℕ × X → Z) (n : ℕ) (xs : List X) → ((k : ℕ) (x : X) → slice_get xs k ≡ Some x → R (f x) (g (n + k, x))) → AllZip R (map f xs) (map g (enumerate_from n xs))
  zip_numbered f g n [] h = tt
  zip_numbered f g n (x ∷ xs) h =
      let first : n + 0 ≡ n = omega arith in (
        subst (λ m. R (f x) (g (m, x))) first (h 0 x refl),
        zip_numbered f g (n + 1) xs (λ k y e. let next : n + suc k ≡ n + 1 + k = omega arith in subst (λ m. R (f y) (g (m, y))) next (h (suc k) y e)),
      )

  zip_pieces : {V : Type 0} (n : V → X) (f : X → List Y) (g : V → List Z) (vs : List V) → ((k : ℕ) (v : V) → slice_get vs k ≡ Some v → AllZip R (f (n v)) (g v)) → AllZip R (flat_map f (map n vs)) (flat_map g vs)
  zip_pieces n f g [] h = tt
  zip_pieces n f g (v ∷ vs) h = zip_append R (f (n v)) (g v) (flat_map f (map n vs)) (flat_map g vs) (h 0 v refl) (zip_pieces n f g vs (λ k w e. h (suc k) w e))

-- ---- by kinds

module _ (r : Resolution) (q : IsResolved r) where
  abbrev Is : Item → Thing → Type 0
  Is = IsThingOf r (source_of r)

  of_memory : AllZip Is (map region_item r.memory) (map own_thing (enumerate_from 0 r.memory))
  unfolding source_of
  of_memory =
      zip_numbered Is region_item own_thing 0 r.memory
      (λ k m at.
      let found = found_by_name (λ (m : Region). m.name) r.memory (unique (source_of r) q.names).regions k m at in
      let number : k ≡ 0 + k = omega arith in
      record {
        region = refl;
        caching = sym (ap (λ (o : Option Region). option_map_or (λ (m : Region). m.caching) o Wb) found);
        content = ap (λ j. content_told (option_and_then (λ (m : Region). Some m.content) (slice_get r.memory j))) (sym number) ∙ ap (λ o. content_told (option_and_then (λ (m : Region). Some m.content) o)) at;
      })

  of_channels : AllZip Is (map channel_item r.channels) (map channel_thing r.channels)
  of_channels = zip_map_both Is channel_item channel_thing (λ c. record { region = refl; caching = refl; content = refl }) r.channels

  of_component : (subject : List ℕ) (used : ℕ) (c : Component) → slice_get r.components used ≡ Some c
      → AllZip Is (map (provided_item subject) c.provides) (map (provided_thing subject used) (enumerate_from 0 c.provides))
  of_component subject used c is =
      zip_numbered Is (provided_item subject) (provided_thing subject used) 0 c.provides
      (λ k x at.
      let number : k ≡ 0 + k = omega arith in
      let content : Option Component → Option Provided = λ o. option_and_then (λ (c : Component). slice_get c.provides k) o in
      record {
        region = refl;
        caching = refl;
        content =
            ap (λ j. content_told (option_and_then (λ (c : Component). option_and_then (λ (x : Provided). Some x.content) (slice_get c.provides j)) (slice_get r.components used))) (sym number)
            ∙ ap (λ o. content_told (option_and_then (λ (c : Component). option_and_then (λ (x : Provided). Some x.content) (slice_get c.provides k)) o)) is
            ∙ ap (λ o. content_told (option_and_then (λ (x : Provided). Some x.content) o)) at;
      })

  of_use : (subject : List ℕ) (o : Option ComponentUse) → option_map_or (component_in_range r) o true ≡ true
      → AllZip Is (provided_items subject (component_by (source_of r) (option_map (component_named r) o))) (brought_by r.components subject o)
  of_use subject None in_range = tt
  of_use subject (Some used) in_range =
      let within : used.used < length r.components = ltb-true _ _ (and_parts (nat_lt used.used (length r.components)) _ in_range).0 in
      let c = there r.components used.used within in
      let named = component_at r q used c.0 c.1 in
      let provides : c.0.provides ≡ provided_at r.components (Some used) = sym (ap (λ (o : Option Component). option_map_or (λ (c : Component). c.provides) o []) c.1) in
      subst (λ o. AllZip Is (provided_items subject o) (brought_by r.components subject (Some used))) (sym named)
      (subst (λ xs. AllZip Is (map (provided_item subject) c.0.provides) (map (provided_thing subject used.used) (enumerate_from 0 xs))) provides
      (of_component subject used.used c.0 c.1))

  of_subjects : AllZip Is (flat_map (λ s. provided_items s.name (component_by (source_of r) s.component)) (map (subject_named r) r.subjects)) (flat_map (brought_things r.components) r.subjects)
  of_subjects =
      zip_pieces Is (subject_named r) (λ s. provided_items s.name (component_by (source_of r) s.component)) (brought_things r.components) r.subjects
      (λ k s at. of_use s.name s.component (subject_parts r s (passes_at (subject_in_range r) r.subjects k s (parts_in_range r q.in_range).subjects at)).component)

  of_device : (d : Device) → AllZip Is (map (device_item d.name) d.memory) (device_things_of d)
  of_device d = zip_map_both Is (device_item d.name) (device_thing d.name) (λ m. record { region = refl; caching = refl; content = refl }) d.memory

  of_devices : (ds : List Device) → AllZip Is (flat_map (λ d. map (device_item d.name) d.memory) ds) (flat_map device_things_of ds)
  of_devices [] = tt
  of_devices (d ∷ ds) = zip_append Is (map (device_item d.name) d.memory) (device_things_of d) (flat_map (λ d. map (device_item d.name) d.memory) ds) (flat_map device_things_of ds) (of_device d) (of_devices ds)

  -- **the things that are placed**
  pub placed_by_index : AreDeclared r (placed_items (source_of r)) (placed_things r)
  unfolding source_of placed_items placed_things
  placed_by_index =
      let memory = map region_item r.memory in
      let channels = map channel_item r.channels in
      zip_append Is (memory ++ channels) (map own_thing (enumerate_from 0 r.memory) ++ map channel_thing r.channels)
      (flat_map (λ s. provided_items s.name (component_by (source_of r) s.component)) (map (subject_named r) r.subjects)) (flat_map (brought_things r.components) r.subjects)
      (zip_append Is memory (map own_thing (enumerate_from 0 r.memory)) channels (map channel_thing r.channels) of_memory of_channels)
      of_subjects

  -- the devices' memory
  pub devices_by_index : AreDeclared r (device_items (source_of r)) (device_things r)
  unfolding source_of device_items device_things
  devices_by_index = of_devices r.devices

  -- **all things**
  pub things_by_index : AreDeclared r (items_of (source_of r)) (things_by_number r)
  unfolding items_of
  things_by_index = zip_append Is (placed_items (source_of r)) (placed_things r) (device_items (source_of r)) (device_things r) placed_by_index devices_by_index
