-- What has memory, by kind.
use Rattle.std.proofs.Common.{◌≡◌, ℕ, Bool, true, false, List, [], ◌∷◌, ◌++◌, map, Option, Some, None, refl, ap, ◌∙◌}
use Rattle.std.specs.Prelude.{◌&&◌, cond, option_map}
use Rattle.std.specs.List.{find, flat_map}
use Rattle.std.specs.Option.{option_map_or, option_or}
use Rattle.std.specs.Str.{bytes_eq}
use Rattle.std.proofs.lemmas.List.{map-append}
use Rattle.std.proofs.lemmas.List.Folds.{find-append}
use Rattle.muen_num.proofs.Lists.{find-map, map-flat_map, map-map}
use Rattle.muen_num.proofs.Members.{find_in}
use Rattle.muen_num.proofs.SearchLaws.{option_or-None}
use Rattle.muen_num.proofs.Lookups.{found_behind}
use Rattle.policy_meaning.specs.Thing.{Item, Thing, channel, channel_item, component_by, device_item, device_items, device_memory, item_of, items_of, placed_items, provided, provided_item, provided_items, region, region_item, same_thing, things_of}
use Rattle.policy_types.specs.declared.source.Component.{Component}
use Rattle.policy_types.specs.declared.source.Device.{Device}
use Rattle.policy_types.specs.declared.source.DeviceMemory.{DeviceMemory}
use Rattle.policy_types.specs.declared.source.Provided.{Provided}
use Rattle.policy_types.specs.declared.source.Source.{Source}
use Rattle.policy_types.specs.declared.source.Subject.{Subject}

-- ---- by kind

-- regions, channels, each subject's provided regions
pub map_placed : {A : Type 0} (f : Item → A) (p : Source) → map f (placed_items p) ≡
    map (λ r. f (region_item r)) p.memory
    ++ map (λ c. f (channel_item c)) p.channels
    ++ flat_map (λ s. map (λ x. f (provided_item s.name x)) (option_map_or (λ c. c.provides) (component_by p s.component) [])) p.subjects
unfolding placed_items
map_placed f p =
    let memory = map region_item p.memory in
    let channels = map channel_item p.channels in
    let provided = flat_map (λ s. provided_items s.name (component_by p s.component)) p.subjects in
    let of_subjects = map-flat_map f (λ s. provided_items s.name (component_by p s.component)) p.subjects ∙ (λ i. flat_map (λ s. map-map f (provided_item s.name) (option_map_or (λ c. c.provides) (component_by p s.component) []) i) p.subjects) in
    map-append f (memory ++ channels) provided
    ∙ ap (λ xs. xs ++ map f provided) (map-append f memory channels)
    ∙ (λ i. map-map f region_item p.memory i ++ map-map f channel_item p.channels i ++ of_subjects i)

-- and the devices' memory
pub map_items : {A : Type 0} (f : Item → A) (p : Source) → map f (items_of p) ≡
    map (λ r. f (region_item r)) p.memory
    ++ map (λ c. f (channel_item c)) p.channels
    ++ flat_map (λ s. map (λ x. f (provided_item s.name x)) (option_map_or (λ c. c.provides) (component_by p s.component) [])) p.subjects
    ++ flat_map (λ d. map (λ m. f (device_item d.name m)) d.memory) p.devices
unfolding items_of device_items
map_items f p =
    let of_devices = map-flat_map f (λ d. map (device_item d.name) d.memory) p.devices ∙ (λ i. flat_map (λ d. map-map f (device_item d.name) d.memory i) p.devices) in
    map-append f (placed_items p) (device_items p) ∙ (λ i. map_placed f p i ++ of_devices i)

-- the regions that a component brings along for this subject
abbrev pub provided_by : List ℕ → Option Component → List Thing
provided_by subject c = map (λ x. provided subject x.logical) (option_map_or (λ c. c.provides) c [])

pub things_are : (p : Source) → things_of p ≡
    map (λ r. region r.name) p.memory
    ++ map (λ c. channel c.name) p.channels
    ++ flat_map (λ s. provided_by s.name (component_by p s.component)) p.subjects
    ++ flat_map (λ d. map (λ m. device_memory d.name m.name) d.memory) p.devices
unfolding things_of
things_are p = map_items (λ i. i.thing) p

-- ---- what is found of each

none_behind : {X : Type 0} (test : X → Bool) (xs ys : List X) → find test ys ≡ None → find test (xs ++ ys) ≡ find test xs
none_behind test xs ys none = find-append test xs ys ∙ ap (option_or (find test xs)) none ∙ option_or-None (find test xs)

none_of : {X Y : Type 0} (test : Y → Bool) (f : X → Y) (xs : List X) → ((x : X) → test (f x) ≡ false) → find test (map f xs) ≡ None
none_of test f [] h = refl
none_of test f (x ∷ xs) h = ap (λ b. cond b (Some (f x)) (find test (map f xs))) (h x) ∙ none_of test f xs h

none_flat : {X Y : Type 0} (test : Y → Bool) (g : X → List Y) (xs : List X) → ((x : X) → find test (g x) ≡ None) → find test (flat_map g xs) ≡ None
none_flat test g [] h = refl
none_flat test g (x ∷ xs) h = found_behind test (g x) (flat_map g xs) (h x) ∙ none_flat test g xs h

-- in the list of the first element that is its own
found_flat : {X Y : Type 0} (test : Y → Bool) (own : X → Bool) (g : X → List Y) (xs : List X) (x : X) (y : Y) → ((z : X) → own z ≡ false → find test (g z) ≡ None)
    → find own xs ≡ Some x → find test (g x) ≡ Some y → find test (flat_map g xs) ≡ Some y
found_flat test own g [] x y apart e h = absurd (cc)
found_flat test own g (z ∷ zs) x y apart e h =
    elim (own z) as (λ b. own z ≡ b → cond b (Some z) (find own zs) ≡ Some x → find test (g z ++ flat_map g zs) ≡ Some y) [
      | true ↦ λ is k.
          let same : z ≡ x = cc in
          find-append test (g z) (flat_map g zs) ∙ ap (λ o. option_or o (find test (flat_map g zs))) (ap (λ w. find test (g w)) same ∙ h)
      | false ↦ λ is k. found_behind test (g z) (flat_map g zs) (apart z is) ∙ found_flat test own g zs x y apart k h
    ] refl e

module _ (p : Source) where
  abbrev regions : List Item
  regions = map region_item p.memory

  abbrev channels : List Item
  channels = map channel_item p.channels

  abbrev brought : List Item
  brought = flat_map (λ s. provided_items s.name (component_by p s.component)) p.subjects

  abbrev devices : List Item
  devices = flat_map (λ d. map (device_item d.name) d.memory) p.devices

  none_brought : (test : Item → Bool) → ((subject : List ℕ) (x : Provided) → test (provided_item subject x) ≡ false) → find test brought ≡ None
  none_brought test h =
      none_flat test (λ s. provided_items s.name (component_by p s.component)) p.subjects
      (λ s. none_of test (provided_item s.name) (option_map_or (λ c. c.provides) (component_by p s.component) []) (h s.name))

  none_device : (test : Item → Bool) → ((device : List ℕ) (m : DeviceMemory) → test (device_item device m) ≡ false) → find test devices ≡ None
  none_device test h = none_flat test (λ d. map (device_item d.name) d.memory) p.devices (λ d. none_of test (device_item d.name) d.memory (h d.name))

  pub item_of_region : (name : List ℕ) → item_of p (region name) ≡ option_map region_item (find (λ r. bytes_eq r.name name) p.memory)
  unfolding item_of items_of placed_items device_items
  item_of_region name =
      let test : Item → Bool = λ i. same_thing i.thing (region name) in
      none_behind test (regions ++ channels ++ brought) devices (none_device test (λ d m. refl))
      ∙ none_behind test (regions ++ channels) brought (none_brought test (λ s x. refl))
      ∙ none_behind test regions channels (none_of test channel_item p.channels (λ c. refl))
      ∙ find-map test region_item p.memory

  pub item_of_channel : (name : List ℕ) → item_of p (channel name) ≡ option_map channel_item (find (λ c. bytes_eq c.name name) p.channels)
  unfolding item_of items_of placed_items device_items
  item_of_channel name =
      let test : Item → Bool = λ i. same_thing i.thing (channel name) in
      none_behind test (regions ++ channels ++ brought) devices (none_device test (λ d m. refl))
      ∙ none_behind test (regions ++ channels) brought (none_brought test (λ s x. refl))
      ∙ found_behind test regions channels (none_of test region_item p.memory (λ r. refl))
      ∙ find-map test channel_item p.channels

  -- of the component of the first subject of the name
  pub item_of_provided : (subject logical : List ℕ) (n : Subject) (c : Component) (x : Provided) → find (λ s. bytes_eq s.name subject) p.subjects ≡ Some n → component_by p n.component ≡ Some c → find (λ y. bytes_eq y.logical logical) c.provides ≡ Some x
      → item_of p (provided subject logical) ≡ Some (provided_item n.name x)
  unfolding item_of items_of placed_items device_items
  item_of_provided subject logical n c x is used here =
      let test : Item → Bool = λ i. same_thing i.thing (provided subject logical) in
      let own : bytes_eq n.name subject ≡ true = (find_in (λ (s : Subject). bytes_eq s.name subject) p.subjects n is).1 in
      none_behind test (regions ++ channels ++ brought) devices (none_device test (λ d m. refl))
      ∙ found_behind test (regions ++ channels) brought
      (found_behind test regions channels (none_of test region_item p.memory (λ r. refl)) ∙ none_of test channel_item p.channels (λ c. refl))
      ∙ found_flat test (λ (s : Subject). bytes_eq s.name subject) (λ s. provided_items s.name (component_by p s.component)) p.subjects n (provided_item n.name x)
      (λ s apart. none_of test (provided_item s.name) (option_map_or (λ c. c.provides) (component_by p s.component) []) (λ y. ap (λ b. b && bytes_eq y.logical logical) apart))
      is
      (ap (λ o. find test (provided_items n.name o)) used
      ∙ find-map test (provided_item n.name) c.provides
      ∙ ap (λ b. option_map (provided_item n.name) (find (λ (y : Provided). b && bytes_eq y.logical logical) c.provides)) own
      ∙ ap (option_map (provided_item n.name)) here)

  -- of the first device of the name
  pub item_of_device : (device name : List ℕ) (d : Device) (m : DeviceMemory) → find (λ d. bytes_eq d.name device) p.devices ≡ Some d → find (λ m. bytes_eq m.name name) d.memory ≡ Some m
      → item_of p (device_memory device name) ≡ Some (device_item d.name m)
  unfolding item_of items_of placed_items device_items
  item_of_device device name d m is here =
      let test : Item → Bool = λ i. same_thing i.thing (device_memory device name) in
      let own : bytes_eq d.name device ≡ true = (find_in (λ (d : Device). bytes_eq d.name device) p.devices d is).1 in
      found_behind test (regions ++ channels ++ brought) devices
      (none_behind test (regions ++ channels) brought (none_brought test (λ s x. refl))
      ∙ found_behind test regions channels (none_of test region_item p.memory (λ r. refl))
      ∙ none_of test channel_item p.channels (λ c. refl))
      ∙ found_flat test (λ (d : Device). bytes_eq d.name device) (λ d. map (device_item d.name) d.memory) p.devices d (device_item d.name m)
      (λ e apart. none_of test (device_item e.name) e.memory (λ y. ap (λ b. b && bytes_eq y.name name) apart))
      is
      (find-map test (device_item d.name) d.memory
      ∙ ap (λ b. option_map (device_item d.name) (find (λ (y : DeviceMemory). b && bytes_eq y.name name) d.memory)) own
      ∙ ap (option_map (device_item d.name)) here)
