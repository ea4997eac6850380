-- The windows that the source policy grants to a subject are its views.
use Rattle.std.proofs.Common.{◌≡◌, ℕ, ◌<◌, true, List, [], ◌++◌, length, map, Option, Some, None, refl, sym, ap, ◌∙◌, arith}
use Rattle.std.proofs.lemmas.List.{get_or-map, length-map, map-append}
use Rattle.std.specs.Prelude.{nat_lt, option_map, option_and_then, slice_get, unwrap_or}
use Rattle.std.specs.Option.{option_map_or}
use Rattle.std.specs.List.{enumerate_from, filter_map, find, flat_map, list_all}
use Rattle.std.specs.Str.{bytes_eq}
use Rattle.std.proofs.lemmas.Bool.{and_parts, ltb-true}
use Rattle.std.proofs.lemmas.Option.{get_or_from_slice_get, slice_get_within}
use Rattle.muen_num.proofs.Lists.{option_map-option_map, there}
use Rattle.policy_lawful.specs.Resolution.{IsResolved, Resolution, channel_named, component_in_range, component_named, device_in_range, device_named, device_part, entry_in_range, entry_named, mapping_named, name_at, source_of, subject_in_range, subject_named}
use Rattle.policy_lawful.specs.Rules.{logical_names, repeated}
use Rattle.policy_lawful.specs.declared.resolved.ComponentUse.{ComponentUse}
use Rattle.policy_lawful.specs.declared.resolved.DeviceMapping.{DeviceMapping}
use Rattle.policy_lawful.specs.declared.resolved.DeviceUse.{DeviceUse}
use Rattle.policy_lawful.specs.declared.resolved.MapEntry.{MapEntry}
use Rattle.policy_lawful.specs.declared.resolved.Monitor.{Monitor}
use Rattle.policy_lawful.specs.declared.resolved.Subject.{Subject}
use Rattle.policy_lawful.specs.declared.resolved.Wanted.{Wanted}
use Rattle.policy_lawful.specs.declared.resolved.Wanted.TheVariants.{Memory as WantedMemory, Channel as WantedChannel}
use Rattle.policy_lawful.proofs.Indexes.{found_at_index}
use Rattle.policy_lawful.proofs.UniqueNames.{logical_unique, parts_unique, subject_names, unique}
use Rattle.policy_lawful.specs.Thing.{channel, component_by, provided, region}
use Rattle.policy_lawful.specs.Windows.{channel_window, component_channel_window, component_windows, device_window, entry_of, monitor_window, region_window, required_window, role_rights, window, windows_of}
use Rattle.policy_types.specs.declared.rights.Rights.{Rights}
use Rattle.policy_types.specs.declared.rights.Role.{Role}
use Rattle.policy_types.specs.declared.source.Component.{Component}
use Rattle.policy_types.specs.declared.source.ComponentChannel.{ComponentChannel}
use Rattle.policy_types.specs.declared.source.Device.{Device}
use Rattle.policy_types.specs.declared.source.Monitor.{Monitor as NamedMonitor}
use Rattle.policy_types.specs.declared.source.Required.{Required}
use Rattle.policy_types.specs.declared.source.Subject.{Subject as NamedSubject}
use Rattle.policy_lawful.specs.Views.{channel_view, component_channel_view, component_views, device_view, monitor_view, provided_view, region_view, required_view, same_wanted, use_views, view_window, views_of}
use Rattle.policy_lawful.proofs.ChosenEntries.{entry_found}
use Rattle.policy_lawful.proofs.Mapped.{filter_maps, filter_numbered, flat_maps, map_filters, map_numbered}

-- what stands at an index has the name that stands there
pub name_there : {X : Type 0} (f : X → List ℕ) (xs : List X) (k : ℕ) (x : X) → slice_get xs k ≡ Some x → name_at (map f xs) k ≡ f x
name_there f xs k x is = get_or-map f xs k x [] (slice_get_within xs k x is) ∙ ap f (get_or_from_slice_get xs k x x is)

-- a subject has that of its index
pub name_of_subject : (r : Resolution) (k : ℕ) (s : Subject) → slice_get r.subjects k ≡ Some s → name_at (subject_names r) k ≡ s.name
name_of_subject r k s at = name_there (λ (t : Subject). t.name) r.subjects k s at

-- where names are unique, what stands at an index is found by its own
pub found_by_name : {X : Type 0} (f : X → List ℕ) (xs : List X) → repeated (map f xs) ≡ None → (k : ℕ) (x : X) → slice_get xs k ≡ Some x → find (λ y. bytes_eq (f y) (f x)) xs ≡ Some x
found_by_name f xs unique k x at =
    ap (λ n. find (λ y. bytes_eq (f y) n) xs) (sym (name_there f xs k x at))
    ∙ found_at_index f xs k unique (slice_get_within xs k x at)
    ∙ at

-- a monitor with the name of the subject that it monitors
abbrev monitor_named : Resolution → Monitor → NamedMonitor
monitor_named r m = record { subject = name_at (map (λ x. x.name) r.subjects) m.subject; virtual_address = m.virtual_address; rights = m.rights }

-- ---- each window

module _ (r : Resolution) (q : IsResolved r) (subject : List ℕ) where
  region_by_index : (k guest : ℕ) (rights : Rights) → nat_lt k (length r.memory) ≡ true
      → region_window (source_of r) (name_at (map (λ x. x.name) r.memory) k) guest rights ≡ option_map (view_window r subject) (region_view r k guest rights)
  unfolding source_of
  region_by_index k guest rights h =
      ap (option_map (λ x. window guest x.size rights (region x.name))) (found_at_index (λ x. x.name) r.memory k (unique (source_of r) q.names).regions (ltb-true k (length r.memory) h))
      ∙ sym (option_map-option_map (view_window r subject) _ (slice_get r.memory k))

  channel_by_index : (k guest : ℕ) (role : Role) → nat_lt k (length r.channels) ≡ true
      → channel_window (source_of r) (name_at (map (λ x. x.name) r.channels) k) guest role ≡ option_map (view_window r subject) (channel_view r k guest role)
  unfolding source_of
  channel_by_index k guest role h =
      ap (option_map (λ x. window guest x.size (role_rights role) (channel x.name))) (found_at_index (λ x. x.name) r.channels k (unique (source_of r) q.names).channels (ltb-true k (length r.channels) h))
      ∙ sym (option_map-option_map (view_window r subject) _ (slice_get r.channels k))

  monitor_by_index : (m : Monitor) → nat_lt m.subject (length r.subjects) ≡ true
      → Some (monitor_window (monitor_named r m)) ≡ option_map (view_window r subject) (monitor_view r m)
  monitor_by_index m h =
      let at = there r.subjects m.subject (ltb-true m.subject (length r.subjects) h) in
      let name = name_there (λ x. x.name) r.subjects m.subject at.0 at.1 in
      rw (at.1, name) refl

  device_at : (device : ℕ) (d : Device) (m : DeviceMapping) → slice_get r.devices device ≡ Some d → nat_lt m.memory (length d.memory) ≡ true
      → device_window (source_of r) (name_at (map (λ x. x.name) r.devices) device) (record { memory = name_at (map (λ m. m.name) d.memory) m.memory; virtual_address = m.virtual_address; rights = m.rights })
      ≡ option_map (view_window r subject) (device_view r device m)
  unfolding source_of
  device_at device d m is h =
      let found = found_at_index (λ x. x.name) r.devices device (unique (source_of r) q.names).devices (slice_get_within r.devices device d is) ∙ is in
      let memory = found_at_index (λ x. x.name) d.memory m.memory (parts_unique (source_of r) device d q.names is).memory (ltb-true m.memory (length d.memory) h) in
      let at = there d.memory m.memory (ltb-true m.memory (length d.memory) h) in
      let name = name_there (λ x. x.name) r.devices device d is in
      rw (found, memory, is, at.1, name) refl

  -- the device's name for what stands at an index, where the device is there
  device_by_index : (granted : DeviceUse) → device_in_range r granted ≡ true → filter_map (device_window (source_of r) (device_named r granted).device) (device_named r granted).memory ≡ map (view_window r subject) (filter_map (device_view r granted.device) granted.memory)
  device_by_index granted h =
      let b = and_parts _ _ h in
      let c = and_parts _ _ b.0 in
      let d = and_parts _ _ c.0 in
      let at = there r.devices granted.device (ltb-true granted.device (length r.devices) d.0) in
      let names : device_part r (λ x. map (λ m. m.name) x.memory) granted.device ≡ map (λ m. m.name) at.0.memory = ap (λ o. option_map_or (λ (x : Device). map (λ m. m.name) x.memory) o []) at.1 in
      filter_maps (device_window (source_of r) (device_named r granted).device)
      (λ m. record { memory = name_at (device_part r (λ x. map (λ m. m.name) x.memory) granted.device) m.memory; virtual_address = m.virtual_address; rights = m.rights })
      (device_view r granted.device) (view_window r subject)
      (λ m. nat_lt m.memory (length (device_part r (λ x. map (λ m. m.name) x.memory) granted.device)))
      (λ m l.
      let many : length (device_part r (λ x. map (λ m. m.name) x.memory) granted.device) ≡ length at.0.memory = ap length names ∙ length-map at.0.memory (λ m. m.name) in
      ap (λ ns. device_window (source_of r) (name_at (map (λ x. x.name) r.devices) granted.device) (record { memory = name_at ns m.memory; virtual_address = m.virtual_address; rights = m.rights })) names
      ∙ device_at granted.device at.0 m at.1 (sym (ap (nat_lt m.memory) many) ∙ l))
      granted.memory d.1

-- ---- of a component

-- the component at the index of a use, by its name
pub component_at : (r : Resolution) → IsResolved r → (used : ComponentUse) (c : Component) → slice_get r.components used.used ≡ Some c → component_by (source_of r) (Some (component_named r used)) ≡ Some c
unfolding source_of
component_at r q used c is = found_at_index (λ x. x.name) r.components used.used (unique (source_of r) q.names).components (slice_get_within r.components used.used c is) ∙ is

-- each index of a list that is there is among the names
pub within_names : {X : Type 0} (f : X → List ℕ) (xs : List X) (k : ℕ) (x : X) → slice_get xs k ≡ Some x → k < length (map f xs)
within_names f xs k x is = let many : length (map f xs) ≡ length xs = length-map xs f in let l : k < length xs = slice_get_within xs k x is in omega (arith, many, l)

module _ (r : Resolution) (q : IsResolved r) (t : NamedSubject) (used : ComponentUse) (c : Component) (uses : t.component ≡ Some (component_named r used)) (is : slice_get r.components used.used ≡ Some c) (in_range : component_in_range r used ≡ true) where
  pub component_is : component_by (source_of r) t.component ≡ Some c
  component_is = ap (component_by (source_of r)) uses ∙ component_at r q used c is

  pub entries_in_range : list_all (λ e. entry_in_range r used.used e.logical e.physical) used.map ≡ true
  entries_in_range = (and_parts _ _ in_range).1

  pub unique_logical : repeated (logical_names c) ≡ None
  unfolding source_of
  unique_logical = logical_unique (source_of r) used.used c q.names is

  required_entry : (x : Required) (k : ℕ) (w : Wanted) (e : MapEntry) → entry_in_range r used.used w e.physical ≡ true → same_wanted w (WantedMemory k) ≡ true
      → region_window (source_of r) (entry_named r used.used w e).physical x.virtual_address (unwrap_or e.rights x.rights)
      ≡ option_map (view_window r t.name) (region_view r e.physical x.virtual_address (unwrap_or e.rights x.rights))
  required_entry x k (WantedMemory j) e h same = region_by_index r q t.name e.physical x.virtual_address (unwrap_or e.rights x.rights) (and_parts _ _ h).1
  required_entry x k (WantedChannel j) e h same = absurd (cc)

  entry_rights : (w : Wanted) (e : MapEntry) → (entry_named r used.used w e).rights ≡ e.rights
  entry_rights (WantedMemory j) e = refl
  entry_rights (WantedChannel j) e = refl

  channel_entry : (x : ComponentChannel) (k : ℕ) (w : Wanted) (e : MapEntry) → entry_in_range r used.used w e.physical ≡ true → same_wanted w (WantedChannel k) ≡ true
      → channel_window (source_of r) (entry_named r used.used w e).physical x.virtual_address x.role
      ≡ option_map (view_window r t.name) (channel_view r e.physical x.virtual_address x.role)
  channel_entry x k (WantedMemory j) e h same = absurd (cc)
  channel_entry x k (WantedChannel j) e h same = channel_by_index r q t.name e.physical x.virtual_address x.role (and_parts _ _ h).1

  required_by_index : (k : ℕ) (x : Required) → slice_get c.memory k ≡ Some x → required_window (source_of r) t x ≡ option_map (view_window r t.name) (required_view r used.map (k, x))
  required_by_index k x at =
      ap (λ o. option_and_then (λ e. region_window (source_of r) e.physical x.virtual_address (unwrap_or e.rights x.rights)) (entry_of o x.logical)) uses
      ∙ entry_found r used.used c is unique_logical (WantedMemory k) x.logical
      (option_and_then (λ e. region_window (source_of r) e.physical x.virtual_address (unwrap_or e.rights x.rights)))
      (λ o. option_map (view_window r t.name) (option_and_then (λ e. region_view r e.physical x.virtual_address (unwrap_or e.rights x.rights)) o))
      (within_names (λ x. x.logical) c.memory k x at) (sym (name_there (λ x. x.logical) c.memory k x at)) refl
      (λ e h same. ap (λ rights. region_window (source_of r) (entry_named r used.used e.logical e).physical x.virtual_address (unwrap_or rights x.rights)) (entry_rights e.logical e) ∙ required_entry x k e.logical e h same)
      used.map entries_in_range

  component_channel_by_index : (k : ℕ) (x : ComponentChannel) → slice_get c.channels k ≡ Some x → component_channel_window (source_of r) t x ≡ option_map (view_window r t.name) (component_channel_view r used.map (k, x))
  component_channel_by_index k x at =
      ap (λ o. option_and_then (λ e. channel_window (source_of r) e.physical x.virtual_address x.role) (entry_of o x.logical)) uses
      ∙ entry_found r used.used c is unique_logical (WantedChannel k) x.logical
      (option_and_then (λ e. channel_window (source_of r) e.physical x.virtual_address x.role))
      (λ o. option_map (view_window r t.name) (option_and_then (λ e. channel_view r e.physical x.virtual_address x.role) o))
      (within_names (λ x. x.logical) c.channels k x at) (sym (name_there (λ x. x.logical) c.channels k x at)) refl
      (λ e h same. channel_entry x k e.logical e h same)
      used.map entries_in_range

  component_windows_by_index : component_windows (source_of r) t (component_by (source_of r) t.component) ≡ map (view_window r t.name) (component_views r used.map c)
  component_windows_by_index =
      let provided = map_numbered (λ x. window x.virtual_address x.size x.rights (provided t.name x.logical)) provided_view (view_window r t.name) (λ k x. refl) 0 c.provides in
      let required = filter_numbered (required_window (source_of r) t) (required_view r used.map) (view_window r t.name) 0 c.memory (λ k x at. required_by_index k x at ∙ ap (λ n. option_map (view_window r t.name) (required_view r used.map (n, x))) (omega arith)) in
      let channels = filter_numbered (component_channel_window (source_of r) t) (component_channel_view r used.map) (view_window r t.name) 0 c.channels (λ k x at. component_channel_by_index k x at ∙ ap (λ n. option_map (view_window r t.name) (component_channel_view r used.map (n, x))) (omega arith)) in
      ap (component_windows (source_of r) t) component_is
      ∙ (λ i. provided i ++ required i ++ channels i)
      ∙ (λ i. sym (map-append (view_window r t.name) (map provided_view (enumerate_from 0 c.provides)) (filter_map (required_view r used.map) (enumerate_from 0 c.memory))) i ++ map (view_window r t.name) (filter_map (component_channel_view r used.map) (enumerate_from 0 c.channels)))
      ∙ sym (map-append (view_window r t.name) (map provided_view (enumerate_from 0 c.provides) ++ filter_map (required_view r used.map) (enumerate_from 0 c.memory)) (filter_map (component_channel_view r used.map) (enumerate_from 0 c.channels)))

-- the component is there, where its use is in range
pub component_there : (r : Resolution) (used : ComponentUse) → component_in_range r used ≡ true → (c : Component) × (slice_get r.components used.used ≡ Some c)
component_there r used h = there r.components used.used (ltb-true used.used (length r.components) (and_parts _ _ h).0)

use_windows : (r : Resolution) (q : IsResolved r) (t : NamedSubject) (o : Option ComponentUse) → t.component ≡ option_map (component_named r) o → option_map_or (component_in_range r) o true ≡ true
    → component_windows (source_of r) t (component_by (source_of r) t.component) ≡ map (view_window r t.name) (use_views r o)
use_windows r q t None is h = ap (λ o. component_windows (source_of r) t (component_by (source_of r) o)) is
use_windows r q t (Some used) is h =
    let c = component_there r used h in
    component_windows_by_index r q t used c.0 is c.1 h
    ∙ ap (λ o. map (view_window r t.name) (option_map_or (component_views r used.map) o [])) (sym c.1)

-- ---- of a subject

-- each index that a subject has is in range
pub record SubjectInRange (r : Resolution) (s : Subject) : Type 0 where
  pub component : option_map_or (component_in_range r) s.component true ≡ true
  pub memory : list_all (λ m. nat_lt m.region (length r.memory)) s.memory ≡ true
  pub channels : list_all (λ c. nat_lt c.channel (length r.channels)) s.channels ≡ true
  pub devices : list_all (device_in_range r) s.devices ≡ true
  pub monitors : list_all (λ m. nat_lt m.subject (length r.subjects)) s.monitors ≡ true

pub subject_parts : (r : Resolution) (s : Subject) → subject_in_range r s ≡ true → SubjectInRange r s
subject_parts r s h =
    let g = and_parts _ _ h in
    let f = and_parts _ _ g.0 in
    let e = and_parts _ _ f.0 in
    let d = and_parts _ _ e.0 in
    let c = and_parts _ _ d.0 in
    let b = and_parts _ _ c.0 in
    record { component = b.0; memory = b.1; channels = c.1; devices = d.1; monitors = g.1 }

map_five : {X Y : Type 0} (f : X → Y) (a b c d e : List X) → map f a ++ map f b ++ map f c ++ map f d ++ map f e ≡ map f (a ++ b ++ c ++ d ++ e)
map_five f a b c d e = sym (simp map-append)

-- its windows are its views
pub windows_by_index : (r : Resolution) (s : Subject) → IsResolved r → subject_in_range r s ≡ true → windows_of (source_of r) (subject_named r s) ≡ map (view_window r s.name) (views_of r s)
unfolding windows_of views_of
windows_by_index r s q h =
    let is = subject_parts r s h in
    let p = source_of r in
    let mappings = filter_maps (λ m. region_window p m.region m.virtual_address m.rights) (mapping_named r) (λ m. region_view r m.region m.virtual_address m.rights) (view_window r s.name) (λ m. nat_lt m.region (length r.memory)) (λ m l. region_by_index r q s.name m.region m.virtual_address m.rights l) s.memory is.memory in
    let channels = filter_maps (λ c. channel_window p c.channel c.virtual_address c.role) (channel_named r) (λ c. channel_view r c.channel c.virtual_address c.role) (view_window r s.name) (λ c. nat_lt c.channel (length r.channels)) (λ c l. channel_by_index r q s.name c.channel c.virtual_address c.role l) s.channels is.channels in
    let devices = flat_maps (λ d. filter_map (device_window p d.device) d.memory) (device_named r) (λ d. filter_map (device_view r d.device) d.memory) (view_window r s.name) (device_in_range r) (λ d l. device_by_index r q s.name d l) s.devices is.devices in
    let component = use_windows r q (subject_named r s) s.component refl is.component in
    let monitors = map_filters monitor_window (monitor_named r) (monitor_view r) (view_window r s.name) (λ m. nat_lt m.subject (length r.subjects)) (λ m l. monitor_by_index r q s.name m l) s.monitors is.monitors in
    (λ i. mappings i ++ channels i ++ devices i ++ component i ++ monitors i)
    ∙ map_five (view_window r s.name) (filter_map (λ m. region_view r m.region m.virtual_address m.rights) s.memory) (filter_map (λ c. channel_view r c.channel c.virtual_address c.role) s.channels) (flat_map (λ d. filter_map (device_view r d.device) d.memory) s.devices) (use_views r s.component) (filter_map (monitor_view r) s.monitors)
