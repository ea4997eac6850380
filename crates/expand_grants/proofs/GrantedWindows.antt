-- The windows that are granted to a subject: they have numbers by the names of what they show, what has such a number has
-- that name, its memory type and as many bytes as the window, and they lie at guest addresses.
use Rattle.std.proofs.Common.{◌≡◌, ℕ, ◌+◌, true, All, List, [], ◌++◌, length, map, take, Option, Some, None, refl, sym, ap, subst, ◌∙◌}
use Rattle.std.specs.Prelude.{option_map, slice_get}
use Rattle.std.specs.Option.{option_map_or}
use Rattle.std.specs.List.{flat_map, list_all}
use Rattle.std.proofs.lemmas.List.Elements.{All-map}
use Rattle.std.proofs.lemmas.List.Folds.{list_all-map}
use Rattle.std.proofs.lemmas.List.Sums.{AllPass-from_list_all}
use Rattle.std.specs.Str.{bytes_eq}
use Rattle.std.proofs.lemmas.Option.{slice_get-map, slice_get_within}
use Rattle.expand_grants.proofs.Numbers.{at_number}
use Rattle.expand_grants.proofs.Ordered.{All-in_order, map_in_order}
use Rattle.expand_grants.proofs.Pieces.{at_piece}
use Rattle.expand_grants.specs.Grants.{AreGrantsOf, granted_windows, is_lower, numbered_window}
use Rattle.expand_grants.specs.Kept.{is_lower_view}
use Rattle.expand_grants.specs.Numbered.{IsNamed, IsWhole, caching_of, numbered_view, shown_tag, thing_size}
use Rattle.expand_grants.specs.Ordered.{in_order}
use Rattle.expand_grants.specs.declared.granted.GrantedWindow.{GrantedWindow}
use Rattle.expand_grants.specs.declared.granted.Grants.{Grants}
use Rattle.muen_num.proofs.Lists.{at_left, get_right, map-map, passes_at, position-map}
use Rattle.muen_num.specs.declared.limits.TheConstants.{PAGE}
use Rattle.muen_num.specs.declared.tag.TagPart.TheVariants.{State as States}
use Rattle.policy_lawful.proofs.EachView.{each_view}
use Rattle.policy_lawful.proofs.FirstIndexes.{first_named}
use Rattle.policy_lawful.proofs.KeptAddresses.{addresses_kept}
use Rattle.policy_lawful.proofs.KeptRules.{rules_of}
use Rattle.policy_lawful.proofs.SourceElements.{parts_in_range}
use Rattle.policy_lawful.proofs.UniqueNames.{subjects_unique}
use Rattle.policy_lawful.proofs.WindowsByIndex.{component_at, component_there, name_there, subject_parts, windows_by_index}
use Rattle.policy_lawful.specs.ByIndex.{provided_at}
use Rattle.policy_lawful.specs.Lawful.{IsLawful}
use Rattle.policy_lawful.specs.Resolution.{IsResolved, Resolution, component_in_range, component_named, source_of, subject_in_range, subject_named}
use Rattle.policy_lawful.specs.Rules.{is_guest, window_extent, window_extents}
use Rattle.policy_lawful.specs.Thing.{Item, Thing, channel_item, component_by, device_item, device_items, device_memory, items_of, placed_items, provided_item, provided_items, region_item, thing_tag}
use Rattle.policy_lawful.specs.Things.{subject_number, thing_caching, thing_index, thing_number}
use Rattle.policy_lawful.specs.declared.offence.Extent.{Extent}
use Rattle.policy_lawful.specs.Views.{view_window, views_of}
use Rattle.policy_lawful.specs.Windows.{Window, window, windows_of}
use Rattle.policy_lawful.specs.declared.resolved.ComponentUse.{ComponentUse}
use Rattle.policy_lawful.specs.declared.resolved.Subject.{Subject}
use Rattle.policy_lawful.specs.declared.thing.Thing.{Thing as NumberedThing}
use Rattle.policy_lawful.specs.declared.thing.ThingIndex.{ThingIndex}
use Rattle.policy_lawful.specs.declared.thing.ThingIndex.TheVariants.{Declared}
use Rattle.policy_lawful.specs.rights.Caching.TheVariants.{Wb}
use Rattle.policy_lawful.specs.source.Channel.{Channel}
use Rattle.policy_lawful.specs.source.Component.{Component}
use Rattle.policy_lawful.specs.source.Device.{Device}
use Rattle.policy_lawful.specs.source.DeviceMemory.{DeviceMemory}
use Rattle.policy_lawful.specs.source.Provided.{Provided}
use Rattle.policy_lawful.specs.source.Region.{Region}
use Rattle.policy_lawful.specs.source.Source.{Source}
use Rattle.policy_lawful.specs.source.Subject.{Subject as NamedSubject}

-- ---- what is among the items of a policy

-- it stands at a number
pub record IsItem (p : Source) (i : Item) : Type 0 where
  pub number : ℕ
  pub at : slice_get (items_of p) number ≡ Some i

module _ (p : Source) where
  abbrev regions : List Item
  regions = map region_item p.memory

  abbrev channels : List Item
  channels = map channel_item p.channels

  abbrev brought_by : NamedSubject → List Item
  brought_by s = provided_items s.name (component_by p s.component)

  abbrev memory_of : Device → List Item
  memory_of d = map (device_item d.name) d.memory

  placed : (n : ℕ) (i : Item) → slice_get (placed_items p) n ≡ Some i → IsItem p i
  unfolding items_of
  placed n i at = record { number = n; at = at_left (placed_items p) (device_items p) n i at }

  pub region_there : (n : ℕ) (x : Region) → slice_get p.memory n ≡ Some x → IsItem p (region_item x)
  unfolding placed_items
  region_there n x at =
      placed n (region_item x)
      (at_left (regions ++ channels) (flat_map brought_by p.subjects) n (region_item x)
      (at_left regions channels n (region_item x) (slice_get-map region_item p.memory n ∙ ap (option_map region_item) at)))

  pub channel_there : (n : ℕ) (x : Channel) → slice_get p.channels n ≡ Some x → IsItem p (channel_item x)
  unfolding placed_items
  channel_there n x at =
      placed (length regions + n) (channel_item x)
      (at_left (regions ++ channels) (flat_map brought_by p.subjects) (length regions + n) (channel_item x)
      (get_right regions channels n ∙ slice_get-map channel_item p.channels n ∙ ap (option_map channel_item) at))

  pub provided_there : (k n : ℕ) (s : NamedSubject) (x : Provided) → slice_get p.subjects k ≡ Some s → slice_get (option_map_or (λ c. c.provides) (component_by p s.component) []) n ≡ Some x
      → IsItem p (provided_item s.name x)
  unfolding placed_items
  provided_there k n s x at e =
      let i = provided_item s.name x in
      let before : ℕ = length (flat_map brought_by (take k p.subjects)) + n in
      placed (length (regions ++ channels) + before) i
      (get_right (regions ++ channels) (flat_map brought_by p.subjects) before
      ∙ at_piece brought_by p.subjects k n s i at (slice_get-map (provided_item s.name) (option_map_or (λ (c : Component). c.provides) (component_by p s.component) []) n ∙ ap (option_map (provided_item s.name)) e))

  pub device_there : (k n : ℕ) (d : Device) (x : DeviceMemory) → slice_get p.devices k ≡ Some d → slice_get d.memory n ≡ Some x → IsItem p (device_item d.name x)
  unfolding items_of device_items
  device_there k n d x at e =
      let before : ℕ = length (flat_map memory_of (take k p.devices)) + n in
      record {
        number = length (placed_items p) + before;
        at =
            get_right (placed_items p) (flat_map memory_of p.devices) before
            ∙ at_piece memory_of p.devices k n d (device_item d.name x) at (slice_get-map (device_item d.name) d.memory n ∙ ap (option_map (device_item d.name)) e);
      }

-- ---- views with numbers

-- what has this number has the printed name and the memory type of this thing, and this many bytes
pub record IsShownBy (r : Resolution) (number : ThingIndex) (x : Thing) (bytes : ℕ) : Type 0 where
  pub tag : shown_tag r number ≡ Some (thing_tag x)
  pub size : thing_size r number ≡ Some bytes
  pub caching : caching_of r number ≡ thing_caching (source_of r) x

-- a window's number is of the whole of what it shows by name
abbrev pub IsShown : Resolution → Window Thing → Type 0
IsShown r w = IsShownBy r (thing_index (source_of r) w.thing) w.thing w.size

module _ (r : Resolution) (q : IsResolved r) where
  item_shown : (i : Item) → IsItem (source_of r) i → IsShownBy r (Declared (thing_number (source_of r) i.thing)) i.thing i.size
  item_shown i there =
      let t = at_number r q there.number i there.at in
      record {
        tag = ap (option_map (λ (t : NumberedThing). t.tag)) t.1 ∙ (λ j. Some (t.2.region j).tag);
        size = ap (option_map (λ (t : NumberedThing). t.size)) t.1 ∙ (λ j. Some (t.2.region j).size);
        caching = ap (λ o. option_map_or (λ (t : NumberedThing). t.caching) o Wb) t.1 ∙ t.2.caching;
      }

  -- the index of a subject is the number of its name
  pub subject_is : (n : ℕ) (x : Subject) → slice_get r.subjects n ≡ Some x → subject_number (source_of r) x.name ≡ n
  unfolding source_of
  subject_is n x e = position-map (λ (s : NamedSubject). bytes_eq s.name x.name) (subject_named r) r.subjects ∙ (first_named (λ (s : Subject). s.name) r.subjects n x (subjects_unique r q.names) e).at

  module _ (k : ℕ) (s : Subject) (at : slice_get r.subjects k ≡ Some s) where
    in_range : subject_in_range r s ≡ true
    in_range = passes_at (subject_in_range r) r.subjects k s (parts_in_range r q.in_range).subjects at

    abbrev named : NamedSubject
    named = subject_named r s

    -- what its component brings along, by names
    brought_named : (o : Option ComponentUse) → option_map_or (component_in_range r) o true ≡ true → (n : ℕ) (x : Provided) → slice_get (provided_at r.components o) n ≡ Some x
        → slice_get (option_map_or (λ (c : Component). c.provides) (component_by (source_of r) (option_map (component_named r) o)) []) n ≡ Some x
    brought_named None h n x e = absurd cc
    brought_named (Some used) h n x e =
        let c = component_there r used h in
        ap (λ o. slice_get (option_map_or (λ (c : Component). c.provides) o []) n) (component_at r q used c.0 c.1)
        ∙ sym (ap (λ o. slice_get (option_map_or (λ (c : Component). c.provides) o []) n) c.1)
        ∙ e

    views_shown : All (λ v. IsShown r (view_window r s.name v)) (views_of r s)
    unfolding source_of
    views_shown =
        each_view r (λ v. IsShown r (view_window r s.name v)) s
        (record {
          region = λ n guest rights x e. item_shown (region_item x) (region_there (source_of r) n x e);
          channel = λ n guest role x e. item_shown (channel_item x) (channel_there (source_of r) n x e);
          device = λ n m d x e f.
              subst (λ owner. IsShown r (window m.virtual_address x.size m.rights (device_memory owner x.name))) (sym (name_there (λ (d : Device). d.name) r.devices n d e))
              (item_shown (device_item d.name x) (device_there (source_of r) n m.memory d x e f));
          provided = λ n x e.
              item_shown (provided_item s.name x)
              (provided_there (source_of r) k n named x (slice_get-map (subject_named r) r.subjects k ∙ ap (option_map (subject_named r)) at) (brought_named s.component (subject_parts r s in_range).component n x e));
          monitored = λ m x e.
              let here = ap (slice_get r.subjects) (subject_is m.subject x e) ∙ e in
              record { tag = ap (option_map (λ (s : Subject). record { owner = s.name; part = States })) here; size = ap (option_map (λ _. PAGE)) here; caching = refl };
        })

    -- a device whose memory is shown is there, and a state page's subject
    pub views_named : All (λ v. IsNamed r v v.shows) (views_of r s)
    views_named =
        each_view r (λ v. IsNamed r v v.shows) s
        (record {
          region = λ n guest rights x e. tt;
          channel = λ n guest role x e. tt;
          device = λ n m d x e f. slice_get_within r.devices n d e;
          provided = λ n x e. tt;
          monitored = λ m x e. subject_is m.subject x e;
        })

    -- **its windows** with numbers are its views with numbers
    pub windows_numbered : map (numbered_view r s.name) (in_order is_lower_view (views_of r s)) ≡ granted_windows (source_of r) named
    windows_numbered =
        sym (map-map (numbered_window (source_of r)) (view_window r s.name) (in_order is_lower_view (views_of r s)))
        ∙ ap (map (numbered_window (source_of r))) (map_in_order (view_window r s.name) is_lower (views_of r s))
        ∙ ap (λ ws. map (numbered_window (source_of r)) (in_order is_lower ws)) (sym (windows_by_index r s q in_range))

    -- what holds of each of its windows by names holds of those that are granted
    each_granted : (P : GrantedWindow → Type 0) (g : Grants) → AreGrantsOf r s g → All (λ w. P (numbered_window (source_of r) w)) (windows_of (source_of r) named) → All P g.windows
    each_granted P g granted h =
        rw granted.windows (All-map P (numbered_window (source_of r)) (in_order is_lower (windows_of (source_of r) named)) (All-in_order is_lower (λ w. P (numbered_window (source_of r) w)) (windows_of (source_of r) named) h))

    -- **what has its number** has the name of what it shows
    pub windows_shown : All (IsShown r) (windows_of (source_of r) named)
    windows_shown = rw (windows_by_index r s q in_range) (All-map (IsShown r) (view_window r s.name) (views_of r s) views_shown)

    -- **each shows the whole** of it
    pub named_whole : All (λ w. IsWhole r (numbered_window (source_of r) w)) (windows_of (source_of r) named)
    named_whole n d l = (windows_shown n d l).size

    pub windows_whole : (g : Grants) → AreGrantsOf r s g → All (IsWhole r) g.windows
    windows_whole g granted = each_granted (IsWhole r) g granted named_whole

    -- **each is a range** of guest addresses
    pub named_guests : IsLawful (source_of r) → All (λ w. is_guest w.guest w.size ≡ true) (windows_of (source_of r) named)
    unfolding source_of window_extents
    named_guests lawful =
        let kept = (addresses_kept (source_of r) (rules_of lawful).rule_4).windows in
        let each = passes_at (λ s. list_all (λ e. is_guest e.address e.size) (window_extents (source_of r) s)) (source_of r).subjects k named kept (slice_get-map (subject_named r) r.subjects k ∙ ap (option_map (subject_named r)) at) in
        AllPass-from_list_all (λ (w : Window Thing). is_guest w.guest w.size) (windows_of (source_of r) named) (sym (list_all-map (λ (e : Extent). is_guest e.address e.size) window_extent (windows_of (source_of r) named)) ∙ each)

    pub guests_granted : IsLawful (source_of r) → (g : Grants) → AreGrantsOf r s g → All (λ w. is_guest w.guest w.size ≡ true) g.windows
    guests_granted lawful g granted = each_granted (λ w. is_guest w.guest w.size ≡ true) g granted (named_guests lawful)
