-- What a subject and a device have to do with each other, by names and by indexes.
use Rattle.std.proofs.Common.{◌≡◌, ℕ, ◌<◌, Bool, true, false, List, [], length, map, Some, None, refl, sym, ap, ◌∙◌, arith}
use Rattle.std.specs.Prelude.{◌==◌, ◌&&◌, ◌||◌, nat_lt, not, option_map, slice_get}
use Rattle.std.specs.Option.{option_map_or}
use Rattle.std.specs.List.{find, list_all, list_any}
use Rattle.std.specs.Str.{bytes_eq}
use Rattle.std.proofs.lemmas.Bool.{and_parts, lt-ltb, ltb-true}
use Rattle.std.proofs.lemmas.List.{length-map}
use Rattle.std.proofs.lemmas.List.Sums.{list_all-from_AllPass}
use Rattle.std.proofs.lemmas.Option.{slice_get_within}
use Rattle.muen_num.specs.declared.access.AccessKind.{AccessKind}
use Rattle.muen_num.specs.declared.access.AccessKind.TheVariants.{Read, Write}
use Rattle.muen_num.proofs.Indexed.{found_some}
use Rattle.muen_num.proofs.Lists.{list_any-map}
use Rattle.muen_num.proofs.Lookups.{found_passes, same_names, same_self}
use Rattle.muen_num.proofs.Members.{any_agree, any_some, passes_in}
use Rattle.policy_lawful.specs.Dma.{domain_windows}
use Rattle.policy_lawful.specs.Resolution.{IsResolved, Resolution, device_in_range, device_named, name_at, source_of, subject_in_range, subject_named}
use Rattle.policy_lawful.specs.Rights.{allows}
use Rattle.policy_lawful.specs.Thing.{Thing, region, same_thing}
use Rattle.policy_lawful.specs.Views.{thing_shown, view_window, views_of}
use Rattle.policy_lawful.specs.Windows.{Window, region_window, window, windows_of}
use Rattle.policy_lawful.specs.declared.resolved.DeviceUse.{DeviceUse as ResolvedUse}
use Rattle.policy_lawful.specs.declared.resolved.Subject.{Subject}
use Rattle.policy_lawful.specs.declared.view.Shown.{Shown}
use Rattle.policy_lawful.specs.declared.view.Shown.TheVariants.{Memory, Channel, Provided as Given, Device as OnDevice, State}
use Rattle.policy_lawful.specs.declared.view.View.{View}
use Rattle.policy_lawful.specs.source.Device.{Device}
use Rattle.policy_lawful.specs.source.DeviceUse.{DeviceUse}
use Rattle.policy_lawful.specs.source.Mapping.{Mapping}
use Rattle.policy_lawful.specs.source.Region.{Region}
use Rattle.policy_lawful.proofs.EachView.{each_view}
use Rattle.policy_lawful.proofs.Indexes.{same_name}
use Rattle.policy_lawful.proofs.RegionsByIndex.{has_name, index_there, is_named, views_named}
use Rattle.policy_lawful.proofs.UniqueNames.{devices_unique}
use Rattle.policy_lawful.proofs.WindowsByIndex.{name_there, subject_parts, windows_by_index}
use Rattle.flow_report.proofs.IndexesOfSubjects.{any_filter_map}
use Rattle.device_flows.specs.ByIndex.{domain_meets, has_dma, has_interrupts, has_ports, has_registers, hears_at, is_on_device, meets, shows_region, tells_at}
use Rattle.device_flows.specs.Ends.{by_dma, by_interrupt, by_ports, by_registers, has_device, hears, is_memory_of, tells}

-- ---- views on devices are on ones that are there

abbrev on_one_there : Resolution → Shown → Bool
on_one_there r (OnDevice k memory) = nat_lt k (length r.devices)
on_one_there r _ = true

views_there : (r : Resolution) (s : Subject) → list_all (λ v. on_one_there r v.shows) (views_of r s) ≡ true
views_there r s =
    list_all-from_AllPass (λ (v : View). on_one_there r v.shows) (views_of r s)
    (each_view r (λ v. on_one_there r v.shows ≡ true) s
    (record {
      region = λ k guest rights x at. refl;
      channel = λ k guest role x at. refl;
      device = λ k m d x at there. lt-ltb k (length r.devices) (slice_get_within r.devices k d at);
      provided = λ k x at. refl;
      monitored = λ m x at. refl;
    }))

-- ---- a subject and a device

module _ (r : Resolution) (q : IsResolved r) (s : Subject) (in_range : subject_in_range r s ≡ true) (k : ℕ) (d : Device) (at : slice_get r.devices k ≡ Some d) where
  abbrev device_names : List (List ℕ)
  device_names = map (λ x. x.name) r.devices

  same_device : (j : ℕ) → nat_lt j (length r.devices) ≡ true → bytes_eq (name_at device_names j) d.name ≡ (j == k)
  same_device j h =
      let many : length device_names ≡ length r.devices = length-map r.devices (λ x. x.name) in
      let here : j < length r.devices = ltb-true j (length r.devices) h in
      let within : k < length r.devices = slice_get_within r.devices k d at in
      ap (bytes_eq (name_at device_names j)) (sym (name_there (λ x. x.name) r.devices k d at))
      ∙ same_name device_names j k (devices_unique r q) (omega (arith, many, here)) (omega (arith, many, within))

  use_there : (x : ResolvedUse) → device_in_range r x ≡ true → nat_lt x.device (length r.devices) ≡ true
  use_there x h = (and_parts _ _ (and_parts _ _ (and_parts _ _ h).0).0).0

  abbrev uses_in_range : list_all (device_in_range r) s.devices ≡ true
  uses_in_range = (subject_parts r s in_range).devices

  ports_same : by_ports (subject_named r s) d ≡ has_ports s k
  ports_same =
      list_any-map (λ (x : DeviceUse). bytes_eq x.device d.name && not (length x.io_ports == 0)) (device_named r) s.devices
      ∙ any_agree (λ x. bytes_eq (name_at device_names x.device) d.name && not (length (device_named r x).io_ports == 0)) (λ x. (x.device == k) && not (length x.io_ports == 0)) s.devices
      (λ x i.
      let here = same_device x.device (use_there x (passes_in (device_in_range r) s.devices uses_in_range x i)) in
      let many : length (device_named r x).io_ports ≡ length x.io_ports = length-map x.io_ports _ in
      λ i. here i && not (many i == 0))

  interrupts_same : by_interrupt (subject_named r s) d ≡ has_interrupts s k
  interrupts_same =
      list_any-map (λ (x : DeviceUse). bytes_eq x.device d.name && not (length x.irqs == 0)) (device_named r) s.devices
      ∙ any_agree (λ x. bytes_eq (name_at device_names x.device) d.name && not (length (device_named r x).irqs == 0)) (λ x. (x.device == k) && not (length x.irqs == 0)) s.devices
      (λ x i.
      let here = same_device x.device (use_there x (passes_in (device_in_range r) s.devices uses_in_range x i)) in
      let many : length (device_named r x).irqs ≡ length x.irqs = length-map x.irqs _ in
      λ i. here i && not (many i == 0))

  shown_on : (v : View) (shows : Shown) → on_one_there r shows ≡ true → is_memory_of d.name (thing_shown r s.name v shows) ≡ is_on_device k shows
  shown_on v (Memory j) h = refl
  shown_on v (Channel j) h = refl
  shown_on v (Given j) h = refl
  shown_on v (OnDevice j memory) h = same_device j h
  shown_on v (State j) h = refl

  registers_same : by_registers (source_of r) (subject_named r s) d ≡ has_registers (views_of r s) k
  registers_same =
      ap (list_any (λ (w : Window Thing). is_memory_of d.name w.thing)) (windows_by_index r s q in_range)
      ∙ list_any-map (λ (w : Window Thing). is_memory_of d.name w.thing) (view_window r s.name) (views_of r s)
      ∙ any_agree (λ v. is_memory_of d.name (thing_shown r s.name v v.shows)) (λ v. is_on_device k v.shows) (views_of r s)
      (λ v i. shown_on v v.shows (passes_in (λ v. on_one_there r v.shows) (views_of r s) (views_there r s) v i))

  -- ---- by memory

  module _ (own other : AccessKind) where
    abbrev sees : List ℕ → Bool
    sees name = list_any (λ v. allows v.rights other && same_thing (region name) v.thing) (windows_of (source_of r) (subject_named r s))

    region_same : (name : List ℕ) (v : View) (shows : Shown) → same_thing (region name) (thing_shown r s.name v shows) ≡ shows_region name v.name shows
    region_same name v (Memory j) = refl
    region_same name v (Channel j) = refl
    region_same name v (Given j) = refl
    region_same name v (OnDevice i j) = refl
    region_same name v (State j) = refl

    sees_same : (m : Mapping) → sees m.region ≡ meets other (views_of r s) m
    sees_same m =
        ap (list_any (λ (w : Window Thing). allows w.rights other && same_thing (region m.region) w.thing)) (windows_by_index r s q in_range)
        ∙ list_any-map (λ (w : Window Thing). allows w.rights other && same_thing (region m.region) w.thing) (view_window r s.name) (views_of r s)
        ∙ any_agree (λ v. allows v.rights other && same_thing (region m.region) (thing_shown r s.name v v.shows)) (λ v. allows v.rights other && shows_region m.region v.name v.shows) (views_of r s)
        (λ v i. ap (λ b. allows v.rights other && b) (region_same m.region v v.shows))

    -- a region that a view shows is there
    shown_there : (name : List ℕ) (v : View) (shows : Shown) → has_name r v.name shows ≡ true → shows_region name v.name shows ≡ true → find (λ x. bytes_eq x.name name) r.memory ≡ None → ⊥
    shown_there name v (Memory j) named h none =
        let x = index_there r v.name j named in
        let same : x.0.name ≡ name = x.2 ∙ sym (same_names name v.name h) in
        let found = found_some (λ (y : Region). bytes_eq y.name name) r.memory j x.0 x.1 (ap (λ n. bytes_eq n name) same ∙ same_self name) in
        let both : None ≡ Some found.0 = sym none ∙ found.1 in
        absurd (cc)
    shown_there name v (Channel j) named h none = absurd (cc)
    shown_there name v (Given j) named h none = absurd (cc)
    shown_there name v (OnDevice i j) named h none = absurd (cc)
    shown_there name v (State j) named h none = absurd (cc)

    none_meets : (m : Mapping) → find (λ x. bytes_eq x.name m.region) r.memory ≡ None → meets other (views_of r s) m ≡ false
    none_meets m none =
        elim (meets other (views_of r s) m) as (λ b. meets other (views_of r s) m ≡ b → b ≡ false) [
          | true ↦ λ e.
              let found = any_some (λ v. allows v.rights other && shows_region m.region v.name v.shows) (views_of r s) e in
              let shown = (and_parts (allows found.one.rights other) (shows_region m.region found.one.name found.one.shows) found.passes).1 in
              absurd (shown_there m.region found.one found.one.shows (passes_in (is_named r) (views_of r s) (views_named r s) found.one found.within) shown none)
          | false ↦ λ e. refl
        ] refl

    no_part : (a b : Bool) → b ≡ false → false ≡ (a && b)
    no_part true b h = sym h
    no_part false b h = refl

    abbrev window_meets : Window Thing → Bool
    window_meets w = allows w.rights own && list_any (λ v. allows v.rights other && same_thing w.thing v.thing) (windows_of (source_of r) (subject_named r s))

    mapping_same : (m : Mapping) → option_map_or window_meets (region_window (source_of r) m.region m.virtual_address m.rights) false ≡ (allows m.rights own && meets other (views_of r s) m)
    unfolding source_of
    mapping_same m =
        elim (find (λ x. bytes_eq x.name m.region) r.memory) as (λ o. find (λ x. bytes_eq x.name m.region) r.memory ≡ o
        → option_map_or window_meets (option_map (λ (x : Region). window m.virtual_address x.size m.rights (region x.name)) o) false ≡ (allows m.rights own && meets other (views_of r s) m)) [
          | None ↦ λ e. no_part (allows m.rights own) (meets other (views_of r s) m) (none_meets m e)
          | Some x ↦ λ e.
              let name : x.name ≡ m.region = same_names x.name m.region (found_passes (λ (x : Region). bytes_eq x.name m.region) r.memory x e) in
              ap (λ b. allows m.rights own && b) (ap sees name ∙ sees_same m)
        ] refl

    dma_same : by_dma (source_of r) own other (subject_named r s) d ≡ has_dma r.device_domains own other (views_of r s) d
    unfolding source_of
    dma_same =
        elim (find (λ x. has_device x d.name) r.device_domains) as (λ o. list_any window_meets (option_map_or (domain_windows (source_of r)) o []) ≡ option_map_or (domain_meets own other (views_of r s)) o false) [
          | None ↦ refl
          | Some x ↦
              any_filter_map window_meets (λ (m : Mapping). region_window (source_of r) m.region m.virtual_address m.rights) x.memory
              ∙ any_agree (λ m. option_map_or window_meets (region_window (source_of r) m.region m.virtual_address m.rights) false) (λ m. allows m.rights own && meets other (views_of r s) m) x.memory (λ m i. mapping_same m)
        ]

  pub tells_same : tells (source_of r) (subject_named r s) d ≡ tells_at r.device_domains (views_of r s) s k d
  unfolding tells
  tells_same = λ i. ports_same i || registers_same i || dma_same Read Write i

  pub hears_same : hears (source_of r) (subject_named r s) d ≡ hears_at r.device_domains (views_of r s) s k d
  unfolding hears
  hears_same = λ i. ports_same i || registers_same i || interrupts_same i || dma_same Write Read i
