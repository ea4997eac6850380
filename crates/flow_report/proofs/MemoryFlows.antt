-- Flows by shared memory, by names and by indexes.
use Rattle.std.proofs.Common.{◌≡◌, ℕ, Bool, true, false, List, None, refl, sym, ap, ◌∙◌}
use Rattle.std.specs.Prelude.{◌==◌, ◌&&◌, if◌then◌else◌}
use Rattle.std.specs.Option.{option_map_or}
use Rattle.std.specs.List.{filter_map, list_any}
use Rattle.std.specs.Str.{bytes_eq}
use Rattle.std.proofs.lemmas.Bool.Decides.{same_from_decides}
use Rattle.std.proofs.lemmas.Slice.Eq.{bytes_eq-Decides}
use Rattle.muen_num.specs.declared.access.AccessKind.TheVariants.{Write}
use Rattle.muen_num.proofs.Lists.{list_any-map}
use Rattle.policy_lawful.specs.Resolution.{IsResolved, Resolution, source_of, subject_named, subject_in_range}
use Rattle.policy_lawful.specs.Rules.{maps}
use Rattle.policy_lawful.specs.declared.resolved.Subject.{Subject}
use Rattle.policy_lawful.specs.Thing.{Thing, region, channel, provided, device_memory, state, same_thing}
use Rattle.policy_lawful.specs.Windows.{Window, windows_of}
use Rattle.policy_lawful.specs.Rights.{allows}
use Rattle.policy_lawful.specs.Views.{is_on_region, thing_shown, view_window, views_of}
use Rattle.policy_lawful.specs.declared.view.Shown.{Shown}
use Rattle.policy_lawful.specs.declared.view.Shown.TheVariants.{Memory, Channel, Provided as Given, Device, State}
use Rattle.policy_lawful.specs.declared.view.View.{View}
use Rattle.policy_lawful.proofs.RegionsByIndex.{has_name, is_named, maps_at, index_there, views_named}
use Rattle.policy_lawful.proofs.WindowsByIndex.{windows_by_index}
use Rattle.policy_flows.specs.Flows.{by_memory, is_region}
use Rattle.muen_num.proofs.Members.{any_agree, passes_in}
use Rattle.flow_report.specs.ByIndex.{region_changed, region_shown}
use Rattle.muen_num.specs.Numbers.{is_among, share}
use Rattle.flow_report.proofs.IndexesOfSubjects.{any_filter_map}

bytes_turned : (a b : List ℕ) → bytes_eq a b ≡ bytes_eq b a
bytes_turned a b =
    let d = bytes_eq-Decides a b in
    let e = bytes_eq-Decides b a in
    same_from_decides _ _ d (λ h. sym (e.0 h), λ h. e.1 (sym h))

-- a region on either side
region_turned : (name : List ℕ) (t : Thing) → same_thing (region name) t ≡ same_thing t (region name)
region_turned name (region a) = bytes_turned name a
region_turned name (channel a) = refl
region_turned name (provided s a) = refl
region_turned name (device_memory d a) = refl
region_turned name (state a) = refl

on_region : (k : ℕ) (shows : Shown) → is_on_region k shows ≡ option_map_or (λ y. y == k) (region_shown shows) false
on_region k (Memory j) = refl
on_region k (Channel j) = refl
on_region k (Given j) = refl
on_region k (Device i j) = refl
on_region k (State j) = refl

module _ (r : Resolution) (q : IsResolved r) (s : Subject) (in_range : subject_in_range r s ≡ true) where
  abbrev numbers : List ℕ
  numbers = filter_map (λ v. region_shown v.shows) (views_of r s)

  abbrev windows : List (Window Thing)
  windows = windows_of (source_of r) (subject_named r s)

  -- it maps the region at an index
  mapped_at : (name : List ℕ) (k : ℕ) → has_name r name (Memory k) ≡ true → list_any (λ w. same_thing (region name) w.thing) windows ≡ is_among numbers k
  mapped_at name k named =
      let at = index_there r name k named in
      any_agree (λ (w : Window Thing). same_thing (region name) w.thing) (λ w. same_thing w.thing (region name)) windows (λ w _. region_turned name w.thing)
      ∙ ap (λ n. maps (source_of r) n (subject_named r s)) (sym at.2)
      ∙ maps_at r s k at.0 q in_range at.1
      ∙ any_agree (λ (v : View). is_on_region k v.shows) (λ v. option_map_or (λ y. y == k) (region_shown v.shows) false) (views_of r s) (λ v _. on_region k v.shows)
      ∙ sym (any_filter_map (λ y. y == k) (λ (v : View). region_shown v.shows) (views_of r s))

  shown_at : (subject : List ℕ) (v : View) (shows : Shown) → has_name r v.name shows ≡ true
      → (is_region (thing_shown r subject v shows) && list_any (λ w. same_thing (thing_shown r subject v shows) w.thing) windows) ≡ option_map_or (is_among numbers) (region_shown shows) false
  shown_at subject v (Memory k) named = mapped_at v.name k named
  shown_at subject v (Channel k) named = refl
  shown_at subject v (Given k) named = refl
  shown_at subject v (Device i k) named = refl
  shown_at subject v (State k) named = refl

  changed_at : (subject : List ℕ) (v : View) (b : Bool) → has_name r v.name v.shows ≡ true
      → (b && is_region (thing_shown r subject v v.shows) && list_any (λ w. same_thing (thing_shown r subject v v.shows) w.thing) windows)
      ≡ option_map_or (is_among numbers) (if b then region_shown v.shows else None) false
  changed_at subject v true named = shown_at subject v v.shows named
  changed_at subject v false named = refl

  pub memory_same : (u : Subject) → subject_in_range r u ≡ true
      → by_memory (source_of r) (subject_named r u) (subject_named r s) ≡ share (filter_map region_changed (views_of r u)) (filter_map (λ v. region_shown v.shows) (views_of r s))
  memory_same u a =
      let test : Window Thing → Bool = λ w. allows w.rights Write && is_region w.thing && list_any (λ v. same_thing w.thing v.thing) windows in
      ap (list_any test) (windows_by_index r u q a)
      ∙ list_any-map test (view_window r u.name) (views_of r u)
      ∙ any_agree (λ v. test (view_window r u.name v)) (λ v. option_map_or (is_among numbers) (region_changed v) false) (views_of r u)
      (λ v i. changed_at u.name v (allows v.rights Write) (passes_in (is_named r) (views_of r u) (views_named r u) v i))
      ∙ sym (any_filter_map (is_among numbers) region_changed (views_of r u))
