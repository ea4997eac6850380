-- Whether a subject has a window on a region, by the region's name or by its index.
use Rattle.std.proofs.Common.{◌≡◌, ℕ, ◌<◌, Bool, true, false, List, length, map, Some, None, refl, sym, ap, ◌∙◌, arith}
use Rattle.std.specs.Prelude.{◌&&◌, slice_get}
use Rattle.std.specs.Option.{option_map_or}
use Rattle.std.specs.List.{list_all, list_any}
use Rattle.std.specs.Str.{bytes_eq}
use Rattle.std.proofs.lemmas.List.{length-map}
use Rattle.std.proofs.lemmas.Option.{slice_get_within}
use Rattle.std.proofs.lemmas.Slice.Eq.{bytes_eq-Decides}
use Rattle.muen_num.proofs.Lists.{any_same, list_any-map}
use Rattle.muen_num.specs.declared.access.AccessKind.TheVariants.{Write}
use Rattle.policy_lawful.specs.Resolution.{IsResolved, Resolution, source_of, subject_in_range, subject_named}
use Rattle.policy_lawful.specs.Rules.{maps, writes}
use Rattle.policy_lawful.specs.declared.resolved.Subject.{Subject}
use Rattle.std.proofs.lemmas.List.Sums.{list_all-from_AllPass}
use Rattle.muen_num.proofs.Lookups.{same_self}
use Rattle.policy_lawful.proofs.EachView.{each_view}
use Rattle.policy_lawful.proofs.Indexes.{same_name}
use Rattle.policy_lawful.proofs.UniqueNames.{unique}
use Rattle.policy_lawful.specs.Thing.{region, same_thing}
use Rattle.policy_types.specs.Rights.{allows}
use Rattle.policy_types.specs.declared.source.Region.{Region}
use Rattle.policy_lawful.specs.Views.{is_on_region, thing_shown, view_window, views_of}
use Rattle.policy_lawful.specs.declared.view.Shown.{Shown}
use Rattle.policy_lawful.specs.declared.view.Shown.TheVariants.{Memory, Channel, Provided as Given, Device, State}
use Rattle.policy_lawful.specs.declared.view.View.{View}
use Rattle.policy_lawful.proofs.WindowsByIndex.{name_there, windows_by_index}

-- ---- views on regions

-- a view on a region has the region's name
abbrev pub has_name : Resolution → List ℕ → Shown → Bool
has_name r name (Memory k) = option_map_or (λ x. bytes_eq x.name name) (slice_get r.memory k) false
has_name r name _ = true

abbrev pub is_named : Resolution → View → Bool
is_named r v = has_name r v.name v.shows

-- each view on a region is on one that is there, and has its name
pub views_named : (r : Resolution) (s : Subject) → list_all (is_named r) (views_of r s) ≡ true
views_named r s =
    list_all-from_AllPass (is_named r) (views_of r s)
    (each_view r (λ v. is_named r v ≡ true) s
    (record {
      region = λ k guest rights x at. ap (λ o. option_map_or (λ (y : Region). bytes_eq y.name x.name) o false) at ∙ same_self x.name;
      channel = λ k guest role x at. refl;
      device = λ k m d x there at. refl;
      provided = λ k x at. refl;
      monitored = λ m x at. refl;
    }))

-- ---- by name or by index

-- an index that is there
pub index_there : (r : Resolution) (name : List ℕ) (k : ℕ) → has_name r name (Memory k) ≡ true → (x : Region) × (slice_get r.memory k ≡ Some x) × (x.name ≡ name)
index_there r name k h =
    elim (slice_get r.memory k) as (λ o. slice_get r.memory k ≡ o → option_map_or (λ (x : Region). bytes_eq x.name name) o false ≡ true → (x : Region) × (slice_get r.memory k ≡ Some x) × (x.name ≡ name)) [
      | None ↦ λ e t. absurd (cc)
      | Some x ↦ λ e t. (x, e, (bytes_eq-Decides x.name name).0 t)
    ] refl h

same_region : (r : Resolution) (q : IsResolved r) (k : ℕ) (x : Region) (subject : List ℕ) (v : View) (shows : Shown) → slice_get r.memory k ≡ Some x → has_name r v.name shows ≡ true
    → same_thing (thing_shown r subject v shows) (region x.name) ≡ is_on_region k shows
unfolding source_of
same_region r q k x subject v (Memory j) is named =
    let names = map (λ x. x.name) r.memory in
    let many : length names ≡ length r.memory = length-map r.memory (λ x. x.name) in
    let at = index_there r v.name j named in
    let here : j < length r.memory = slice_get_within r.memory j at.0 at.1 in
    let within : k < length r.memory = slice_get_within r.memory k x is in
    (λ i. bytes_eq (sym (name_there (λ x. x.name) r.memory j at.0 at.1 ∙ at.2) i) (sym (name_there (λ x. x.name) r.memory k x is) i))
    ∙ same_name names j k (unique (source_of r) q.names).regions (omega (arith, many, here)) (omega (arith, many, within))
same_region r q k x subject v (Channel j) is named = refl
same_region r q k x subject v (Given j) is named = refl
same_region r q k x subject v (Device i j) is named = refl
same_region r q k x subject v (State j) is named = refl

-- a subject has a window on the region at an index where it has such a view
pub maps_at : (r : Resolution) (s : Subject) (k : ℕ) (x : Region) → IsResolved r → subject_in_range r s ≡ true → slice_get r.memory k ≡ Some x
    → maps (source_of r) x.name (subject_named r s) ≡ list_any (λ v. is_on_region k v.shows) (views_of r s)
maps_at r s k x q h is =
    ap (list_any (λ w. same_thing w.thing (region x.name))) (windows_by_index r s q h)
    ∙ list_any-map (λ w. same_thing w.thing (region x.name)) (view_window r s.name) (views_of r s)
    ∙ any_same (λ v. same_thing (thing_shown r s.name v v.shows) (region x.name)) (λ v. is_on_region k v.shows) (is_named r) (λ v named. same_region r q k x s.name v v.shows is named) (views_of r s) (views_named r s)

-- and may write it where it has one with the right to write
pub writes_at : (r : Resolution) (s : Subject) (k : ℕ) (x : Region) → IsResolved r → subject_in_range r s ≡ true → slice_get r.memory k ≡ Some x
    → writes (source_of r) x.name (subject_named r s) ≡ list_any (λ v. is_on_region k v.shows && allows v.rights Write) (views_of r s)
writes_at r s k x q h is =
    ap (list_any (λ w. same_thing w.thing (region x.name) && allows w.rights Write)) (windows_by_index r s q h)
    ∙ list_any-map (λ w. same_thing w.thing (region x.name) && allows w.rights Write) (view_window r s.name) (views_of r s)
    ∙ any_same (λ v. same_thing (thing_shown r s.name v v.shows) (region x.name) && allows v.rights Write) (λ v. is_on_region k v.shows && allows v.rights Write) (is_named r) (λ v named. ap (λ b. b && allows v.rights Write) (same_region r q k x s.name v v.shows is named)) (views_of r s) (views_named r s)
