-- The windows of a lawful policy: each begins where a page does, and is on a thing that has all its bytes, or on the state page
-- of another subject on the same CPU.
use Rattle.std.proofs.Common.{◌≡◌, ℕ, zero, suc, ◌+◌, ◌%◌, ◌≤◌, ◌⊎◌, inl, inr, Bool, true, false, cond, not, List, [], ◌∷◌, ◌++◌, length, map, Option, Some, None, refl, sym, ap, subst, ◌∙◌, true≢false}
use Rattle.std.specs.Prelude.{◌==◌, ◌&&◌, nat_le, option_and_then, option_map, slice_get, unwrap_or}
use Rattle.std.specs.Option.{IfSome, option_map_or}
use Rattle.std.specs.List.{AllByRecursion, filter_map, find, flat_map, list_all, list_any}
use Rattle.std.specs.Str.{bytes_eq}
use Rattle.std.proofs.lemmas.Bool.{and_parts, eqb-true}
use Rattle.std.proofs.lemmas.List.Folds.{list_all-map}
use Rattle.std.proofs.lemmas.Slice.Eq.{bytes_eq-Decides}
use Rattle.std.proofs.lemmas.Map.Keys.{any_passes_from_place}
use Rattle.muen_num.proofs.Lists.{each_from, passes_at}
use Rattle.muen_num.proofs.SearchLaws.{none_both, unless_none}
use Rattle.muen_num.specs.Search.{first_after, first_in, unless}
use Rattle.muen_num.specs.declared.limits.TheConstants.{GUEST_END}
use Rattle.policy_lawful.proofs.KeptAddresses.{addresses_kept}
use Rattle.policy_lawful.proofs.KeptRules.{rules_of}
use Rattle.policy_lawful.specs.Domains.{is_monitor, monitor_offence, offence_24}
use Rattle.policy_lawful.specs.Lawful.{IsLawful}
use Rattle.policy_lawful.specs.Offences.{two}
use Rattle.policy_lawful.specs.Rules.{is_guest, is_on, is_page_size, subject_cpu, window_extent, window_extents}
use Rattle.muen_num.specs.Numbers.{is_page_aligned}
use Rattle.policy_lawful.specs.declared.offence.Offence.{Offence}
use Rattle.policy_lawful.specs.Contents.{Held, initial_bytes}
use Rattle.policy_lawful.specs.Thing.{Item, Thing, channel, channel_item, component_by, device_item, device_memory, provided, provided_item, region, region_item, same_thing, state, things_of}
use Rattle.policy_lawful.specs.Windows.{Window, channel_window, component_channel_window, component_windows, device_window, entry_of, monitor_window, region_window, required_window, role_rights, window, windows_of}
use Rattle.policy_lawful.specs.Rights.{may_execute}
use Rattle.policy_lawful.specs.rights.Rights.{Rights}
use Rattle.policy_lawful.specs.rights.Role.{Role}
use Rattle.policy_lawful.specs.source.ChannelUse.{ChannelUse}
use Rattle.policy_lawful.specs.source.Component.{Component}
use Rattle.policy_lawful.specs.source.DeviceMapping.{DeviceMapping}
use Rattle.policy_lawful.specs.source.DeviceUse.{DeviceUse}
use Rattle.policy_lawful.specs.source.MapEntry.{MapEntry}
use Rattle.policy_lawful.specs.source.Mapping.{Mapping}
use Rattle.policy_lawful.specs.source.Monitor.{Monitor}
use Rattle.policy_lawful.specs.source.Provided.{Provided}
use Rattle.policy_lawful.specs.source.Region.{Region}
use Rattle.policy_lawful.specs.source.Source.{Source}
use Rattle.policy_lawful.specs.source.Subject.{Subject}
use Rattle.muen_num.proofs.Each.{each_append, each_flat, each_some, chained}
use Rattle.muen_num.proofs.Lookups.{found_passes, same_self, found_index}
use Rattle.expand_grants.proofs.GrantedWindows.{IsItem, channel_there, device_there, provided_there, region_there}
use Rattle.policy_lawful.proofs.ThingsDiffer.{item_found}
use Rattle.image_soundness.proofs.ThingFacts.{item_is_thing, item_long}

-- ---- what holds of each element

module _ {X : Type 0} (P : X → Type 0) where
  each_image : {Y : Type 0} (f : Y → X) (ys : List Y) → ((j : ℕ) (y : Y) → slice_get ys j ≡ Some y → P (f y)) → AllByRecursion P (map f ys)
  each_image f [] h = tt
  each_image f (y ∷ ys) h = (h 0 y refl, each_image f ys (λ j z e. h (suc j) z e))

  pub each_found : (test : X → Bool) (xs : List X) (x : X) → AllByRecursion P xs → find test xs ≡ Some x → P x
  each_found test [] x a h = absurd (cc)
  each_found test (y ∷ ys) x a h =
      elim (test y) as (λ b. cond b (Some y) (find test ys) ≡ Some x → P x) [
        | true ↦ λ is. let same : y ≡ x = cc in subst P same a.0
        | false ↦ λ is. each_found test ys x a.1 is
      ] h

-- ---- what a window is on

-- a window on a thing of the policy, which has all its bytes
pub record IsOnThing (p : Source) (w : Window Thing) : Type 0 where
  pub declared : list_any (λ x. same_thing x w.thing) (things_of p) ≡ true
  pub bytes : (files : Held) → w.size ≤ length (initial_bytes p files w.thing)

-- a window on the state page of another subject on the CPU of this one, which may monitor it
pub record IsOnState (p : Source) (s : ℕ) (n : Subject) (w : Window Thing) : Type 0 where
  pub number : ℕ
  pub subject : Subject
  pub at : slice_get p.subjects number ≡ Some subject
  pub monitored : list_any (λ m. bytes_eq m.subject subject.name) n.monitors ≡ true
  pub page : state subject.name ≡ w.thing
  pub cpu : subject.cpu ≡ n.cpu
  pub other : number ≡ s → ⊥
  pub size : w.size ≡ 4096

-- one of both
abbrev pub IsOn : Source → ℕ → Subject → Window Thing → Type 0
IsOn p s n w = IsOnThing p w ⊎ IsOnState p s n w

-- a region that is found by a name is found by its own
pub region_again : (p : Source) (name : List ℕ) (r : Region) → find (λ r. bytes_eq r.name name) p.memory ≡ Some r → find (λ x. bytes_eq x.name r.name) p.memory ≡ Some r
region_again p name r is =
    ap (λ n. find (λ (x : Region). bytes_eq x.name n) p.memory) ((bytes_eq-Decides r.name name).0 (found_passes (λ (x : Region). bytes_eq x.name name) p.memory r is)) ∙ is

-- what holds of what stands at an index holds of what is made of one that is found
module _ (P : Window Thing → Type 0) {X : Type 0} (test : X → Bool) (xs : List X) where
  if_found : (f : X → Option (Window Thing)) → ((n : ℕ) (x : X) → slice_get xs n ≡ Some x → IfSome (f x) P) → IfSome (option_and_then f (find test xs)) P
  if_found f h =
      elim (find test xs) as (λ o. find test xs ≡ o → IfSome (option_and_then f o) P) [
        | None ↦ λ _. tt
        | Some x ↦ λ is. let index = found_index test xs x is in h index.0 x index.1
      ] refl

  if_made : (f : X → Window Thing) → ((n : ℕ) (x : X) → slice_get xs n ≡ Some x → P (f x)) → IfSome (option_map f (find test xs)) P
  if_made f h =
      elim (find test xs) as (λ o. find test xs ≡ o → IfSome (option_map f o) P) [
        | None ↦ λ _. tt
        | Some x ↦ λ is. let index = found_index test xs x is in h index.0 x index.1
      ] refl

-- where none offends after those before it, one at an index doesn't after some
none_after : {X : Type 0} (at : List X → X → Option Offence) (before xs : List X) (k : ℕ) (x : X) → first_after at before xs ≡ None → slice_get xs k ≡ Some x → (front : List X) × (at front x ≡ None)
none_after at before [] k x h e = absurd (cc)
none_after at before (y ∷ ys) zero x h e = let same : y ≡ x = cc in (before, ap (at before) (sym same) ∙ (none_both (at before y) (first_after at (before ++ y ∷ []) ys) h).0)
none_after at before (y ∷ ys) (suc k) x h e = none_after at (before ++ y ∷ []) ys k x (none_both (at before y) (first_after at (before ++ y ∷ []) ys) h).1 e

module _ (p : Source) (lawful : IsLawful p) (s : ℕ) (n : Subject) (at : slice_get p.subjects s ≡ Some n) where
  abbrev on : Window Thing → Type 0
  on = IsOn p s n

  -- a window on the whole of an item
  on_item : (i : Item) (guest : ℕ) (rights : Rights) → IsItem p i → on (window guest i.size rights i.thing)
  on_item i guest rights it = inl (record { declared = item_is_thing p i it; bytes = λ files. item_long p files i.thing i (item_found p (rules_of lawful).rule_1 it.number i it.at) })

  on_region : (name : List ℕ) (guest : ℕ) (rights : Rights) → IfSome (region_window p name guest rights) on
  on_region name guest rights = if_made on (λ r. bytes_eq r.name name) p.memory (λ r. window guest r.size rights (region r.name)) (λ k r e. on_item (region_item r) guest rights (region_there p k r e))

  on_channel : (name : List ℕ) (guest : ℕ) (role : Role) → IfSome (channel_window p name guest role) on
  on_channel name guest role = if_made on (λ c. bytes_eq c.name name) p.channels (λ c. window guest c.size (role_rights role) (channel c.name)) (λ k c e. on_item (channel_item c) guest (role_rights role) (channel_there p k c e))

  on_device : (name : List ℕ) (m : DeviceMapping) → IfSome (device_window p name m) on
  on_device name m =
      if_found on (λ d. bytes_eq d.name name) p.devices
      (λ d. option_map (λ x. window m.virtual_address x.size m.rights (device_memory d.name x.name)) (find (λ x. bytes_eq x.name m.memory) d.memory))
      (λ k d e.
      if_made on (λ x. bytes_eq x.name m.memory) d.memory (λ x. window m.virtual_address x.size m.rights (device_memory d.name x.name))
      (λ j x f. on_item (device_item d.name x) m.virtual_address m.rights (device_there p k j d x e f)))

  -- a monitor's subject is another one on the same CPU
  watched : (j : ℕ) (m : Monitor) (front : List Monitor) → slice_get n.monitors j ≡ Some m → is_monitor p n front m ≡ true → IsOnState p s n (monitor_window m)
  watched j m front in_it h =
      let other = not (bytes_eq m.subject n.name) in
      let same_cpu = is_on (subject_cpu p m.subject) n.cpu in
      let first = not (list_any (λ b. bytes_eq b.subject m.subject) front) in
      let both = and_parts other same_cpu (and_parts (other && same_cpu) first (and_parts (other && same_cpu && first) (not (may_execute m.rights)) h).0).0 in
      elim (find (λ s. bytes_eq s.name m.subject) p.subjects)
      as (λ o. find (λ s. bytes_eq s.name m.subject) p.subjects ≡ o → is_on (option_map (λ (s : Subject). s.cpu) o) n.cpu ≡ true → IsOnState p s n (monitor_window m)) [
        | None ↦ λ _ k. absurd (cc)
        | Some t ↦ λ is k.
            let index = found_index (λ s. bytes_eq s.name m.subject) p.subjects t is in
            let named : t.name ≡ m.subject = (bytes_eq-Decides t.name m.subject).0 (found_passes (λ s. bytes_eq s.name m.subject) p.subjects t is) in
            record {
              number = index.0;
              subject = t;
              at = index.1;
              monitored = any_passes_from_place (λ (x : Monitor). bytes_eq x.subject t.name) n.monitors j m in_it (ap (bytes_eq m.subject) named ∙ same_self m.subject);
              page = ap state named;
              cpu = eqb-true t.cpu n.cpu k;
              other = λ e.
                  let both_there : Some t ≡ Some n = sym index.1 ∙ ap (slice_get p.subjects) e ∙ at in
                  let itself : t ≡ n = cc in
                  let name : bytes_eq m.subject n.name ≡ true = ap (λ x. bytes_eq x n.name) (sym named ∙ ap (λ (x : Subject). x.name) itself) ∙ same_self n.name in
                  true≢false (sym both.0 ∙ ap not name);
              size = refl;
            }
      ] refl both.1

  monitors_kept : monitor_offence p n ≡ None
  unfolding offence_24
  monitors_kept = none_kept p.subjects s (rules_of lawful).rule_24 at
    where
      none_kept : (ns : List Subject) (k : ℕ) → first_in (monitor_offence p) ns ≡ None → slice_get ns k ≡ Some n → monitor_offence p n ≡ None
      none_kept [] k h e = absurd (cc)
      none_kept (x ∷ xs) zero h e = let same : x ≡ n = cc in ap (monitor_offence p) (sym same) ∙ (none_both (monitor_offence p x) (first_in (monitor_offence p) xs) h).0
      none_kept (x ∷ xs) (suc k) h e = none_kept xs k (none_both (monitor_offence p x) (first_in (monitor_offence p) xs) h).1 e

  on_state : (j : ℕ) (m : Monitor) → slice_get n.monitors j ≡ Some m → on (monitor_window m)
  on_state j m in_it =
      let kept = none_after (λ before m. unless (is_monitor p n before m) (two n.name m.subject)) [] n.monitors j m monitors_kept in_it in
      inr (watched j m kept.0 in_it (unless_none (is_monitor p n kept.0 m) (two n.name m.subject) kept.1))

  component_each : (o : Option Component) → component_by p n.component ≡ o → AllByRecursion on (component_windows p n o)
  component_each None used = tt
  component_each (Some c) used =
      let brought : Provided → Window Thing = λ x. window x.virtual_address x.size x.rights (provided n.name x.logical) in
      let a = map brought c.provides in
      let b = filter_map (required_window p n) c.memory in
      each_append on (a ++ b) (filter_map (component_channel_window p n) c.channels)
      (each_append on a b
      (each_image on brought c.provides
      (λ j x in_it. on_item (provided_item n.name x) x.virtual_address x.rights (provided_there p s j n x at (ap (λ (o : Option Component). slice_get (option_map_or (λ c. c.provides) o []) j) used ∙ in_it))))
      (each_some on (required_window p n) (λ x. chained on _ (λ (e : MapEntry). on_region e.physical x.virtual_address (unwrap_or e.rights x.rights)) (entry_of n.component x.logical)) c.memory))
      (each_some on (component_channel_window p n) (λ x. chained on _ (λ (e : MapEntry). on_channel e.physical x.virtual_address x.role) (entry_of n.component x.logical)) c.channels)

  -- each window of a subject is on a thing or on such a state page
  pub each_window : AllByRecursion on (windows_of p n)
  unfolding windows_of
  each_window =
      let a = filter_map (λ m. region_window p m.region m.virtual_address m.rights) n.memory in
      let b = filter_map (λ c. channel_window p c.channel c.virtual_address c.role) n.channels in
      let c = flat_map (λ d. filter_map (device_window p d.device) d.memory) n.devices in
      let d = component_windows p n (component_by p n.component) in
      each_append on (a ++ b ++ c ++ d) (map monitor_window n.monitors)
      (each_append on (a ++ b ++ c) d
      (each_append on (a ++ b) c
      (each_append on a b
      (each_some on (λ (m : Mapping). region_window p m.region m.virtual_address m.rights) (λ m. on_region m.region m.virtual_address m.rights) n.memory)
      (each_some on (λ (c : ChannelUse). channel_window p c.channel c.virtual_address c.role) (λ c. on_channel c.channel c.virtual_address c.role) n.channels))
      (each_flat on (λ (d : DeviceUse). filter_map (device_window p d.device) d.memory) (λ d. each_some on (device_window p d.device) (on_device d.device) d.memory) n.devices))
      (component_each (component_by p n.component) refl))
      (each_image on monitor_window n.monitors on_state)

  -- each begins where a page does
  pub windows_aligned : list_all (λ w. w.guest % 4096 == 0) (windows_of p n) ≡ true
  unfolding window_extents
  windows_aligned =
      let all = passes_at (λ s. list_all (λ e. is_guest e.address e.size) (window_extents p s)) p.subjects s n (addresses_kept p (rules_of lawful).rule_4).windows at in
      each_from (λ (w : Window Thing). is_guest w.guest w.size) (λ w. w.guest % 4096 == 0)
      (λ w h. (and_parts (is_page_aligned w.guest) (is_page_size w.size) (and_parts (is_page_aligned w.guest && is_page_size w.size) (nat_le (w.guest + w.size) GUEST_END) h).0).0)
      (windows_of p n)
      (sym (list_all-map (λ e. is_guest e.address e.size) window_extent (windows_of p n)) ∙ all)
