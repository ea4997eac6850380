-- What one subject may write another one doesn't see, where nothing flows from the one to the other.
use Rattle.std.proofs.Common.{◌≡◌, ℕ, ◌≤◌, Bool, true, false, List, [], ◌∷◌, map, filter, length, not, Option, None, refl, sym, ap, subst, ◌∙◌, ◌⊎◌, inl, inr, arith, true≢false}
use Rattle.std.specs.Prelude.{◌==◌, ◌&&◌, ◌||◌, nat_le}
use Rattle.std.specs.List.{count_by, list_all, list_any, sum_by}
use Rattle.std.specs.Str.{bytes_eq}
use Rattle.std.proofs.lemmas.Bool.{and_from, and_parts, eqb-true, leb-true}
use Rattle.std.proofs.lemmas.Slice.Eq.{bytes_eq-Decides}
use Rattle.muen_num.proofs.Members.{In, any_in, filter_in, flat_in, map_in, passes_in}
use Rattle.muen_num.proofs.SearchLaws.{all_pass, none_both, unless_none}
use Rattle.muen_num.specs.Search.{first_in}
use Rattle.muen_num.specs.declared.access.AccessKind.TheVariants.{Write}
use Rattle.policy_lawful.specs.Lawful.{IsLawful}
use Rattle.policy_lawful.specs.MoreRules.{device_offence, ends_of_channel, fits_event, granted_once, is_connected, is_writer as writes_it, offence_6, offence_9, readers_of, times_granted, writers_of}
use Rattle.policy_lawful.specs.Offences.{alone, two}
use Rattle.policy_lawful.specs.Events.{ChannelEnd, channel_ends, reads_from}
use Rattle.policy_lawful.specs.Thing.{Thing, channel, device_memory, provided, region, same_thing, state}
use Rattle.policy_lawful.specs.Windows.{Window, role_rights, windows_of}
use Rattle.policy_lawful.proofs.KeptRules.{rules_of}
use Rattle.policy_lawful.specs.Rights.{allows}
use Rattle.policy_lawful.specs.rights.Rights.{Rights}
use Rattle.policy_lawful.specs.rights.Role.{Role}
use Rattle.policy_lawful.specs.rights.Role.TheVariants.{Reader, Writer}
use Rattle.policy_lawful.specs.source.Channel.{Channel}
use Rattle.policy_lawful.specs.source.Device.{Device}
use Rattle.policy_lawful.specs.source.DeviceMemory.{DeviceMemory}
use Rattle.policy_lawful.specs.source.Source.{Source}
use Rattle.policy_lawful.specs.source.Subject.{Subject}
use Rattle.policy_flows.specs.Flows.{by_change, by_channel, by_event, by_memory, by_plan, by_sight, flows_to, is_region}
use Rattle.policy_lawful.proofs.SameThings.{same_thing_self}
use Rattle.proof_isolation.proofs.Counts.{one_counted, passing_counted, single, two_counted}
use Rattle.proof_isolation.proofs.Windows.{IsOn, OnChannel, OnDevice, window_is}

-- ---- the kinds of flows

module _ (p : Source) (u s : Subject) where
  any_of : (a b c d e f : Bool) → (a || b || c || d || e || f) ≡ flows_to p u s → (a ≡ true) ⊎ (b ≡ true) ⊎ (c ≡ true) ⊎ (d ≡ true) ⊎ (e ≡ true) ⊎ (f ≡ true) → flows_to p u s ≡ true
  any_of true b c d e f is h = sym is
  any_of false true c d e f is h = sym is
  any_of false false true d e f is h = sym is
  any_of false false false true e f is h = sym is
  any_of false false false false true f is h = sym is
  any_of false false false false false true is h = sym is
  any_of false false false false false false is (inl k) = absurd (cc (k))
  any_of false false false false false false is (inr (inl k)) = absurd (cc (k))
  any_of false false false false false false is (inr (inr (inl k))) = absurd (cc (k))
  any_of false false false false false false is (inr (inr (inr (inl k)))) = absurd (cc (k))
  any_of false false false false false false is (inr (inr (inr (inr (inl k))))) = absurd (cc (k))
  any_of false false false false false false is (inr (inr (inr (inr (inr k))))) = absurd (cc (k))

  all_kinds : (by_channel p u s || by_memory p u s || by_event p u s || by_plan p u || by_sight u s || by_change u s) ≡ flows_to p u s
  unfolding flows_to
  all_kinds = refl

  pub flows_by : (by_channel p u s ≡ true) ⊎ (by_memory p u s ≡ true) ⊎ (by_event p u s ≡ true) ⊎ (by_plan p u ≡ true) ⊎ (by_sight u s ≡ true) ⊎ (by_change u s ≡ true) → flows_to p u s ≡ true
  flows_by h = any_of (by_channel p u s) (by_memory p u s) (by_event p u s) (by_plan p u) (by_sight u s) (by_change u s) all_kinds h

-- ---- rule 6: a channel has one writer

connected_all : (p : Source) → offence_6 p ≡ None → list_all (is_connected p) p.channels ≡ true
unfolding offence_6
connected_all p h = all_pass (is_connected p) (λ c. alone c.name) p.channels h

writers_once : (p : Source) → IsLawful p → (c : Channel) → In c p.channels → length (writers_of p c.name) ≡ 1
writers_once p lawful c declared =
    let all = passes_in (is_connected p) p.channels (connected_all p (rules_of lawful).rule_6) c declared in
    let apart = list_all (λ w. list_all (λ r. not (bytes_eq r.0 w.0)) (readers_of p c.name)) (writers_of p c.name) in
    let first = and_parts ((length (writers_of p c.name) == 1) && nat_le 1 (length (readers_of p c.name)) && apart) (fits_event (writers_of p c.name) (readers_of p c.name) c.has_event) all in
    let second = and_parts ((length (writers_of p c.name) == 1) && nat_le 1 (length (readers_of p c.name))) apart first.0 in
    eqb-true (length (writers_of p c.name)) 1 (and_parts (length (writers_of p c.name) == 1) (nat_le 1 (length (readers_of p c.name))) second.0).0

-- an end at which a channel is written is that of a writer
writer_in : (p : Source) (u : Subject) → In u p.subjects → (name : List ℕ) (e : ChannelEnd) → In e (channel_ends p u) → e.channel ≡ name → e.role ≡ Writer → In (u.name, e) (writers_of p name)
writer_in p u in_u name e its of by =
    let here : bytes_eq e.channel name ≡ true = (bytes_eq-Decides e.channel name).1 of in
    filter_in (λ e. writes_it e.1.role) (ends_of_channel p name) (u.name, e)
    (flat_in (λ s. map (λ e. (s.name, e)) (filter (λ e. bytes_eq e.channel name) (channel_ends p s))) p.subjects u (u.name, e) in_u
    (map_in (λ e. (u.name, e)) (filter (λ e. bytes_eq e.channel name) (channel_ends p u)) e (filter_in (λ e. bytes_eq e.channel name) (channel_ends p u) e its here)))
    (ap writes_it by)

readers_not : allows (role_rights Reader) Write ≡ false
readers_not = refl

-- who may write a channel is at its end as a writer
writes_as : (role : Role) (rights : Rights) → role_rights role ≡ rights → allows rights Write ≡ true → role ≡ Writer
writes_as Writer rights by h = refl
writes_as Reader rights by h = absurd (true≢false (sym (subst (λ r. allows r Write ≡ true) (sym by) h) ∙ readers_not))

-- ---- rule 9: a device's memory is granted once

pub none_in : {X O : Type 0} (at : X → Option O) (xs : List X) → first_in at xs ≡ None → (x : X) → In x xs → at x ≡ None
none_in at [] none x h = absurd h
none_in at (y ∷ ys) none x (inl same) = subst (λ z. at z ≡ None) same (none_both (at y) (first_in at ys) none).0
none_in at (y ∷ ys) none x (inr h) = none_in at ys (none_both (at y) (first_in at ys) none).1 x h

device_rule : (p : Source) → offence_9 p ≡ None → first_in (device_offence p) p.devices ≡ None
unfolding offence_9
device_rule p h = h

times_by : Source → List ℕ → List ℕ → Subject → ℕ
times_by p device memory s = sum_by (λ d. count_by (λ n. bytes_eq n memory) (map (λ m. m.memory) d.memory)) (filter (λ d. bytes_eq d.device device) s.devices)

granted_few : (p : Source) → IsLawful p → (d : Device) → In d p.devices → (x : DeviceMemory) → In x d.memory → sum_by (times_by p d.name x.name) p.subjects ≤ 1
unfolding times_by
granted_few p lawful d declared x has =
    let own = none_in (device_offence p) p.devices (device_rule p (rules_of lawful).rule_9) d declared in
    let memory = none_both (first_in (λ x. granted_once p d (λ u. map (λ m. m.memory) u.memory) x.name) d.memory) _ own in
    let one = none_in (λ (x : DeviceMemory). granted_once p d (λ u. map (λ m. m.memory) u.memory) x.name) d.memory memory.0 x has in
    leb-true (times_granted p d.name (λ u. map (λ m. m.memory) u.memory) x.name) 1 (unless_none (nat_le (times_granted p d.name (λ u. map (λ m. m.memory) u.memory) x.name) 1) (two d.name x.name) one)

granted_some : (p : Source) (u : Subject) (device memory : List ℕ) → OnDevice p u device memory → 1 ≤ times_by p device memory u
unfolding times_by
granted_some p u device memory on =
    let its = filter_in (λ d. bytes_eq d.device device) u.devices on.grant on.its ((bytes_eq-Decides on.grant.device device).1 on.of) in
    let named = map_in (λ m. m.memory) on.grant.memory on.mapping on.maps in
    one_counted (λ d. count_by (λ n. bytes_eq n memory) (map (λ m. m.memory) d.memory)) (filter (λ d. bytes_eq d.device device) u.devices) on.grant its
    (passing_counted (λ n. bytes_eq n memory) (map (λ m. m.memory) on.grant.memory) on.mapping.memory named ((bytes_eq-Decides on.mapping.memory memory).1 on.shows))

-- ---- what both have a window on

-- the state page of one whom the first may write, and whom the second sees
pub record BothPages (u s : Subject) (x : Thing) : Type 0 where
  pub name : List ℕ
  pub is : x ≡ state name
  pub changed : list_any (λ m. bytes_eq m.subject name && allows m.rights Write) u.monitors ≡ true
  pub seen : list_any (λ m. bytes_eq m.subject name) s.monitors ≡ true

module _ (p : Source) (lawful : IsLawful p) (u s : Subject) (in_u : In u p.subjects) (in_s : In s p.subjects) (other : u.name ≡ s.name → ⊥) where
  by_role : (name : List ℕ) (rights : Rights) (lower : Rights) (a : OnChannel p u name rights) (b : OnChannel p s name lower) → a.channel_end.role ≡ Writer → (role : Role) → b.channel_end.role ≡ role → flows_to p u s ≡ true
  by_role name rights lower a b writes Writer is =
      let mine = writer_in p u in_u a.channel.name a.channel_end a.its (a.of ∙ sym a.called) writes in
      let its = writer_in p s in_s a.channel.name b.channel_end b.its (b.of ∙ sym a.called) is in
      absurd (other (ap (λ e. e.0) (single (writers_of p a.channel.name) (u.name, a.channel_end) (s.name, b.channel_end) (writers_once p lawful a.channel a.declared) mine its)))
  by_role name rights lower a b writes Reader is =
      let reads : reads_from b.channel_end b.channel_end.role a.channel_end.channel ≡ true = ap (λ role. reads_from b.channel_end role a.channel_end.channel) is ∙ (bytes_eq-Decides b.channel_end.channel a.channel_end.channel).1 (b.of ∙ sym a.of) in
      flows_by p u s (inl (any_in (λ e. writes_it e.role && list_any (λ f. reads_from f f.role e.channel) (channel_ends p s)) (channel_ends p u) a.channel_end a.its
      (and_from (writes_it a.channel_end.role) (list_any (λ f. reads_from f f.role a.channel_end.channel) (channel_ends p s)) (ap writes_it writes) (any_in (λ f. reads_from f f.role a.channel_end.channel) (channel_ends p s) b.channel_end b.its reads))))

  by_device : (device memory : List ℕ) → OnDevice p u device memory → OnDevice p s device memory → flows_to p u s ≡ true
  by_device device memory a b =
      let few = granted_few p lawful a.which a.declared a.part a.has in
      let mine : 1 ≤ times_by p a.which.name a.part.name u = subst (λ n. 1 ≤ times_by p n a.part.name u) (sym a.called) (subst (λ n. 1 ≤ times_by p device n u) (sym a.named) (granted_some p u device memory a)) in
      let its : 1 ≤ times_by p a.which.name a.part.name s = subst (λ n. 1 ≤ times_by p n a.part.name s) (sym a.called) (subst (λ n. 1 ≤ times_by p device n s) (sym a.named) (granted_some p s device memory b)) in
      let both = two_counted (times_by p a.which.name a.part.name) p.subjects u s (λ e. other (ap (λ q. q.name) e)) in_u in_s mine its in
      absurd (omega (arith, few, both))

  by_kind : (w v : Window Thing) → In w (windows_of p u) → In v (windows_of p s) → allows w.rights Write ≡ true → w.thing ≡ v.thing → (x : Thing) → w.thing ≡ x → IsOn p u w.rights x → IsOn p s v.rights x → (flows_to p u s ≡ true) ⊎ BothPages u s x
  by_kind w v in_w in_v writes same (region name) is on seen =
      let their = any_in (λ v. same_thing w.thing v.thing) (windows_of p s) v in_v (ap (same_thing w.thing) (sym same) ∙ same_thing_self w.thing) in
      let it : (allows w.rights Write && is_region w.thing && list_any (λ v. same_thing w.thing v.thing) (windows_of p s)) ≡ true =
      and_from (allows w.rights Write && is_region w.thing) (list_any (λ v. same_thing w.thing v.thing) (windows_of p s)) (and_from (allows w.rights Write) (is_region w.thing) writes (ap is_region is)) their in
      inl (flows_by p u s (inr (inl (any_in (λ w. allows w.rights Write && is_region w.thing && list_any (λ v. same_thing w.thing v.thing) (windows_of p s)) (windows_of p u) w in_w it))))
  by_kind w v in_w in_v writes same (channel name) is on seen =
      inl (by_role name w.rights v.rights on seen (writes_as on.channel_end.role w.rights on.by writes) seen.channel_end.role refl)
  by_kind w v in_w in_v writes same (provided subject logical) is on seen = absurd (other (sym on ∙ seen))
  by_kind w v in_w in_v writes same (device_memory device memory) is on seen = inl (by_device device memory on seen)
  by_kind w v in_w in_v writes same (state name) is on seen =
      inr (record {
        name = name;
        is = refl;
        changed = any_in (λ m. bytes_eq m.subject name && allows m.rights Write) u.monitors on.monitor on.its
            (and_from (bytes_eq on.monitor.subject name) (allows on.monitor.rights Write) ((bytes_eq-Decides on.monitor.subject name).1 on.of) (ap (λ r. allows r Write) on.by ∙ writes));
        seen = any_in (λ m. bytes_eq m.subject name) s.monitors seen.monitor seen.its ((bytes_eq-Decides seen.monitor.subject name).1 seen.of);
      })

  -- the one writes it, and the other sees it: either it flows, or it is the state page of one whom both monitor
  pub met : (w v : Window Thing) → In w (windows_of p u) → In v (windows_of p s) → allows w.rights Write ≡ true → w.thing ≡ v.thing → (flows_to p u s ≡ true) ⊎ BothPages u s w.thing
  met w v in_w in_v writes same =
      by_kind w v in_w in_v writes same w.thing refl (window_is p u w in_w) (subst (IsOn p s v.rights) (sym same) (window_is p s v in_v))
