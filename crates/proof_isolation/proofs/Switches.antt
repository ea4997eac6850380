-- A handover goes to another member of the same group.
use Rattle.std.proofs.Common.{◌≡◌, ℕ, true, false, List, map, filter, not, Option, Some, None, refl, sym, ap, subst, ◌∙◌}
use Rattle.std.specs.Prelude.{option_and_then, option_map, slice_get}
use Rattle.std.specs.List.{find, list_all}
use Rattle.std.specs.Option.{option_or}
use Rattle.std.specs.Str.{bytes_eq}
use Rattle.std.proofs.lemmas.Slice.Eq.{bytes_eq-Decides}
use Rattle.muen_num.proofs.Members.{In, at_in, filter_in, filter_some, find_in, flat_in, flat_some, map_in, map_some, passes_in}
use Rattle.muen_num.proofs.SearchLaws.{all_pass, none_both}
use Rattle.muen_num.specs.Search.{first_in}
use Rattle.muen_num.specs.declared.mode.EventMode.{EventMode}
use Rattle.policy_lawful.specs.Lawful.{IsLawful}
use Rattle.policy_lawful.specs.MoreRules.{channel_mode_offence, ends_of_channel, fits_mode, is_writer, mode_offence, offence_13, readers_of, sources_of, targets_of, writers_of}
use Rattle.policy_lawful.specs.Offences.{two}
use Rattle.policy_lawful.specs.Events.{ChannelEnd, Raised, Target, channel_ends, channel_event, channel_targets, event_of, event_targets, named_event, reads_from, same_way, writes_by}
use Rattle.policy_lawful.proofs.KeptRules.{rules_of}
use Rattle.policy_lawful.specs.rights.Role.{Role}
use Rattle.policy_lawful.specs.rights.Role.TheVariants.{Reader, Writer}
use Rattle.policy_lawful.specs.source.Channel.{Channel}
use Rattle.policy_lawful.specs.source.Event.{Event}
use Rattle.policy_lawful.specs.source.EventSource.{EventSource}
use Rattle.policy_lawful.specs.source.EventTarget.{EventTarget}
use Rattle.policy_lawful.specs.source.Source.{Source}
use Rattle.policy_lawful.specs.source.SourceWay.{SourceWay}
use Rattle.policy_lawful.specs.source.Subject.{Subject}
use Rattle.policy_flows.proofs.EventWaysFlow.{writes_is_writer}
use Rattle.policy_flows.proofs.EventWays.{by_channel_end, by_source, event_is}
use Rattle.proof_isolation.proofs.Conflicts.{none_in}

-- ---- rule 13

event_modes : (p : Source) → offence_13 p ≡ None → first_in (λ e. mode_offence p e.mode e.name (sources_of p e.name) (targets_of p e.name)) p.events ≡ None
unfolding offence_13
event_modes p h = (none_both (first_in (λ c. channel_mode_offence p c c.has_event) p.channels) _ h).1

channel_modes : (p : Source) → offence_13 p ≡ None → first_in (λ c. channel_mode_offence p c c.has_event) p.channels ≡ None
unfolding offence_13
channel_modes p h = (none_both (first_in (λ c. channel_mode_offence p c c.has_event) p.channels) _ h).0

-- a source and a target of it fit its mode
fits : (p : Source) (mode : EventMode) (name : List ℕ) (sources targets : List (List ℕ)) (a b : List ℕ) → mode_offence p mode name sources targets ≡ None → In a sources → In b targets → fits_mode p mode a b ≡ true
fits p mode name sources targets a b none in_a in_b =
    passes_in (fits_mode p mode a) targets (passes_in (λ s. list_all (fits_mode p mode s) targets) sources (all_pass (λ s. list_all (fits_mode p mode s) targets) (λ s. two name s) sources none) a in_a) b in_b

module _ (p : Source) (lawful : IsLawful p) (u : Subject) (in_u : In u p.subjects) where
  -- ---- an event

  by_named : (source : EventSource) → In source u.sources → (e : Raised) → named_event p source.event ≡ Some e → fits_mode p e.mode u.name e.target.subject ≡ true
  by_named source its e h = by_event (find (λ e. bytes_eq e.name source.event) p.events) refl h
    where
      by_target : (ev : Event) → In ev p.events → ev.name ≡ source.event → (o : Option Target) → slice_get (event_targets p source.event) 0 ≡ o → option_map (λ t. record { mode = ev.mode; target = t }) o ≡ Some e → fits_mode p e.mode u.name e.target.subject ≡ true
      by_target ev declared called None at k = absurd (cc (k))
      by_target ev declared called (Some t) at k =
          let same : record { mode = ev.mode; target = t } ≡ e = cc (k) in
          let to = flat_some (λ q. map (λ x. record { subject = q.name; vector = x.vector }) (filter (λ x. bytes_eq x.event source.event) q.targets)) p.subjects t (at_in (event_targets p source.event) 0 t at) in
          let entry = map_some (λ x. record { subject = to.one.name; vector = x.vector }) (filter (λ x. bytes_eq x.event source.event) to.one.targets) t to.part in
          let target : In to.one.name (targets_of p source.event) =
          flat_in (λ s. map (λ e. s.name) (filter (λ e. bytes_eq e.event source.event) s.targets)) p.subjects to.one to.one.name to.within (map_in (λ (e : EventTarget). to.one.name) (filter (λ e. bytes_eq e.event source.event) to.one.targets) entry.one entry.within) in
          let mine : In u.name (sources_of p source.event) =
          flat_in (λ s. map (λ e. s.name) (filter (λ e. bytes_eq e.event source.event) s.sources)) p.subjects u u.name in_u
          (map_in (λ (e : EventSource). u.name) (filter (λ e. bytes_eq e.event source.event) u.sources) source (filter_in (λ e. bytes_eq e.event source.event) u.sources source its ((bytes_eq-Decides source.event source.event).1 refl))) in
          let none : mode_offence p ev.mode ev.name (sources_of p source.event) (targets_of p source.event) ≡ None =
          subst (λ n. mode_offence p ev.mode ev.name (sources_of p n) (targets_of p n) ≡ None) called (none_in (λ e. mode_offence p e.mode e.name (sources_of p e.name) (targets_of p e.name)) p.events (event_modes p (rules_of lawful).rule_13) ev declared) in
          let fit = fits p ev.mode ev.name (sources_of p source.event) (targets_of p source.event) u.name to.one.name none mine target in
          subst (λ r. fits_mode p r.mode u.name r.target.subject ≡ true) same (subst (λ n. fits_mode p ev.mode u.name n ≡ true) (ap (λ t. t.subject) entry.image) fit)

      by_event : (o : Option Event) → find (λ e. bytes_eq e.name source.event) p.events ≡ o → option_and_then (λ e. option_map (λ t. record { mode = e.mode; target = t }) (slice_get (event_targets p source.event) 0)) o ≡ Some e → fits_mode p e.mode u.name e.target.subject ≡ true
      by_event None is k = absurd (cc (k))
      by_event (Some ev) is k =
          let at = find_in (λ e. bytes_eq e.name source.event) p.events ev is in
          by_target ev at.0 ((bytes_eq-Decides ev.name source.event).0 at.1) (slice_get (event_targets p source.event) 0) refl k

  -- ---- a channel's event

  reads_only : (f : ChannelEnd) (role : Role) (name : List ℕ) → reads_from f role name ≡ true → (f.channel ≡ name) × (is_writer role ≡ false)
  reads_only f Reader name h = ((bytes_eq-Decides f.channel name).0 h, refl)
  reads_only f Writer name h = absurd (cc (h))

  by_channel : (channel_end : ChannelEnd) → In channel_end (channel_ends p u) → is_writer channel_end.role ≡ true → (e : Raised) → channel_event p channel_end.channel ≡ Some e → fits_mode p e.mode u.name e.target.subject ≡ true
  by_channel channel_end its writes e h = by_found (find (λ c. bytes_eq c.name channel_end.channel) p.channels) refl h
    where
      by_target : (c : Channel) → In c p.channels → c.name ≡ channel_end.channel → (m : EventMode) → c.has_event ≡ Some m → (o : Option Target) → slice_get (channel_targets p channel_end.channel) 0 ≡ o → option_map (λ t. record { mode = m; target = t }) o ≡ Some e → fits_mode p e.mode u.name e.target.subject ≡ true
      by_target c declared called m has None at k = absurd (cc (k))
      by_target c declared called m has (Some t) at k =
          let same : record { mode = m; target = t } ≡ e = cc (k) in
          let to = flat_some (λ q. map (λ x. record { subject = q.name; vector = x.vector }) (filter (λ x. reads_from x x.role channel_end.channel) (channel_ends p q))) p.subjects t (at_in (channel_targets p channel_end.channel) 0 t at) in
          let entry = map_some (λ x. record { subject = to.one.name; vector = x.vector }) (filter (λ x. reads_from x x.role channel_end.channel) (channel_ends p to.one)) t to.part in
          let kept = filter_some (λ x. reads_from x x.role channel_end.channel) (channel_ends p to.one) entry.one entry.within in
          let reads = reads_only entry.one entry.one.role channel_end.channel kept.1 in
          let target_channel_end : In (to.one.name, entry.one) (ends_of_channel p channel_end.channel) =
          flat_in (λ s. map (λ e. (s.name, e)) (filter (λ e. bytes_eq e.channel channel_end.channel) (channel_ends p s))) p.subjects to.one (to.one.name, entry.one) to.within
          (map_in (λ e. (to.one.name, e)) (filter (λ e. bytes_eq e.channel channel_end.channel) (channel_ends p to.one)) entry.one (filter_in (λ e. bytes_eq e.channel channel_end.channel) (channel_ends p to.one) entry.one kept.0 ((bytes_eq-Decides entry.one.channel channel_end.channel).1 reads.0))) in
          let target : In to.one.name (map (λ e. e.0) (readers_of p channel_end.channel)) =
          map_in (λ (e : List ℕ × ChannelEnd). e.0) (readers_of p channel_end.channel) (to.one.name, entry.one) (filter_in (λ e. not (is_writer e.1.role)) (ends_of_channel p channel_end.channel) (to.one.name, entry.one) target_channel_end (ap not reads.1)) in
          let own_channel_end : In (u.name, channel_end) (ends_of_channel p channel_end.channel) =
          flat_in (λ s. map (λ e. (s.name, e)) (filter (λ e. bytes_eq e.channel channel_end.channel) (channel_ends p s))) p.subjects u (u.name, channel_end) in_u
          (map_in (λ e. (u.name, e)) (filter (λ e. bytes_eq e.channel channel_end.channel) (channel_ends p u)) channel_end (filter_in (λ e. bytes_eq e.channel channel_end.channel) (channel_ends p u) channel_end its ((bytes_eq-Decides channel_end.channel channel_end.channel).1 refl))) in
          let mine : In u.name (map (λ e. e.0) (writers_of p channel_end.channel)) =
          map_in (λ (e : List ℕ × ChannelEnd). e.0) (writers_of p channel_end.channel) (u.name, channel_end) (filter_in (λ e. is_writer e.1.role) (ends_of_channel p channel_end.channel) (u.name, channel_end) own_channel_end writes) in
          let own : channel_mode_offence p c c.has_event ≡ None = none_in (λ c. channel_mode_offence p c c.has_event) p.channels (channel_modes p (rules_of lawful).rule_13) c declared in
          let none : mode_offence p m c.name (map (λ e. e.0) (writers_of p channel_end.channel)) (map (λ e. e.0) (readers_of p channel_end.channel)) ≡ None =
          subst (λ n. mode_offence p m c.name (map (λ e. e.0) (writers_of p n)) (map (λ e. e.0) (readers_of p n)) ≡ None) called (subst (λ o. channel_mode_offence p c o ≡ None) has own) in
          let fit = fits p m c.name (map (λ e. e.0) (writers_of p channel_end.channel)) (map (λ e. e.0) (readers_of p channel_end.channel)) u.name to.one.name none mine target in
          subst (λ r. fits_mode p r.mode u.name r.target.subject ≡ true) same (subst (λ n. fits_mode p m u.name n ≡ true) (ap (λ t. t.subject) entry.image) fit)

      by_mode : (c : Channel) → In c p.channels → c.name ≡ channel_end.channel → (o : Option EventMode) → c.has_event ≡ o → option_and_then (λ m. option_map (λ t. record { mode = m; target = t }) (slice_get (channel_targets p channel_end.channel) 0)) o ≡ Some e → fits_mode p e.mode u.name e.target.subject ≡ true
      by_mode c declared called None has k = absurd (cc (k))
      by_mode c declared called (Some m) has k = by_target c declared called m has (slice_get (channel_targets p channel_end.channel) 0) refl k

      by_found : (o : Option Channel) → find (λ c. bytes_eq c.name channel_end.channel) p.channels ≡ o
          → option_and_then (λ c. option_and_then (λ m. option_map (λ t. record { mode = m; target = t }) (slice_get (channel_targets p channel_end.channel) 0)) c.has_event) o ≡ Some e → fits_mode p e.mode u.name e.target.subject ≡ true
      by_found None is k = absurd (cc (k))
      by_found (Some c) is k =
          let at = find_in (λ c. bytes_eq c.name channel_end.channel) p.channels c is in
          by_mode c at.0 ((bytes_eq-Decides c.name channel_end.channel).0 at.1) c.has_event refl k

  -- ---- what a subject raises fits its mode

  of_source : (way : SourceWay) (e : Raised) (o : Option EventSource) → find (λ e. same_way e.way way) u.sources ≡ o → option_and_then (λ e. named_event p e.event) o ≡ Some e → fits_mode p e.mode u.name e.target.subject ≡ true
  of_source way e None is k = absurd (cc (k))
  of_source way e (Some source) is k = by_named source (find_in (λ e. same_way e.way way) u.sources source is).0 e k

  of_channel_end : (way : SourceWay) (e : Raised) (o : Option ChannelEnd) → find (λ e. writes_by e e.role way) (channel_ends p u) ≡ o → option_and_then (λ e. channel_event p e.channel) o ≡ Some e → fits_mode p e.mode u.name e.target.subject ≡ true
  of_channel_end way e None is k = absurd (cc (k))
  of_channel_end way e (Some channel_end) is k =
      let at = find_in (λ e. writes_by e e.role way) (channel_ends p u) channel_end is in
      by_channel channel_end at.0 (writes_is_writer channel_end channel_end.role way at.1) e k

  of_either : (way : SourceWay) (e : Raised) (a b : Option Raised) → by_source p u way ≡ a → by_channel_end p u way ≡ b → option_or a b ≡ Some e → fits_mode p e.mode u.name e.target.subject ≡ true
  of_either way e (Some x) b is other k = of_source way e (find (λ e. same_way e.way way) u.sources) refl (is ∙ k)
  of_either way e None b is other k = of_channel_end way e (find (λ e. writes_by e e.role way) (channel_ends p u)) refl (other ∙ k)

  pub raised_fits : (way : SourceWay) (e : Raised) → event_of p u way ≡ Some e → fits_mode p e.mode u.name e.target.subject ≡ true
  raised_fits way e h = of_either way e (by_source p u way) (by_channel_end p u way) refl refl (sym (event_is p u way) ∙ h)
