-- An event of a channel flows as the channel does, so that of the ways of raising events the sources are left.
use Rattle.std.proofs.Common.{◌≡◌, ℕ, Bool, true, List, map, filter, Option, Some, None, refl, sym, ap, subst, ◌∙◌, ◌⊎◌, inl, inr}
use Rattle.std.specs.Prelude.{◌&&◌, option_and_then, option_map, slice_get}
use Rattle.std.specs.List.{find, list_any}
use Rattle.std.specs.Str.{bytes_eq}
use Rattle.std.proofs.lemmas.Bool.{and_from}
use Rattle.std.proofs.lemmas.Slice.Eq.{bytes_eq-Decides}
use Rattle.muen_num.specs.declared.mode.EventMode.{EventMode}
use Rattle.policy_lawful.specs.Events.{ChannelEnd, Target, channel_ends, channel_event, channel_targets, event_of, reads_from, writes_by}
use Rattle.policy_lawful.specs.rights.Role.{Role}
use Rattle.policy_lawful.specs.rights.Role.TheVariants.{Writer, Reader}
use Rattle.policy_lawful.specs.source.Channel.{Channel}
use Rattle.policy_lawful.specs.source.Source.{Source}
use Rattle.policy_lawful.specs.source.SourceWay.{SourceWay}
use Rattle.policy_lawful.specs.source.Subject.{Subject}
use Rattle.policy_flows.specs.Flows.{by_channel, by_event, reaches, ways_of}
use Rattle.policy_lawful.specs.MoreRules.{is_writer}
use Rattle.policy_flows.proofs.EventWays.{by_either, by_source, channel_end_of_way, from_source, source_of_way, way_counts}
use Rattle.muen_num.proofs.Members.{In, any_in, any_some, at_in, filter_some, flat_some, map_some}
use Rattle.policy_flows.proofs.UniqueSubjects.{HasUniqueNames}

-- u raises by one of its sources an event whose target is s
abbrev pub by_sources : Source → Subject → Subject → Bool
by_sources p u s = list_any (λ e. reaches (by_source p u e.way) s.name) u.sources

pub sources_count : (p : Source) (u s : Subject) → by_sources p u s ≡ true → by_event p u s ≡ true
sources_count p u s h =
    let e = any_some (λ e. reaches (by_source p u e.way) s.name) u.sources h in
    way_counts p u s e.one.way (from_source p u e.one.way s.name e.passes)

-- ---- whom a channel's event reaches

-- the target of what reaches the subject of this name
record Hit (o : Option Target) (name : List ℕ) : Type 0 where
  target : Target
  is : o ≡ Some target
  named : bytes_eq target.subject name ≡ true

hit_by_mode : (h : Option EventMode) (o : Option Target) (name : List ℕ) → reaches (option_and_then (λ m. option_map (λ t. record { mode = m; target = t }) o) h) name ≡ true → Hit o name
hit_by_mode None o name h = absurd (cc)
hit_by_mode (Some m) None name h = absurd (cc)
hit_by_mode (Some m) (Some t) name h = record { target = t; is = refl; named = h }

hit_by_channel : (c : Option Channel) (o : Option Target) (name : List ℕ) → reaches (option_and_then (λ c. option_and_then (λ m. option_map (λ t. record { mode = m; target = t }) o) c.has_event) c) name ≡ true → Hit o name
hit_by_channel None o name h = absurd (cc)
hit_by_channel (Some c) o name h = hit_by_mode c.has_event o name h

pub writes_is_writer : (e : ChannelEnd) (role : Role) (way : SourceWay) → writes_by e role way ≡ true → is_writer role ≡ true
writes_is_writer e Writer way h = refl
writes_is_writer e Reader way h = absurd (cc)

-- one of the ends of the subject reads the channel
reader_of : (p : Source) (unique : HasUniqueNames p) (s : Subject) → In s p.subjects → (name : List ℕ) → reaches (channel_event p name) s.name ≡ true
    → list_any (λ f. reads_from f f.role name) (channel_ends p s) ≡ true
reader_of p unique s i name h =
    let hit = hit_by_channel (find (λ c. bytes_eq c.name name) p.channels) (slice_get (channel_targets p name) 0) s.name h in
    let to : Subject → ChannelEnd → Target = λ t e. record { subject = t.name; vector = e.vector } in
    let part = flat_some (λ (t : Subject). map (to t) (filter (λ e. reads_from e e.role name) (channel_ends p t))) p.subjects hit.target (at_in (channel_targets p name) 0 hit.target hit.is) in
    let source = map_some (to part.one) (filter (λ e. reads_from e e.role name) (channel_ends p part.one)) hit.target part.part in
    let kept = filter_some (λ (e : ChannelEnd). reads_from e e.role name) (channel_ends p part.one) source.one source.within in
    let named : part.one.name ≡ s.name = ap (λ (t : Target). t.subject) source.image ∙ (bytes_eq-Decides hit.target.subject s.name).0 hit.named in
    let same : part.one ≡ s = unique.same part.one s part.within i named in
    subst (λ t. list_any (λ f. reads_from f f.role name) (channel_ends p t) ≡ true) same (any_in (λ (f : ChannelEnd). reads_from f f.role name) (channel_ends p part.one) source.one kept.0 kept.1)

-- what an event flows to is what a channel or a source flows to
pub event_parts : (p : Source) (unique : HasUniqueNames p) (u s : Subject) → In s p.subjects → by_event p u s ≡ true → (by_channel p u s ≡ true) ⊎ (by_sources p u s ≡ true)
event_parts p unique u s i h =
    let raised = any_some (λ way. reaches (event_of p u way) s.name) (ways_of p u) h in
    elim (by_either p u raised.one s.name raised.passes) as (λ _. (by_channel p u s ≡ true) ⊎ (by_sources p u s ≡ true)) [
      | inl a ↦
          let e = source_of_way p u raised.one s.name a in
          inr (any_in (λ e. reaches (by_source p u e.way) s.name) u.sources e.one e.within (subst (λ w. reaches (by_source p u w) s.name ≡ true) (sym e.way_is) a))
      | inr b ↦
          let e = channel_end_of_way p u raised.one s.name b in
          inl (any_in (λ (e : ChannelEnd). is_writer e.role && list_any (λ f. reads_from f f.role e.channel) (channel_ends p s)) (channel_ends p u) e.one e.within
          (and_from (is_writer e.one.role) (list_any (λ f. reads_from f f.role e.one.channel) (channel_ends p s)) (writes_is_writer e.one e.one.role raised.one e.writes) (reader_of p unique s i e.one.channel e.raises)))
    ]
