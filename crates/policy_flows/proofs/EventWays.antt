-- The event that a subject raises in a way is that of one of its sources, or of one of its ends of channels.
use Rattle.std.proofs.Common.{◌≡◌, ℕ, true, List, ◌++◌, map, Option, Some, None, refl, sym, ap, subst, ◌⊎◌, inl, inr}
use Rattle.std.specs.Prelude.{option_and_then, option_map}
use Rattle.std.specs.Option.{option_or}
use Rattle.std.specs.List.{filter_map, find}
use Rattle.std.proofs.lemmas.Bool.{eqb-true}
use Rattle.policy_lawful.specs.Events.{ChannelEnd, Raised, channel_ends, channel_event, event_of, is_call, named_event, same_way, writes_by}
use Rattle.policy_lawful.specs.rights.Role.{Role}
use Rattle.policy_lawful.specs.rights.Role.TheVariants.{Writer, Reader}
use Rattle.policy_lawful.specs.source.EventSource.{EventSource}
use Rattle.policy_lawful.specs.source.Source.{Source}
use Rattle.policy_lawful.specs.source.SourceWay.{SourceWay}
use Rattle.policy_lawful.specs.source.SourceWay.TheVariants.{Call, Trap}
use Rattle.policy_lawful.specs.source.Subject.{Subject}
use Rattle.policy_flows.specs.Flows.{by_event, reaches, ways_of}
use Rattle.muen_num.proofs.Members.{In, any_in, filter_map_in, find_in, left_in, map_in, right_in}

-- ---- the two parts

abbrev pub by_source : Source → Subject → SourceWay → Option Raised
by_source p u way = option_and_then (λ e. named_event p e.event) (find (λ e. same_way e.way way) u.sources)

abbrev pub by_channel_end : Source → Subject → SourceWay → Option Raised
by_channel_end p u way = option_and_then (λ e. channel_event p e.channel) (find (λ e. writes_by e e.role way) (channel_ends p u))

pub event_is : (p : Source) (u : Subject) (way : SourceWay) → event_of p u way ≡ option_or (by_source p u way) (by_channel_end p u way)
unfolding event_of
event_is p u way = refl

either : (a b : Option Raised) (name : List ℕ) → reaches (option_or a b) name ≡ true → (reaches a name ≡ true) ⊎ (reaches b name ≡ true)
either None b name h = inr h
either (Some e) b name h = inl h

-- one of them reaches what the event does
pub by_either : (p : Source) (u : Subject) (way : SourceWay) (name : List ℕ) → reaches (event_of p u way) name ≡ true → (reaches (by_source p u way) name ≡ true) ⊎ (reaches (by_channel_end p u way) name ≡ true)
by_either p u way name h = either (by_source p u way) (by_channel_end p u way) name (subst (λ o. reaches o name ≡ true) (event_is p u way) h)

first_reaches : (a b : Option Raised) (name : List ℕ) → reaches a name ≡ true → reaches (option_or a b) name ≡ true
first_reaches None b name h = absurd (cc)
first_reaches (Some e) b name h = h

-- what the first reaches the event does
pub from_source : (p : Source) (u : Subject) (way : SourceWay) (name : List ℕ) → reaches (by_source p u way) name ≡ true → reaches (event_of p u way) name ≡ true
from_source p u way name h = subst (λ o. reaches o name ≡ true) (sym (event_is p u way)) (first_reaches (by_source p u way) (by_channel_end p u way) name h)

-- ---- the source, or the end

same_way_is : (a b : SourceWay) → same_way a b ≡ true → a ≡ b
same_way_is (Call m) (Call n) h = ap Call (eqb-true m n h)
same_way_is (Trap m) (Trap n) h = ap Trap (eqb-true m n h)
same_way_is (Call m) (Trap n) h = absurd (cc)
same_way_is (Trap m) (Call n) h = absurd (cc)

-- a source of this way
pub record SourceOf (u : Subject) (way : SourceWay) : Type 0 where
  pub one : EventSource
  pub within : In one u.sources
  pub way_is : one.way ≡ way

pub source_of_way : (p : Source) (u : Subject) (way : SourceWay) (name : List ℕ) → reaches (by_source p u way) name ≡ true → SourceOf u way
source_of_way p u way name h =
    elim (find (λ e. same_way e.way way) u.sources) as (λ o. find (λ e. same_way e.way way) u.sources ≡ o → reaches (option_and_then (λ (e : EventSource). named_event p e.event) o) name ≡ true → SourceOf u way) [
      | None ↦ λ e t. absurd (cc)
      | Some x ↦ λ e t. let found = find_in (λ e. same_way e.way way) u.sources x e in record { one = x; within = found.0; way_is = same_way_is x.way way found.1 }
    ] refl h

-- an end that writes its channel with this call, and whose channel's event reaches the subject of this name
pub record ChannelEndOf (p : Source) (u : Subject) (way : SourceWay) (name : List ℕ) : Type 0 where
  pub one : ChannelEnd
  pub within : In one (channel_ends p u)
  pub writes : writes_by one one.role way ≡ true
  pub raises : reaches (channel_event p one.channel) name ≡ true

pub channel_end_of_way : (p : Source) (u : Subject) (way : SourceWay) (name : List ℕ) → reaches (by_channel_end p u way) name ≡ true → ChannelEndOf p u way name
channel_end_of_way p u way name h =
    elim (find (λ e. writes_by e e.role way) (channel_ends p u)) as (λ o. find (λ e. writes_by e e.role way) (channel_ends p u) ≡ o → reaches (option_and_then (λ (e : ChannelEnd). channel_event p e.channel) o) name ≡ true → ChannelEndOf p u way name) [
      | None ↦ λ e t. absurd (cc)
      | Some x ↦ λ e t. let found = find_in (λ e. writes_by e e.role way) (channel_ends p u) x e in record { one = x; within = found.0; writes = found.1; raises = t }
    ] refl h

-- ---- each way counts

called : (call : Option ℕ) (way : SourceWay) → is_call call way ≡ true → option_map Call call ≡ Some way
called None way h = absurd (cc)
called (Some m) (Call n) h = ap (λ k. Some (Call k)) (eqb-true m n h)
called (Some m) (Trap n) h = absurd (cc)

call_of_channel_end : (e : ChannelEnd) (role : Role) (way : SourceWay) → writes_by e role way ≡ true → option_map Call e.call ≡ Some way
call_of_channel_end e Writer way h = called e.call way h
call_of_channel_end e Reader way h = absurd (cc)

pub way_counts : (p : Source) (u s : Subject) (way : SourceWay) → reaches (event_of p u way) s.name ≡ true → by_event p u s ≡ true
way_counts p u s way h =
    let own = map (λ (e : EventSource). e.way) u.sources in
    let calls = filter_map (λ (e : ChannelEnd). option_map Call e.call) (channel_ends p u) in
    let among : In way (own ++ calls) =
    elim (by_either p u way s.name h) as (λ _. In way (own ++ calls)) [
      | inl a ↦ let e = source_of_way p u way s.name a in left_in own calls way (subst (λ w. In w own) e.way_is (map_in (λ (e : EventSource). e.way) u.sources e.one e.within))
      | inr b ↦ let e = channel_end_of_way p u way s.name b in right_in own calls way (filter_map_in (λ (e : ChannelEnd). option_map Call e.call) (channel_ends p u) e.one way e.within (call_of_channel_end e.one e.one.role way e.writes))
    ] in
    any_in (λ way. reaches (event_of p u way) s.name) (ways_of p u) way among h
