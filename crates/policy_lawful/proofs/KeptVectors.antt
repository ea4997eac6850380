-- Rule 15: a vector of a subject, and one under which an event of a policy reaches it, isn't one of those that are kept
-- for exceptions.
use Rattle.std.proofs.Common.{◌≡◌, ◌∙◌, ℕ, Bool, true, List, [], ◌∷◌, ◌++◌, map, Option, Some, None, refl, sym}
use Rattle.std.specs.Prelude.{◌&&◌, ◌||◌, filter, nat_le, not, option_and_then, option_map, slice_get}
use Rattle.std.specs.Option.{option_map_or, option_or}
use Rattle.std.specs.List.{filter_map, find, flat_map, list_all}
use Rattle.std.specs.Str.{bytes_eq}
use Rattle.std.proofs.lemmas.Bool.{and_parts, or_right}
use Rattle.std.proofs.lemmas.List.Folds.{list_all-append, list_all-map}
use Rattle.muen_num.proofs.Lists.{each_from}
use Rattle.muen_num.proofs.SearchLaws.{all_pass}
use Rattle.muen_num.specs.declared.mode.EventMode.{EventMode}
use Rattle.muen_num.specs.declared.limits.TheConstants.{FIRST_VECTOR, LAST_VECTOR}
use Rattle.policy_lawful.proofs.EachPasses.{all_filter, all_flat, all_some}
use Rattle.policy_lawful.specs.MoreRules.{are_vectors, has_vector, offence_15, vectors_of}
use Rattle.muen_num.specs.Numbers.{are_distinct}
use Rattle.policy_lawful.specs.Offences.{alone}
use Rattle.policy_lawful.specs.Events.{ChannelEnd, Raised, Target, channel_ends, channel_event, channel_targets, event_of, event_targets, named_event, reads_from, same_way, writes_by}
use Rattle.policy_types.specs.declared.source.Channel.{Channel}
use Rattle.policy_types.specs.declared.source.Event.{Event}
use Rattle.policy_types.specs.declared.source.EventTarget.{EventTarget}
use Rattle.policy_types.specs.declared.source.Source.{Source}
use Rattle.policy_types.specs.declared.source.SourceWay.{SourceWay}
use Rattle.policy_types.specs.declared.source.Subject.{Subject}

-- a vector that isn't kept for exceptions
abbrev pub is_free : ℕ → Bool
is_free n = nat_le FIRST_VECTOR n && nat_le n LAST_VECTOR

-- none, or one of those
abbrev pub is_free_if_any : Option ℕ → Bool
is_free_if_any v = option_map_or is_free v true

abbrev under_free : Target → Bool
under_free t = is_free_if_any t.vector

abbrev pub raised_free : Raised → Bool
raised_free x = is_free_if_any x.target.vector

-- ---- the first of a list

first_free : (mode : EventMode) (ts : List Target) → list_all under_free ts ≡ true → option_map_or raised_free (option_map (λ t. record { mode = mode; target = t }) (slice_get ts 0)) true ≡ true
first_free mode [] h = refl
first_free mode (t ∷ ts) h = (and_parts (under_free t) (list_all under_free ts) h).0

either_free : (a b : Option Raised) → option_map_or raised_free a true ≡ true → option_map_or raised_free b true ≡ true → option_map_or raised_free (option_or a b) true ≡ true
either_free None b h k = k
either_free (Some x) b h k = h

then_free : {X : Type 0} (f : X → Option Raised) (o : Option X) → ((x : X) → option_map_or raised_free (f x) true ≡ true) → option_map_or raised_free (option_and_then f o) true ≡ true
then_free f None h = refl
then_free f (Some x) h = h x

-- whom elements of a list reach, some of which count
reached_free : {X : Type 0} (vector : X → Option ℕ) (subject : List ℕ) (counts : X → Bool) (xs : List X) → list_all (λ x. is_free_if_any (vector x)) xs ≡ true
    → list_all under_free (map (λ x. record { subject = subject; vector = vector x }) (filter counts xs)) ≡ true
reached_free {X} vector subject counts xs h =
    let make : X → Target = λ x. record { subject = subject; vector = vector x } in
    list_all-map under_free make (filter counts xs)
    ∙ all_filter (λ x. under_free (make x)) counts xs
    ∙ each_from (λ x. is_free_if_any (vector x)) (λ x. not (counts x) || under_free (make x)) (λ x free. or_right (not (counts x)) (under_free (make x)) free) xs h

module _ (p : Source) where
  -- what the rule asks of a subject
  abbrev pub keeps_vectors : Subject → Bool
  keeps_vectors s = list_all (has_vector p) s.targets && are_vectors (vectors_of p s)

  pub record VectorsKept (s : Subject) : Type 0 where
    pub named : list_all (has_vector p) s.targets ≡ true
    pub targets : list_all (λ t. is_free_if_any t.vector) s.targets ≡ true
    pub ends : list_all (λ e. is_free_if_any e.vector) (channel_ends p s) ≡ true
    pub irqs : list_all (λ d. list_all is_free (map (λ i. i.vector) d.irqs)) s.devices ≡ true

  pub vectors_kept : (s : Subject) → keeps_vectors s ≡ true → VectorsKept s
  vectors_kept s h =
      let both = and_parts (list_all (has_vector p) s.targets) (are_vectors (vectors_of p s)) h in
      let all = (and_parts (list_all is_free (vectors_of p s)) (are_distinct (vectors_of p s)) both.1).0 in
      let a = filter_map (λ t. t.vector) s.targets in
      let b = filter_map (λ e. e.vector) (channel_ends p s) in
      let c = flat_map (λ d. map (λ i. i.vector) d.irqs) s.devices in
      let last = and_parts (list_all is_free (a ++ b)) (list_all is_free c) (sym (list_all-append is_free (a ++ b) c) ∙ all) in
      let first = and_parts (list_all is_free a) (list_all is_free b) (sym (list_all-append is_free a b) ∙ last.0) in
      record {
        named = both.0;
        targets = sym (all_some is_free (λ t. t.vector) s.targets) ∙ first.0;
        ends = sym (all_some is_free (λ e. e.vector) (channel_ends p s)) ∙ first.1;
        irqs = sym (all_flat is_free (λ d. map (λ i. i.vector) d.irqs) s.devices) ∙ last.1;
      }

module _ (p : Source) (lawful : offence_15 p ≡ None) where
  pub each_keeps_vectors : list_all (keeps_vectors p) p.subjects ≡ true
  unfolding offence_15
  each_keeps_vectors = all_pass (keeps_vectors p) (λ s. alone s.name) p.subjects lawful

  -- ---- events by name

  targets_free : (name : List ℕ) → list_all under_free (event_targets p name) ≡ true
  targets_free name =
      let counts : EventTarget → Bool = λ e. bytes_eq e.event name in
      let of : Subject → List Target = λ s. map (λ e. record { subject = s.name; vector = e.vector }) (filter counts s.targets) in
      all_flat under_free of p.subjects
      ∙ each_from (keeps_vectors p) (λ s. list_all under_free (of s)) (λ s k. reached_free (λ (e : EventTarget). e.vector) s.name counts s.targets (vectors_kept p s k).targets) p.subjects each_keeps_vectors

  named_free : (name : List ℕ) → option_map_or raised_free (named_event p name) true ≡ true
  named_free name =
      then_free (λ (e : Event). option_map (λ t. record { mode = e.mode; target = t }) (slice_get (event_targets p name) 0)) (find (λ e. bytes_eq e.name name) p.events)
      (λ e. first_free e.mode (event_targets p name) (targets_free name))

  -- ---- events of channels

  readers_free : (name : List ℕ) → list_all under_free (channel_targets p name) ≡ true
  readers_free name =
      let counts : ChannelEnd → Bool = λ e. reads_from e e.role name in
      let of : Subject → List Target = λ s. map (λ e. record { subject = s.name; vector = e.vector }) (filter counts (channel_ends p s)) in
      all_flat under_free of p.subjects
      ∙ each_from (keeps_vectors p) (λ s. list_all under_free (of s)) (λ s k. reached_free (λ (e : ChannelEnd). e.vector) s.name counts (channel_ends p s) (vectors_kept p s k).ends) p.subjects each_keeps_vectors

  channel_free : (name : List ℕ) → option_map_or raised_free (channel_event p name) true ≡ true
  channel_free name =
      then_free (λ (c : Channel). option_and_then (λ m. option_map (λ t. record { mode = m; target = t }) (slice_get (channel_targets p name) 0)) c.has_event)
      (find (λ c. bytes_eq c.name name) p.channels)
      (λ c. then_free (λ m. option_map (λ t. record { mode = m; target = t }) (slice_get (channel_targets p name) 0)) c.has_event (λ m. first_free m (channel_targets p name) (readers_free name)))

  -- what a subject raises comes under a vector that isn't kept, if under one
  pub event_free : (s : Subject) (way : SourceWay) → option_map_or raised_free (event_of p s way) true ≡ true
  unfolding event_of
  event_free s way =
      either_free
      (option_and_then (λ e. named_event p e.event) (find (λ e. same_way e.way way) s.sources))
      (option_and_then (λ e. channel_event p e.channel) (find (λ e. writes_by e e.role way) (channel_ends p s)))
      (then_free (λ e. named_event p e.event) (find (λ e. same_way e.way way) s.sources) (λ e. named_free e.event))
      (then_free (λ e. channel_event p e.channel) (find (λ e. writes_by e e.role way) (channel_ends p s)) (λ e. channel_free e.channel))
