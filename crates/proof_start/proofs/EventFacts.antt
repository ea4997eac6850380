-- The events of a lawful policy: the numbers of calls and traps, and the events that traps raise.
use Rattle.std.proofs.Common.{◌≡◌, ℕ, zero, suc, ◌<◌, ◌≤◌, Bool, true, false, cond, List, [], ◌∷◌, ◌++◌, length, map, Option, Some, None, refl, sym, ap, ◌∙◌, arith}
use Rattle.std.specs.Prelude.{◌==◌, ◌&&◌, ◌||◌, filter, is_some, nat_le, nat_lt, option_and_then, option_map, slice_get}
use Rattle.std.specs.Option.{option_map_or, option_or}
use Rattle.std.specs.List.{cons_option, filter_map, find, flat_map, list_all, list_any}
use Rattle.std.specs.Str.{bytes_eq}
use Rattle.std.proofs.lemmas.Bool.{and_parts, eqb-true, ltb-true}
use Rattle.std.proofs.lemmas.List.{length-map}
use Rattle.std.proofs.lemmas.List.Folds.{list_all-append}
use Rattle.std.proofs.lemmas.Slice.Eq.{bytes_eq-Decides}
use Rattle.expand_grants.proofs.Elements.{first_there, lengths_same, none_there}
use Rattle.policy_lawful.proofs.EachPasses.{all_some}
use Rattle.policy_lawful.proofs.KeptRules.{rules_of}
use Rattle.muen_num.proofs.Lists.{found_among, list_any-map, passes_at}
use Rattle.muen_num.proofs.SearchLaws.{all_pass, none_append, none_both, unless_none}
use Rattle.muen_num.proofs.Lookups.{found_passes, found_any, found_index}
use Rattle.muen_num.proofs.Options.{is_some-option_map}
use Rattle.muen_num.specs.Search.{first_in}
use Rattle.muen_num.specs.declared.limits.TheConstants.{MOST_CALLS}
use Rattle.muen_num.specs.Numbers.{is_among, are_distinct}
use Rattle.policy_lawful.specs.Lawful.{IsLawful}
use Rattle.policy_lawful.specs.MoreRules.{are_numbers, call_number, calls_of, offence_12, offence_14, sources_of, targets_of}
use Rattle.policy_lawful.specs.Offences.{alone, two}
use Rattle.policy_lawful.specs.Rules.{Reference, component_references, device_references, is_declared, offence_2, subject_references, undeclared}
use Rattle.policy_lawful.specs.Events.{ChannelEnd, Raised, Target, channel_ends, channel_event, event_of, event_targets, is_call, named_event, same_way, trap_number, traps_of, writes_by}
use Rattle.policy_lawful.specs.rights.Role.{Role}
use Rattle.policy_lawful.specs.rights.Role.TheVariants.{Reader, Writer}
use Rattle.policy_lawful.specs.source.Event.{Event}
use Rattle.policy_lawful.specs.source.EventSource.{EventSource}
use Rattle.policy_lawful.specs.source.EventTarget.{EventTarget}
use Rattle.policy_lawful.specs.source.Source.{Source}
use Rattle.policy_lawful.specs.source.SourceWay.{SourceWay}
use Rattle.policy_lawful.specs.source.SourceWay.TheVariants.{Call, Trap}
use Rattle.policy_lawful.specs.source.Subject.{Subject}

-- ---- the numbers of calls and traps

-- none is found where no element passes
none_found : {X : Type 0} (test : X → Bool) (xs : List X) → ((x : X) → find test xs ≡ Some x → ⊥) → find test xs ≡ None
none_found {X} test xs never = elim (find test xs) as (λ o. ((x : X) → o ≡ Some x → ⊥) → o ≡ None) [
  | None ↦ λ _. refl
  | Some x ↦ λ k. absurd (k x refl)
] never

is_small : Option ℕ → Bool
is_small o = option_map_or (λ n. nat_lt n MOST_CALLS) o true

-- what is a call of this number is none that is small
great_call : (w : SourceWay) (i : ℕ) → MOST_CALLS ≤ i → same_way w (Call i) ≡ true → is_small (call_number w) ≡ true → ⊥
unfolding is_small
great_call (Call m) i l same small =
    let e : m ≡ i = eqb-true m i same in
    let b : m < MOST_CALLS = ltb-true m MOST_CALLS small in
    omega (arith, e, b, l)
great_call (Trap m) i l same small = absurd (cc)

great_trap : (w : SourceWay) (i : ℕ) → MOST_CALLS ≤ i → same_way w (Trap i) ≡ true → is_small (trap_number w) ≡ true → ⊥
unfolding is_small
great_trap (Call m) i l same small = absurd (cc)
great_trap (Trap m) i l same small =
    let e : m ≡ i = eqb-true m i same in
    let b : m < MOST_CALLS = ltb-true m MOST_CALLS small in
    omega (arith, e, b, l)

great_channel_end : (call : Option ℕ) (i : ℕ) → MOST_CALLS ≤ i → is_call call (Call i) ≡ true → is_small call ≡ true → ⊥
unfolding is_small
great_channel_end None i l same small = absurd (cc)
great_channel_end (Some m) i l same small =
    let e : m ≡ i = eqb-true m i same in
    let b : m < MOST_CALLS = ltb-true m MOST_CALLS small in
    omega (arith, e, b, l)

great_writer : (e : ChannelEnd) (role : Role) (i : ℕ) → MOST_CALLS ≤ i → writes_by e role (Call i) ≡ true → is_small e.call ≡ true → ⊥
great_writer e Writer i l same small = great_channel_end e.call i l same small
great_writer e Reader i l same small = absurd (cc)

-- no end of a channel is for traps
no_trap : (call : Option ℕ) (i : ℕ) → is_call call (Trap i) ≡ false
no_trap None i = refl
no_trap (Some m) i = refl

no_trap_channel_end : (e : ChannelEnd) (role : Role) (i : ℕ) → writes_by e role (Trap i) ≡ false
no_trap_channel_end e Writer i = no_trap e.call i
no_trap_channel_end e Reader i = refl

no_channel_ends : (i : ℕ) (es : List ChannelEnd) → find (λ e. writes_by e e.role (Trap i)) es ≡ None
no_channel_ends i [] = refl
no_channel_ends i (e ∷ es) = ap (λ b. cond b (Some e) (find (λ e. writes_by e e.role (Trap i)) es)) (no_trap_channel_end e e.role i) ∙ no_channel_ends i es

-- ---- traps

some_or_none : {X : Type 0} (o : Option X) → is_some (option_or o None) ≡ is_some o
some_or_none None = refl
some_or_none (Some x) = refl

listed_trap : (w : SourceWay) (i : ℕ) (ns : List ℕ) → list_any (λ t. t == i) (cons_option (trap_number w) ns) ≡ (same_way w (Trap i) || list_any (λ t. t == i) ns)
listed_trap (Call m) i ns = refl
listed_trap (Trap m) i ns = refl

-- a trap is listed just where a source is one by it
traps_listed : (i : ℕ) (es : List EventSource) → list_any (λ t. t == i) (filter_map (λ e. trap_number e.way) es) ≡ list_any (λ e. same_way e.way (Trap i)) es
traps_listed i [] = refl
traps_listed i (e ∷ es) = listed_trap e.way i (filter_map (λ e. trap_number e.way) es) ∙ ap (λ b. same_way e.way (Trap i) || b) (traps_listed i es)

raised_as : Event → Target → Raised
raised_as e t = record { mode = e.mode; target = t }

module _ (p : Source) (lawful : IsLawful p) where
  record Small (n : Subject) : Type 0 where
    calls : list_all (λ e. is_small (call_number e.way)) n.sources ≡ true
    channel_calls : list_all (λ e. is_small e.call) (channel_ends p n) ≡ true
    traps : list_all (λ e. is_small (trap_number e.way)) n.sources ≡ true

  -- rule 14 of a subject
  small_of : (s : ℕ) (n : Subject) → slice_get p.subjects s ≡ Some n → Small n
  unfolding offence_14 is_small
  small_of s n at =
      let keeps : Subject → Bool = λ s. are_numbers (calls_of p s) && are_numbers (filter_map (λ e. trap_number e.way) s.sources) in
      let both = and_parts (are_numbers (calls_of p n)) (are_numbers (filter_map (λ e. trap_number e.way) n.sources)) (passes_at keeps p.subjects s n (all_pass keeps (λ s. alone s.name) p.subjects (rules_of lawful).rule_14) at) in
      let low : ℕ → Bool = λ k. nat_lt k MOST_CALLS in
      let a = filter_map (λ e. call_number e.way) n.sources in
      let b = filter_map (λ e. e.call) (channel_ends p n) in
      let calls = and_parts (list_all low a) (list_all low b) (sym (list_all-append low a b) ∙ (and_parts (list_all low (a ++ b)) (are_distinct (a ++ b)) both.0).0) in
      let traps = (and_parts (list_all low (filter_map (λ e. trap_number e.way) n.sources)) (are_distinct (filter_map (λ e. trap_number e.way) n.sources)) both.1).0 in
      record {
        calls = sym (all_some low (λ e. call_number e.way) n.sources) ∙ calls.0;
        channel_calls = sym (all_some low (λ e. e.call) (channel_ends p n)) ∙ calls.1;
        traps = sym (all_some low (λ e. trap_number e.way) n.sources) ∙ traps;
      }

  -- no call has a greater number
  pub few_calls : (s : ℕ) (n : Subject) (i : ℕ) → slice_get p.subjects s ≡ Some n → MOST_CALLS ≤ i → event_of p n (Call i) ≡ None
  unfolding event_of
  few_calls s n i at l =
      let small = small_of s n at in
      let by_source : find (λ e. same_way e.way (Call i)) n.sources ≡ None =
      none_found (λ e. same_way e.way (Call i)) n.sources (λ e is.
      great_call e.way i l (found_passes (λ e. same_way e.way (Call i)) n.sources e is) (found_among (λ e. same_way e.way (Call i)) (λ e. is_small (call_number e.way)) n.sources e is small.calls)) in
      let by_channel_end : find (λ e. writes_by e e.role (Call i)) (channel_ends p n) ≡ None =
      none_found (λ e. writes_by e e.role (Call i)) (channel_ends p n) (λ e is.
      great_writer e e.role i l (found_passes (λ e. writes_by e e.role (Call i)) (channel_ends p n) e is) (found_among (λ e. writes_by e e.role (Call i)) (λ e. is_small e.call) (channel_ends p n) e is small.channel_calls)) in
      rw (by_source, by_channel_end) refl

  -- nor has a trap
  pub few_traps : (s : ℕ) (n : Subject) (i : ℕ) → slice_get p.subjects s ≡ Some n → MOST_CALLS ≤ i → event_of p n (Trap i) ≡ None
  unfolding event_of
  few_traps s n i at l =
      let small = small_of s n at in
      let by_source : find (λ e. same_way e.way (Trap i)) n.sources ≡ None =
      none_found (λ e. same_way e.way (Trap i)) n.sources (λ e is.
      great_trap e.way i l (found_passes (λ e. same_way e.way (Trap i)) n.sources e is) (found_among (λ e. same_way e.way (Trap i)) (λ e. is_small (trap_number e.way)) n.sources e is small.traps)) in
      rw (by_source, no_channel_ends i (channel_ends p n)) refl

  -- ---- the events of traps

  -- rule 2 of the references of a subject
  references : (s : ℕ) (n : Subject) → slice_get p.subjects s ≡ Some n → first_in (undeclared n.name) (subject_references p n) ≡ None
  unfolding offence_2
  references s n at =
      let subjects = first_in (λ s. first_in (undeclared s.name) (subject_references p s)) p.subjects in
      none_of p.subjects s n (none_both subjects _ (rules_of lawful).rule_2).0 at
    where
      none_of : (ns : List Subject) (k : ℕ) (n : Subject) → first_in (λ s. first_in (undeclared s.name) (subject_references p s)) ns ≡ None → slice_get ns k ≡ Some n → first_in (undeclared n.name) (subject_references p n) ≡ None
      none_of [] k n h at = absurd (cc)
      none_of (x ∷ xs) zero n h at = let same : x ≡ n = cc in ap (λ n. first_in (undeclared n.name) (subject_references p n)) (sym same) ∙ (none_both (first_in (undeclared x.name) (subject_references p x)) _ h).0
      none_of (x ∷ xs) (suc k) n h at = none_of xs k n (none_both (first_in (undeclared x.name) (subject_references p x)) _ h).1 at

  -- the event that a source names is declared
  source_declared : (s : ℕ) (n : Subject) (e : EventSource) (i : ℕ) → slice_get p.subjects s ≡ Some n → slice_get n.sources i ≡ Some e → list_any (λ x. bytes_eq x.name e.event) p.events ≡ true
  source_declared s n e i at in_it =
      let components = component_references p n.component in
      let memory : List Reference = map (λ m. (map (λ r. r.name) p.memory, m.region)) n.memory in
      let channels : List Reference = map (λ c. (map (λ c. c.name) p.channels, c.channel)) n.channels in
      let devices : List Reference = flat_map (device_references p) n.devices in
      let source : EventSource → Reference = λ e. (map (λ e. e.name) p.events, e.event) in
      let sources = map source n.sources in
      let targets : List Reference = map (λ e. (map (λ e. e.name) p.events, e.event)) n.targets in
      let monitors : List Reference = map (λ m. (map (λ s. s.name) p.subjects, m.subject)) n.monitors in
      let without_monitors = (none_append (undeclared n.name) (components ++ memory ++ channels ++ devices ++ sources ++ targets) monitors (references s n at)).0 in
      let without_targets = (none_append (undeclared n.name) (components ++ memory ++ channels ++ devices ++ sources) targets without_monitors).0 in
      let here = (none_append (undeclared n.name) (components ++ memory ++ channels ++ devices) sources without_targets).1 in
      sym (list_any-map (λ x. bytes_eq x e.event) (λ (x : Event). x.name) p.events)
      ∙ unless_none (is_declared (map (λ e. e.name) p.events) e.event) (two n.name e.event) (none_there (undeclared n.name) source n.sources i e here in_it)

  -- a declared event has a target
  has_target : (name : List ℕ) (e : Event) → find (λ e. bytes_eq e.name name) p.events ≡ Some e → is_some (slice_get (event_targets p name) 0) ≡ true
  unfolding offence_12
  has_target name e is =
      let keeps : Event → Bool = λ e. nat_le 1 (length (sources_of p e.name)) && (length (targets_of p e.name) == 1) in
      let kept = found_among (λ e. bytes_eq e.name name) keeps p.events e is (all_pass keeps (λ e. alone e.name) p.events (rules_of lawful).rule_12) in
      let named : e.name ≡ name = (bytes_eq-Decides e.name name).0 (found_passes (λ e. bytes_eq e.name name) p.events e is) in
      let one : (length (targets_of p name) == 1) ≡ true = ap (λ n. length (targets_of p n) == 1) (sym named) ∙ (and_parts (nat_le 1 (length (sources_of p e.name))) (length (targets_of p e.name) == 1) kept).1 in
      let by_name : (s : Subject) → length (map (λ e. s.name) (filter (λ e. bytes_eq e.event name) s.targets)) ≡ length (map (λ (e : EventTarget). record { subject = s.name; vector = e.vector }) (filter (λ e. bytes_eq e.event name) s.targets)) = λ s.
      length-map (filter (λ e. bytes_eq e.event name) s.targets) (λ e. s.name) ∙ sym (length-map (filter (λ e. bytes_eq e.event name) s.targets) (λ (e : EventTarget). record { subject = s.name; vector = e.vector })) in
      let same : length (targets_of p name) ≡ length (event_targets p name) =
      lengths_same (λ (s : Subject). map (λ e. s.name) (filter (λ e. bytes_eq e.event name) s.targets)) (λ s. map (λ e. record { subject = s.name; vector = e.vector }) (filter (λ e. bytes_eq e.event name) s.targets)) by_name p.subjects in
      first_there (targets_of p name) (event_targets p name) same one

  -- a declared event is raised
  named_raised : (name : List ℕ) → list_any (λ x. bytes_eq x.name name) p.events ≡ true → is_some (named_event p name) ≡ true
  unfolding raised_as
  named_raised name declared =
      elim (find (λ e. bytes_eq e.name name) p.events)
      as (λ o. find (λ e. bytes_eq e.name name) p.events ≡ o → is_some o ≡ true → is_some (option_and_then (λ e. option_map (raised_as e) (slice_get (event_targets p name) 0)) o) ≡ true) [
        | None ↦ λ _ h. absurd (cc)
        | Some e ↦ λ is _. is_some-option_map (raised_as e) (slice_get (event_targets p name) 0) ∙ has_target name e is
      ] refl (found_any (λ e. bytes_eq e.name name) p.events ∙ declared)

  -- what a trap entry names is raised
  trap_raised : (s : ℕ) (n : Subject) (i : ℕ) (e : EventSource) → slice_get p.subjects s ≡ Some n → find (λ e. same_way e.way (Trap i)) n.sources ≡ Some e → is_some (named_event p e.event) ≡ true
  trap_raised s n i e at is =
      let index = found_index (λ e. same_way e.way (Trap i)) n.sources e is in
      named_raised e.event (source_declared s n e index.0 at index.1)

  trap_by_source : (s : ℕ) (n : Subject) (i : ℕ) → slice_get p.subjects s ≡ Some n → is_some (event_of p n (Trap i)) ≡ is_some (find (λ e. same_way e.way (Trap i)) n.sources)
  unfolding event_of
  trap_by_source s n i at =
      let rest = option_and_then (λ e. channel_event p e.channel) (find (λ e. writes_by e e.role (Trap i)) (channel_ends p n)) in
      let nothing : rest ≡ None = ap (option_and_then (λ (e : ChannelEnd). channel_event p e.channel)) (no_channel_ends i (channel_ends p n)) in
      ap (λ o. is_some (option_or (option_and_then (λ e. named_event p e.event) (find (λ e. same_way e.way (Trap i)) n.sources)) o)) nothing
      ∙ (elim (find (λ e. same_way e.way (Trap i)) n.sources)
      as (λ o. find (λ e. same_way e.way (Trap i)) n.sources ≡ o → is_some (option_or (option_and_then (λ (e : EventSource). named_event p e.event) o) None) ≡ is_some o) [
        | None ↦ λ _. refl
        | Some e ↦ λ is. some_or_none (named_event p e.event) ∙ trap_raised s n i e at is
      ]) refl

  -- a subject raises an event by a trap just where it has a trap entry for it
  pub traps_are_events : (s : ℕ) (n : Subject) (i : ℕ) → slice_get p.subjects s ≡ Some n → is_some (event_of p n (Trap i)) ≡ is_among (traps_of n) i
  traps_are_events s n i at = trap_by_source s n i at ∙ found_any (λ e. same_way e.way (Trap i)) n.sources ∙ sym (traps_listed i n.sources)
