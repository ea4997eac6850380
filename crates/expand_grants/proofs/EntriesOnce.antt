-- Rule 14: a subject has one entry at most for each way.
use Rattle.std.proofs.Common.{◌≡◌, ℕ, ◌+◌, ◌≤◌, Bool, true, false, cond, List, ◌++◌, map, Option, Some, None, refl, sym, ap, subst, ◌∙◌, arith}
use Rattle.std.specs.Prelude.{◌==◌, ◌&&◌, slice_get}
use Rattle.std.specs.Option.{option_map_or}
use Rattle.std.specs.List.{count_by, filter_map}
use Rattle.std.proofs.lemmas.Bool.{and_parts}
use Rattle.std.proofs.lemmas.List.Sums.{sum_by-append, sum_by-le-sum_by}
use Rattle.muen_num.proofs.Lists.{all_true, passes_at}
use Rattle.muen_num.proofs.SameAnswers.{sum_by_same}
use Rattle.policy_lawful.specs.MoreRules.{are_numbers, call_number, calls_of, offence_14, offence_15}
use Rattle.muen_num.specs.Numbers.{are_distinct}
use Rattle.policy_lawful.specs.Resolution.{IsResolved, Resolution, source_of, subject_named, subject_in_range}
use Rattle.policy_lawful.specs.declared.resolved.Subject.{Subject}
use Rattle.policy_lawful.specs.Events.{ChannelEnd, channel_ends, is_call, same_way, writes_by, trap_number}
use Rattle.policy_lawful.specs.rights.Role.{Role}
use Rattle.policy_lawful.specs.rights.Role.TheVariants.{Reader, Writer}
use Rattle.policy_lawful.specs.source.EventSource.{EventSource as NamedSource}
use Rattle.policy_lawful.specs.source.Source.{Source}
use Rattle.policy_lawful.specs.source.SourceWay.{SourceWay}
use Rattle.policy_lawful.specs.source.SourceWay.TheVariants.{Call, Trap}
use Rattle.policy_lawful.specs.source.Subject.{Subject as NamedSubject}
use Rattle.policy_lawful.specs.Views.{channel_end_named, channel_ends_of}
use Rattle.policy_lawful.proofs.EndsByIndex.{ends_by_index}
use Rattle.expand_grants.specs.Grants.{is_way}
use Rattle.expand_grants.specs.Raising.{all_readers, all_targets, channel_end_entry, event_entries_of, first_reached, source_entry, granted_way_of}
use Rattle.expand_grants.specs.declared.granted.EventEntry.{EventEntry}
use Rattle.expand_grants.proofs.Counted.{counted_some, distinct_once, fewer_items, none_passes, uncounted}
use Rattle.expand_grants.proofs.EntriesByIndex.{channel_end_way, entry_way, way_same}
use Rattle.expand_grants.proofs.NumbersFit.{all_14, keeps_14, source_named}

-- ---- numbers of ways

abbrev is_number : ℕ → ℕ → Bool
is_number n m = m == n

calls_by : (n : ℕ) (way : SourceWay) → option_map_or (is_number n) (call_number way) false ≡ same_way way (Call n)
calls_by n (Call m) = refl
calls_by n (Trap m) = refl

traps_by : (n : ℕ) (way : SourceWay) → option_map_or (is_number n) (trap_number way) false ≡ same_way way (Trap n)
traps_by n (Call m) = refl
traps_by n (Trap m) = refl

-- an end has the call by which it raises
has_call : (n : ℕ) (call : Option ℕ) → is_call call (Call n) ≡ option_map_or (is_number n) call false
has_call n None = refl
has_call n (Some m) = refl

-- what passes only where another does counts no more
counts_less : (a b : Bool) → (a ≡ true → b ≡ true) → cond a 1 0 ≤ cond b 1 0
counts_less false b h = omega arith
counts_less true b h = subst (λ c. 1 ≤ cond c 1 0) (sym (h refl)) (omega arith)

writes_few : (n : ℕ) (e : ChannelEnd) (role : Role) → cond (writes_by e role (Call n)) 1 0 ≤ cond (option_map_or (is_number n) e.call false) 1 0
writes_few n e Reader = counts_less false (option_map_or (is_number n) e.call false) (λ k. absurd (cc))
writes_few n e Writer = counts_less (is_call e.call (Call n)) (option_map_or (is_number n) e.call false) (λ k. sym (has_call n e.call) ∙ k)

-- none raises by a trap
no_trap : (n : ℕ) (call : Option ℕ) → is_call call (Trap n) ≡ false
no_trap n None = refl
no_trap n (Some m) = refl

writes_not : (n : ℕ) (e : ChannelEnd) (role : Role) → writes_by e role (Trap n) ≡ false
writes_not n e Reader = refl
writes_not n e Writer = no_trap n e.call

-- ---- by names

distinct_numbers : (ns : List ℕ) → are_numbers ns ≡ true → are_distinct ns ≡ true
distinct_numbers ns h = (and_parts _ _ h).1

module _ (p : Source) (s : NamedSubject) (keeps : (are_numbers (calls_of p s) && are_numbers (filter_map (λ (e : NamedSource). trap_number e.way) s.sources)) ≡ true) where
  call_once : (n : ℕ) → count_by (λ e. same_way e.way (Call n)) s.sources + count_by (λ e. writes_by e e.role (Call n)) (channel_ends p s) ≤ 1
  call_once n =
      let both = and_parts (are_numbers (calls_of p s)) (are_numbers (filter_map (λ (e : NamedSource). trap_number e.way) s.sources)) keeps in
      let own = filter_map (λ (e : NamedSource). call_number e.way) s.sources in
      let theirs = filter_map (λ (e : ChannelEnd). e.call) (channel_ends p s) in
      let few : count_by (is_number n) (own ++ theirs) ≤ 1 = distinct_once n (calls_of p s) (distinct_numbers (calls_of p s) both.0) in
      let joined : count_by (is_number n) (own ++ theirs) ≡ count_by (is_number n) own + count_by (is_number n) theirs = sum_by-append (λ m. cond (is_number n m) 1 0) own theirs in
      let by_source : count_by (is_number n) own ≡ count_by (λ (e : NamedSource). same_way e.way (Call n)) s.sources =
      counted_some (is_number n) (λ (e : NamedSource). call_number e.way) s.sources
      ∙ sum_by_same (λ (e : NamedSource). cond (option_map_or (is_number n) (call_number e.way) false) 1 0) (λ e. cond (same_way e.way (Call n)) 1 0) (λ _. true)
      (λ e _. ap (λ b. cond b 1 0) (calls_by n e.way)) s.sources (all_true s.sources) in
      let by_end : count_by (is_number n) theirs ≡ count_by (λ (e : ChannelEnd). option_map_or (is_number n) e.call false) (channel_ends p s) =
      counted_some (is_number n) (λ (e : ChannelEnd). e.call) (channel_ends p s) in
      let more : count_by (λ (e : ChannelEnd). writes_by e e.role (Call n)) (channel_ends p s) ≤ count_by (λ (e : ChannelEnd). option_map_or (is_number n) e.call false) (channel_ends p s) =
      sum_by-le-sum_by (λ (e : ChannelEnd). cond (writes_by e e.role (Call n)) 1 0) (λ e. cond (option_map_or (is_number n) e.call false) 1 0) (channel_ends p s) (λ e. writes_few n e e.role) in
      omega (arith, few, joined, by_source, by_end, more)

  trap_once : (n : ℕ) → count_by (λ e. same_way e.way (Trap n)) s.sources + count_by (λ e. writes_by e e.role (Trap n)) (channel_ends p s) ≤ 1
  trap_once n =
      let both = and_parts (are_numbers (calls_of p s)) (are_numbers (filter_map (λ (e : NamedSource). trap_number e.way) s.sources)) keeps in
      let own = filter_map (λ (e : NamedSource). trap_number e.way) s.sources in
      let few : count_by (is_number n) own ≤ 1 = distinct_once n own (distinct_numbers own both.1) in
      let by_source : count_by (is_number n) own ≡ count_by (λ (e : NamedSource). same_way e.way (Trap n)) s.sources =
      counted_some (is_number n) (λ (e : NamedSource). trap_number e.way) s.sources
      ∙ sum_by_same (λ (e : NamedSource). cond (option_map_or (is_number n) (trap_number e.way) false) 1 0) (λ e. cond (same_way e.way (Trap n)) 1 0) (λ _. true)
      (λ e _. ap (λ b. cond b 1 0) (traps_by n e.way)) s.sources (all_true s.sources) in
      let by_end : count_by (λ (e : ChannelEnd). writes_by e e.role (Trap n)) (channel_ends p s) ≡ 0 =
      uncounted (λ (e : ChannelEnd). writes_by e e.role (Trap n)) (channel_ends p s)
      (none_passes (λ _. true) (λ (e : ChannelEnd). writes_by e e.role (Trap n)) (λ e _. writes_not n e e.role) (channel_ends p s) (all_true (channel_ends p s))) in
      omega (arith, few, by_source, by_end)

  -- its sources and its ends of channels together have each way once at most
  way_once : (way : SourceWay) → count_by (λ e. same_way e.way way) s.sources + count_by (λ e. writes_by e e.role way) (channel_ends p s) ≤ 1
  way_once (Call n) = call_once n
  way_once (Trap n) = trap_once n

-- ---- by indexes

module _ (r : Resolution) (q : IsResolved r) (s : Subject) (in_range : subject_in_range r s ≡ true) (way : SourceWay) where
  abbrev of_way : EventEntry → Bool
  of_way e = is_way way e.way

  by_sources : count_by of_way (filter_map (source_entry r.events (all_targets r.subjects)) s.sources) ≤ count_by (λ (e : NamedSource). same_way e.way way) (map (source_named r) s.sources)
  by_sources =
      fewer_items (λ (e : NamedSource). same_way e.way way) (source_named r) (source_entry r.events (all_targets r.subjects)) of_way
      (λ e. entry_way way (granted_way_of e.way) (same_way e.way way) (way_same way e.way) (slice_get r.events e.event) (first_reached (all_targets r.subjects) e.event)) s.sources

  by_ends : count_by of_way (filter_map (channel_end_entry r.channels (all_readers r)) (channel_ends_of r s)) ≤ count_by (λ (e : ChannelEnd). writes_by e e.role way) (map (channel_end_named r) (channel_ends_of r s))
  by_ends =
      fewer_items (λ (e : ChannelEnd). writes_by e e.role way) (channel_end_named r) (channel_end_entry r.channels (all_readers r)) of_way
      (λ e. channel_end_way way r q s in_range e e.role e.call (writes_by (channel_end_named r e) e.role way) refl) (channel_ends_of r s)

  entries_few : keeps_14 r (subject_named r s) ≡ true → count_by of_way (event_entries_of r s) ≤ 1
  entries_few keeps =
      let own = filter_map (source_entry r.events (all_targets r.subjects)) s.sources in
      let theirs = filter_map (channel_end_entry r.channels (all_readers r)) (channel_ends_of r s) in
      let joined : count_by of_way (own ++ theirs) ≡ count_by of_way own + count_by of_way theirs = sum_by-append (λ e. cond (of_way e) 1 0) own theirs in
      let few : count_by (λ (e : NamedSource). same_way e.way way) (map (source_named r) s.sources) + count_by (λ (e : ChannelEnd). writes_by e e.role way) (channel_ends (source_of r) (subject_named r s)) ≤ 1 =
      way_once (source_of r) (subject_named r s) keeps way in
      let named = ap (count_by (λ (e : ChannelEnd). writes_by e e.role way)) (ends_by_index r s q in_range) in
      let sources = by_sources in
      let ends = by_ends in
      omega (arith, joined, few, named, sources, ends)

-- the entries of a subject have each way once at most
pub entries_once : (r : Resolution) (k : ℕ) (s : Subject) → IsResolved r → offence_14 (source_of r) ≡ None → offence_15 (source_of r) ≡ None → slice_get r.subjects k ≡ Some s → subject_in_range r s ≡ true
    → (way : SourceWay) → count_by (λ e. is_way way e.way) (event_entries_of r s) ≤ 1
entries_once r k s q lawful_14 lawful_15 at in_range way =
    entries_few r q s in_range way (passes_at (λ s. keeps_14 r (subject_named r s)) r.subjects k s (all_14 r q lawful_14 lawful_15) at)
