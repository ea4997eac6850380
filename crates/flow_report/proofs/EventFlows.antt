-- Flows by the events of sources, by names and by indexes.
use Rattle.std.proofs.Common.{◌≡◌, ℕ, ◌<◌, Bool, true, false, cond, List, [], ◌∷◌, ◌++◌, length, map, filter, Option, Some, None, refl, sym, ap, ◌∙◌, arith}
use Rattle.std.specs.Prelude.{◌==◌, ◌||◌, nat_lt, option_and_then, option_map, slice_get}
use Rattle.std.specs.Option.{option_map_or}
use Rattle.std.specs.List.{filter_map, find, flat_map, list_all, list_any, position, position_or_len}
use Rattle.std.specs.Str.{bytes_eq}
use Rattle.std.proofs.lemmas.Bool.{and_parts, ltb-false, ltb-true}
use Rattle.std.proofs.lemmas.List.{length-map}
use Rattle.std.proofs.lemmas.List.Folds.{find_at}
use Rattle.std.proofs.lemmas.Option.{slice_get_past}
use Rattle.muen_num.specs.declared.mode.EventMode.{EventMode}
use Rattle.muen_num.proofs.Lists.{find-map, found_among, list_any-map, there}
use Rattle.policy_lawful.specs.Resolution.{IsResolved, Resolution, name_at, source_of, subject_named, subject_in_range}
use Rattle.policy_lawful.specs.declared.resolved.EventSource.{EventSource as ResolvedSource}
use Rattle.policy_lawful.specs.declared.resolved.EventTarget.{EventTarget as ResolvedTarget}
use Rattle.policy_lawful.specs.declared.resolved.Subject.{Subject}
use Rattle.policy_lawful.proofs.Indexes.{found_at_index, same_name}
use Rattle.policy_lawful.proofs.SourceElements.{parts_in_range}
use Rattle.policy_lawful.proofs.UniqueNames.{event_names, events_unique}
use Rattle.policy_lawful.specs.Events.{Target, event_targets, named_event, same_way}
use Rattle.policy_lawful.specs.source.Event.{Event}
use Rattle.policy_lawful.specs.source.EventSource.{EventSource}
use Rattle.policy_lawful.specs.source.EventTarget.{EventTarget}
use Rattle.policy_lawful.specs.source.SourceWay.{SourceWay}
use Rattle.policy_lawful.specs.source.Subject.{Subject as NamedSubject}
use Rattle.policy_lawful.proofs.WindowsByIndex.{name_there}
use Rattle.policy_flows.specs.Flows.{reaches}
use Rattle.policy_flows.proofs.EventWays.{by_source}
use Rattle.muen_num.proofs.Members.{any_agree}
use Rattle.flow_report.specs.ByIndex.{first_target, reached_by}
use Rattle.muen_num.specs.Numbers.{is_among}
use Rattle.policy_flows.proofs.EventWaysFlow.{by_sources}
use Rattle.flow_report.proofs.IndexesOfSubjects.{At, any_filter_map, same_subject}

abbrev source_named : Resolution → ResolvedSource → EventSource
source_named r e = record { event = name_at (event_names r) e.event; way = e.way }

abbrev target_named : Resolution → ResolvedTarget → EventTarget
target_named r e = record { event = name_at (event_names r) e.event; vector = e.vector }

same_event : (r : Resolution) → IsResolved r → (j k : ℕ) → nat_lt j (length r.events) ≡ true → nat_lt k (length r.events) ≡ true → bytes_eq (name_at (event_names r) j) (name_at (event_names r) k) ≡ (j == k)
same_event r q j k a b =
    let many : length (event_names r) ≡ length r.events = length-map r.events (λ c. c.name) in
    let left : j < length r.events = ltb-true j (length r.events) a in
    let right : k < length r.events = ltb-true k (length r.events) b in
    same_name (event_names r) j k (events_unique r q) (omega (arith, many, left)) (omega (arith, many, right))

targets_in_range : (r : Resolution) (t : Subject) → subject_in_range r t ≡ true → list_all (λ e. nat_lt e.event (length r.events)) t.targets ≡ true
targets_in_range r t ok = (and_parts _ _ (and_parts _ _ ok).0).1

sources_in_range : (r : Resolution) (t : Subject) → subject_in_range r t ≡ true → list_all (λ e. nat_lt e.event (length r.events)) t.sources ≡ true
sources_in_range r t ok = (and_parts _ _ (and_parts _ _ (and_parts _ _ ok).0).0).1

-- the target is the subject of this name
abbrev hits : List ℕ → Option Target → Bool
hits name o = option_map_or (λ t. bytes_eq t.subject name) o false

reaches_mode : (m : EventMode) (o : Option Target) (name : List ℕ) → reaches (option_map (λ t. record { mode = m; target = t }) o) name ≡ hits name o
reaches_mode m None name = refl
reaches_mode m (Some t) name = refl

module _ (r : Resolution) (q : IsResolved r) (j : ℕ) (s : Subject) (h : At r j s) where
  -- the targets of the event at an index among a subject's, before others
  abbrev targets_here : ℕ → List ℕ → List ResolvedTarget → List Target
  targets_here k owner ts = map (λ e. record { subject = owner; vector = e.vector }) (filter (λ e. bytes_eq e.event (name_at (event_names r) k)) (map (target_named r) ts))

  first_here : (k : ℕ) → nat_lt k (length r.events) ≡ true → (owner : List ℕ) (rest : List Target) (ts : List ResolvedTarget) → list_all (λ e. nat_lt e.event (length r.events)) ts ≡ true
      → hits s.name (slice_get (targets_here k owner ts ++ rest) 0) ≡ cond (list_any (λ e. e.event == k) ts) (bytes_eq owner s.name) (hits s.name (slice_get rest 0))
  first_here k l owner rest [] all = refl
  first_here k l owner rest (t ∷ ts) all =
      let parts = and_parts (nat_lt t.event (length r.events)) (list_all (λ (e : ResolvedTarget). nat_lt e.event (length r.events)) ts) all in
      let later = first_here k l owner rest ts parts.1 in
      let own : List Target = record { subject = owner; vector = t.vector } ∷ targets_here k owner ts in
      let others = filter (λ (e : EventTarget). bytes_eq e.event (name_at (event_names r) k)) (map (target_named r) ts) in
      let to : EventTarget → Target = λ e. record { subject = owner; vector = e.vector } in
      ap (λ b. hits s.name (slice_get (map to (cond b (target_named r t ∷ others) others) ++ rest) 0)) (same_event r q t.event k parts.0 l)
      ∙ elim (t.event == k) as (λ b. hits s.name (slice_get (map to (cond b (target_named r t ∷ others) others) ++ rest) 0) ≡ cond (b || list_any (λ (e : ResolvedTarget). e.event == k) ts) (bytes_eq owner s.name) (hits s.name (slice_get rest 0))) [
        | true ↦ refl
        | false ↦ later
      ]

  -- the first of all is of the first subject that is_among one
  first_of_all : (k : ℕ) → nat_lt k (length r.events) ≡ true → (ts : List Subject) → list_all (subject_in_range r) ts ≡ true
      → hits s.name (slice_get (flat_map (λ t. map (λ e. record { subject = t.name; vector = e.vector }) (filter (λ e. bytes_eq e.event (name_at (event_names r) k)) t.targets)) (map (subject_named r) ts)) 0)
      ≡ option_map_or (λ t. bytes_eq t.name s.name) (find (λ t. list_any (λ e. e.event == k) t.targets) ts) false
  first_of_all k l [] all = refl
  first_of_all k l (t ∷ ts) all =
      let parts = and_parts (subject_in_range r t) (list_all (subject_in_range r) ts) all in
      let to : NamedSubject → List Target = λ t. map (λ e. record { subject = t.name; vector = e.vector }) (filter (λ e. bytes_eq e.event (name_at (event_names r) k)) t.targets) in
      let rest : List Target = flat_map to (map (subject_named r) ts) in
      let later : hits s.name (slice_get rest 0) ≡ option_map_or (λ t. bytes_eq t.name s.name) (find (λ t. list_any (λ e. e.event == k) t.targets) ts) false = first_of_all k l ts parts.1 in
      first_here k l t.name rest t.targets (targets_in_range r t parts.0)
      ∙ elim (list_any (λ e. e.event == k) t.targets) as (λ b. cond b (bytes_eq t.name s.name) (hits s.name (slice_get rest 0)) ≡ option_map_or (λ (t : Subject). bytes_eq t.name s.name) (cond b (Some t) (find (λ (t : Subject). list_any (λ e. e.event == k) t.targets) ts)) false) [
        | true ↦ refl
        | false ↦ later
      ]

  -- which is found by its name or by its index
  target_found : (test : Subject → Bool) → option_map_or (λ t. bytes_eq t.name s.name) (find test r.subjects) false ≡ option_map_or (λ y. y == j) (position test r.subjects) false
  target_found test =
      let n = position_or_len test r.subjects in
      ap (λ o. option_map_or (λ (t : Subject). bytes_eq t.name s.name) o false) (find_at test r.subjects)
      ∙ elim (nat_lt n (length r.subjects)) as (λ b. nat_lt n (length r.subjects) ≡ b → option_map_or (λ (t : Subject). bytes_eq t.name s.name) (slice_get r.subjects n) false ≡ option_map_or (λ y. y == j) (cond b (Some n) None) false) [
        | true ↦ λ e.
            let l = ltb-true n (length r.subjects) e in
            let t = there r.subjects n l in
            ap (λ o. option_map_or (λ (t : Subject). bytes_eq t.name s.name) o false) t.1
            ∙ ap (λ name. bytes_eq name s.name) (sym (name_there (λ (t : Subject). t.name) r.subjects n t.0 t.1))
            ∙ same_subject r q n j s h l
        | false ↦ λ e. ap (λ o. option_map_or (λ (t : Subject). bytes_eq t.name s.name) o false) (slice_get_past r.subjects n (ltb-false n (length r.subjects) e))
      ] refl

  -- the event at an index reaches the subject
  event_same : (k : ℕ) → nat_lt k (length r.events) ≡ true → reaches (named_event (source_of r) (name_at (event_names r) k)) s.name ≡ option_map_or (λ y. y == j) (first_target r.subjects k) false
  unfolding source_of
  event_same k l =
      let within = ltb-true k (length r.events) l in
      let e = there r.events k within in
      let found = found_at_index (λ (x : Event). x.name) r.events k (events_unique r q) within ∙ e.1 in
      let first = slice_get (event_targets (source_of r) (name_at (event_names r) k)) 0 in
      ap (λ o. reaches (option_and_then (λ (e : Event). option_map (λ t. record { mode = e.mode; target = t }) first) o) s.name) found
      ∙ reaches_mode e.0.mode first s.name
      ∙ first_of_all k l r.subjects (parts_in_range r q.in_range).subjects
      ∙ target_found (λ t. list_any (λ e. e.event == k) t.targets)

  raised_same : (u : Subject) (way : SourceWay) → list_all (λ e. nat_lt e.event (length r.events)) u.sources ≡ true
      → reaches (by_source (source_of r) (subject_named r u) way) s.name ≡ option_map_or (λ y. y == j) (reached_by r.subjects u.sources way) false
  raised_same u way in_range =
      let test : ResolvedSource → Bool = λ e. same_way e.way way in
      let by : Option EventSource → Bool = λ o. reaches (option_and_then (λ e. named_event (source_of r) e.event) o) s.name in
      ap by (find-map (λ (e : EventSource). same_way e.way way) (source_named r) u.sources)
      ∙ elim (find test u.sources) as (λ o. find test u.sources ≡ o → by (option_map (source_named r) o) ≡ option_map_or (λ y. y == j) (option_and_then (first_target r.subjects) (option_map (λ (e : ResolvedSource). e.event) o)) false) [
        | None ↦ λ e. refl
        | Some x ↦ λ e. event_same x.event (found_among test (λ (e : ResolvedSource). nat_lt e.event (length r.events)) u.sources x e in_range)
      ] refl

  pub sources_same : (u : Subject) → subject_in_range r u ≡ true → by_sources (source_of r) (subject_named r u) (subject_named r s) ≡ is_among (filter_map (λ e. reached_by r.subjects u.sources e.way) u.sources) j
  sources_same u in_range =
      let own = sources_in_range r u in_range in
      list_any-map (λ (e : EventSource). reaches (by_source (source_of r) (subject_named r u) e.way) s.name) (source_named r) u.sources
      ∙ any_agree (λ (e : ResolvedSource). reaches (by_source (source_of r) (subject_named r u) e.way) s.name) (λ e. option_map_or (λ y. y == j) (reached_by r.subjects u.sources e.way) false) u.sources
      (λ e _. raised_same u e.way own)
      ∙ sym (any_filter_map (λ y. y == j) (λ (e : ResolvedSource). reached_by r.subjects u.sources e.way) u.sources)
