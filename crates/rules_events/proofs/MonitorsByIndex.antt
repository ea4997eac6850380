-- Rule 24 by names and by indexes.
use Rattle.std.proofs.Common.{◌≡◌, ℕ, ◌<◌, Bool, true, List, [], ◌∷◌, ◌++◌, length, map, Option, Some, None, refl, sym, ap, ◌∙◌, arith}
use Rattle.std.specs.Prelude.{◌==◌, ◌&&◌, ◌||◌, nat_lt, slice_get, option_map}
use Rattle.std.specs.Option.{option_or}
use Rattle.std.specs.List.{find, list_all, list_any}
use Rattle.std.specs.Str.{bytes_eq}
use Rattle.std.proofs.lemmas.Bool.{and_from, and_parts, ltb-true}
use Rattle.std.proofs.lemmas.List.{length-map, map_push}
use Rattle.std.proofs.lemmas.List.Folds.{list_all-append}
use Rattle.std.proofs.lemmas.Option.{slice_get_within}
use Rattle.muen_num.specs.Search.{first_in, first_after, unless}
use Rattle.muen_num.proofs.Lists.{find-map, option_map-option_map, there}
use Rattle.muen_num.proofs.SameAnswers.{first_in-map}
use Rattle.policy_lawful.specs.Domains as domains
use Rattle.policy_lawful.specs.Domains.{is_monitor, offence_24}
use Rattle.policy_lawful.specs.Offences.{two}
use Rattle.policy_lawful.specs.Rules.{repeated, subject_cpu}
use Rattle.policy_lawful.specs.Resolution.{Resolution, IsResolved, name_at, source_of, subject_named, subject_in_range}
use Rattle.policy_lawful.specs.declared.resolved.Monitor.{Monitor as ResolvedMonitor}
use Rattle.policy_lawful.specs.declared.resolved.Subject.{Subject as ResolvedSubject}
use Rattle.policy_lawful.proofs.Indexes.{found_at_index, same_name}
use Rattle.policy_lawful.proofs.SourceElements.{parts_in_range}
use Rattle.policy_lawful.proofs.UniqueNames.{subject_names, subjects_unique}
use Rattle.policy_lawful.proofs.WindowsByIndex.{name_of_subject}
use Rattle.policy_lawful.specs.source.Monitor.{Monitor}
use Rattle.rules_events.specs.Monitors.{monitor_offence_after, monitors_offence, is_monitored}

-- a search where each element is held against those before it, over elements that all pass
after_map : {X Y O : Type 0} (f : X → Y) (at : List Y → Y → Option O) (by : List X → X → Option O) (ok : X → Bool)
    → ((before : List X) (x : X) → list_all ok before ≡ true → ok x ≡ true → at (map f before) (f x) ≡ by before x)
    → (before xs : List X) → list_all ok before ≡ true → list_all ok xs ≡ true → first_after at (map f before) (map f xs) ≡ first_after by before xs
after_map f at by ok same before [] had all = refl
after_map f at by ok same before (x ∷ xs) had all =
    let parts = and_parts (ok x) (list_all ok xs) all in
    let more : list_all ok (before ++ x ∷ []) ≡ true =
    list_all-append ok before (x ∷ []) ∙ and_from (list_all ok before) (ok x && true) had (and_from (ok x) true parts.0 refl) in
    ap (λ o. option_or o (first_after at (map f before ++ f x ∷ []) (map f xs))) (same before x had parts.0)
    ∙ ap (λ ys. option_or (by before x) (first_after at ys (map f xs))) (sym (map_push f before x))
    ∙ ap (option_or (by before x)) (after_map f at by ok same (before ++ x ∷ []) xs more parts.1)

abbrev monitor_named : Resolution → ResolvedMonitor → Monitor
monitor_named r m = record { subject = name_at (subject_names r) m.subject; virtual_address = m.virtual_address; rights = m.rights }

is_met : (r : Resolution) (k : ℕ) (before : List ResolvedMonitor) → repeated (subject_names r) ≡ None → k < length r.subjects → list_all (λ m. nat_lt m.subject (length r.subjects)) before ≡ true
    → list_any (λ b. bytes_eq b.subject (name_at (subject_names r) k)) (map (monitor_named r) before) ≡ is_monitored before k
is_met r k [] unique within all = refl
is_met r k (b ∷ bs) unique within all =
    let many : length (subject_names r) ≡ length r.subjects = length-map r.subjects (λ s. s.name) in
    let parts = and_parts (nat_lt b.subject (length r.subjects)) (list_all (λ m. nat_lt m.subject (length r.subjects)) bs) all in
    let here : b.subject < length r.subjects = ltb-true b.subject (length r.subjects) parts.0 in
    ap (λ t. t || list_any (λ b. bytes_eq b.subject (name_at (subject_names r) k)) (map (monitor_named r) bs)) (same_name (subject_names r) b.subject k unique (omega (arith, many, here)) (omega (arith, many, within)))
    ∙ ap (λ t. (b.subject == k) || t) (is_met r k bs unique within parts.1)

-- the CPU of the subject at an index
cpu_at : (r : Resolution) (k : ℕ) (o : ResolvedSubject) → repeated (subject_names r) ≡ None → slice_get r.subjects k ≡ Some o
    → subject_cpu (source_of r) (name_at (subject_names r) k) ≡ Some o.cpu
unfolding source_of
cpu_at r k o unique is =
    ap (option_map (λ s. s.cpu)) (find-map (λ s. bytes_eq s.name (name_at (subject_names r) k)) (subject_named r) r.subjects)
    ∙ option_map-option_map (λ s. s.cpu) (subject_named r) (find (λ s. bytes_eq s.name (name_at (subject_names r) k)) r.subjects)
    ∙ ap (option_map (λ s. s.cpu)) (found_at_index (λ s. s.name) r.subjects k unique (slice_get_within r.subjects k o is) ∙ is)

one_monitor : (r : Resolution) (s : ResolvedSubject) (before : List ResolvedMonitor) (m : ResolvedMonitor) → repeated (subject_names r) ≡ None
    → list_all (λ m. nat_lt m.subject (length r.subjects)) before ≡ true → nat_lt m.subject (length r.subjects) ≡ true
    → unless (is_monitor (source_of r) (subject_named r s) (map (monitor_named r) before) (monitor_named r m)) (two s.name (name_at (subject_names r) m.subject)) ≡ monitor_offence_after r.subjects s before m
one_monitor r s before m unique all in_range =
    let within : m.subject < length r.subjects = ltb-true m.subject (length r.subjects) in_range in
    let other = there r.subjects m.subject within in
    let name : name_at (subject_names r) m.subject ≡ other.0.name = name_of_subject r m.subject other.0 other.1 in
    rw (cpu_at r m.subject other.0 unique other.1, is_met r m.subject before unique within all, name, other.1) refl

monitors_same : (r : Resolution) (s : ResolvedSubject) → repeated (subject_names r) ≡ None → subject_in_range r s ≡ true → domains.monitor_offence (source_of r) (subject_named r s) ≡ monitors_offence r.subjects s
monitors_same r s unique in_range =
    after_map (monitor_named r)
    (λ before m. unless (is_monitor (source_of r) (subject_named r s) before m) (two s.name m.subject))
    (monitor_offence_after r.subjects s)
    (λ m. nat_lt m.subject (length r.subjects))
    (λ before m all one. one_monitor r s before m unique all one)
    [] s.monitors refl (and_parts _ _ in_range).1

pub monitors_by_index : (r : Resolution) → IsResolved r → first_in (monitors_offence r.subjects) r.subjects ≡ offence_24 (source_of r)
unfolding offence_24 source_of
monitors_by_index r resolved =
    let unique = subjects_unique r resolved.names in
    let in_range = (parts_in_range r resolved.in_range).subjects in
    sym (first_in-map (subject_named r) (domains.monitor_offence (source_of r)) (monitors_offence r.subjects) (subject_in_range r) (λ s ok. monitors_same r s unique ok) r.subjects in_range)
