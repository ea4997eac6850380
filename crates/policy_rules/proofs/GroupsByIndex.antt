-- Rule 17 of a resolved policy is that of its source policy: a subject is told by its name or by its index.
use Rattle.std.proofs.Common.{◌≡◌, ℕ, ◌+◌, ◌<◌, min, true, cond, List, length, map, Some, None, sym, ap, ◌∙◌, arith}
use Rattle.std.specs.Prelude.{◌==◌, ◌&&◌, not, nat_lt, slice_get, slice_index, option_map}
use Rattle.std.specs.List.{find, list_all, count_by, enumerate_from}
use Rattle.std.specs.Str.{bytes_eq}
use Rattle.std.proofs.lemmas.Bool.{ltb-true}
use Rattle.std.proofs.lemmas.Bool.Decides.{nat_tests}
use Rattle.std.proofs.lemmas.List.{length-map}
use Rattle.std.proofs.lemmas.List.Folds.{list_all-map}
use Rattle.std.proofs.lemmas.Option.{slice_get_within}
use Rattle.muen_num.specs.Search.{first_in, unless}
use Rattle.muen_num.proofs.Lists.{find-map, option_map-option_map, sum_by-map}
use Rattle.muen_num.proofs.SearchLaws.{first_over-map, option_or-None}
use Rattle.policy_lawful.specs.Counts.{times_among}
use Rattle.policy_lawful.specs.Offences.{alone}
use Rattle.policy_lawful.specs.Rules as rules
use Rattle.policy_lawful.specs.Rules.{repeated, subject_cpu, is_on, times_listed, offence_17}
use Rattle.policy_lawful.specs.Resolution.{Resolution, IsResolved, name_at, source_of, subject_named, group_named, group_in_range}
use Rattle.policy_lawful.specs.declared.resolved.Subject.{Subject as ResolvedSubject}
use Rattle.policy_lawful.specs.declared.resolved.Group.{Group as ResolvedGroup}
use Rattle.policy_lawful.proofs.Indexes.{found_at_index, same_name}
use Rattle.policy_lawful.proofs.SourceElements.{parts_in_range}
use Rattle.policy_lawful.proofs.UniqueNames.{subject_names, subjects_unique}
use Rattle.policy_lawful.proofs.WindowsByIndex.{name_of_subject}
use Rattle.policy_rules.specs.Groups.{cpu_of_subject, is_subject_on_cpu, is_resolved_group, group_offence, times_in, member_offence, AreMemberCounts, groups_offence, counted_offence}
use Rattle.muen_num.proofs.SameAnswers.{first_in-map, first_numbered_same, both_numbered, list_all_same, some_items, sum_by_same}

subject_at_index : (r : Resolution) (index : ℕ) → repeated (subject_names r) ≡ None → index < length r.subjects
    → subject_cpu (source_of r) (name_at (subject_names r) index) ≡ cpu_of_subject r.subjects index
unfolding source_of
subject_at_index r index unique within =
    ap (option_map (λ s. s.cpu)) (find-map (λ s. bytes_eq s.name (name_at (subject_names r) index)) (subject_named r) r.subjects)
    ∙ option_map-option_map (λ s. s.cpu) (subject_named r) (find (λ s. bytes_eq s.name (name_at (subject_names r) index)) r.subjects)
    ∙ ap (option_map (λ s. s.cpu)) (found_at_index (λ s. s.name) r.subjects index unique within)

same_group : (r : Resolution) (g : ResolvedGroup) → repeated (subject_names r) ≡ None → group_in_range r g ≡ true → rules.is_group (source_of r) (group_named r g) ≡ is_resolved_group r.subjects g
same_group r g unique in_range =
    let member : (index : ℕ) → nat_lt index (length r.subjects) ≡ true → is_on (subject_cpu (source_of r) (name_at (subject_names r) index)) g.cpu ≡ is_subject_on_cpu r.subjects g.cpu index =
    λ index ok. ap (λ o. is_on o g.cpu) (subject_at_index r index unique (ltb-true index (length r.subjects) ok)) in
    let members : list_all (λ name. is_on (subject_cpu (source_of r) name) g.cpu) (map (name_at (subject_names r)) g.subjects) ≡ list_all (is_subject_on_cpu r.subjects g.cpu) g.subjects =
    list_all-map (λ name. is_on (subject_cpu (source_of r) name) g.cpu) (name_at (subject_names r)) g.subjects
    ∙ list_all_same (λ index. is_on (subject_cpu (source_of r) (name_at (subject_names r) index)) g.cpu) (is_subject_on_cpu r.subjects g.cpu) (λ index. nat_lt index (length r.subjects)) member g.subjects in_range in
    ap (λ b. b && list_all (λ name. is_on (subject_cpu (source_of r) name) g.cpu) (map (name_at (subject_names r)) g.subjects)) (some_items (name_at (subject_names r)) g.subjects)
    ∙ ap (λ b. not (length g.subjects == 0) && b) members

same_times : (r : Resolution) (k : ℕ) → repeated (subject_names r) ≡ None → k < length r.subjects → list_all (group_in_range r) r.scheduling.groups ≡ true
    → times_listed (source_of r) (name_at (subject_names r) k) ≡ times_in r.scheduling.groups k
unfolding source_of
same_times r k unique within in_range =
    let names = subject_names r in
    let many : length names ≡ length r.subjects = length-map r.subjects (λ s. s.name) in
    let one : (i : ℕ) → nat_lt i (length r.subjects) ≡ true → cond (bytes_eq (name_at names i) (name_at names k)) 1 0 ≡ cond (i == k) 1 0 = λ i ok.
    let l : i < length r.subjects = ltb-true i (length r.subjects) ok in
    ap (λ b. cond b 1 0) (same_name names i k unique (omega arith) (omega arith)) in
    let among : (g : ResolvedGroup) → group_in_range r g ≡ true → count_by (λ n. bytes_eq n (name_at names k)) (map (name_at names) g.subjects) ≡ times_among g.subjects k = λ g ok.
    sum_by-map (λ n. cond (bytes_eq n (name_at names k)) 1 0) (name_at names) g.subjects
    ∙ sum_by_same (λ i. cond (bytes_eq (name_at names i) (name_at names k)) 1 0) (λ i. cond (i == k) 1 0) (λ i. nat_lt i (length r.subjects)) one g.subjects ok in
    sum_by-map (λ g. count_by (λ n. bytes_eq n (name_at names k)) g.subjects) (group_named r) r.scheduling.groups
    ∙ sum_by_same (λ g. count_by (λ n. bytes_eq n (name_at names k)) (map (name_at names) g.subjects)) (λ g. times_among g.subjects k) (group_in_range r) among r.scheduling.groups in_range

same_member : (r : Resolution) → repeated (subject_names r) ≡ None → list_all (group_in_range r) r.scheduling.groups ≡ true → (k : ℕ) (s : ResolvedSubject) → slice_get r.subjects k ≡ Some s
    → unless (times_listed (source_of r) s.name == 1) (alone s.name) ≡ member_offence r.scheduling.groups (0 + k, s)
same_member r unique in_range k s at =
    let within : k < length r.subjects = slice_get_within r.subjects k s at in
    let times : times_listed (source_of r) s.name ≡ times_in r.scheduling.groups (0 + k) =
    ap (times_listed (source_of r)) (sym (name_of_subject r k s at)) ∙ same_times r k unique within in_range ∙ ap (times_in r.scheduling.groups) (omega arith) in
    ap (λ n. unless (n == 1) (alone s.name)) times

pub groups_by_index : (r : Resolution) → IsResolved r
    → groups_offence r.subjects r.scheduling.groups ≡ offence_17 (source_of r)
unfolding offence_17 source_of
groups_by_index r resolved =
    let unique = subjects_unique r resolved.names in
    let in_range = (parts_in_range r resolved.in_range).groups in
    let first : first_in (λ g. unless (rules.is_group (source_of r) g) (alone g.name)) (map (group_named r) r.scheduling.groups) ≡ first_in (group_offence r.subjects) r.scheduling.groups =
    first_in-map (group_named r) (λ g. unless (rules.is_group (source_of r) g) (alone g.name)) (group_offence r.subjects) (group_in_range r)
    (λ g ok. ap (λ b. unless b (alone g.name)) (same_group r g unique ok)) r.scheduling.groups in_range in
    let later : first_in (λ s. unless (times_listed (source_of r) s.name == 1) (alone s.name)) (map (subject_named r) r.subjects) ≡ first_in (member_offence r.scheduling.groups) (enumerate_from 0 r.subjects) =
    first_over-map (subject_named r) (λ s. unless (times_listed (source_of r) s.name == 1) (alone s.name)) r.subjects
    ∙ first_numbered_same (λ s. unless (times_listed (source_of r) s.name == 1) (alone s.name)) (member_offence r.scheduling.groups) 0 r.subjects (same_member r unique in_range) in
    simp (option_or-None, first, later)

-- counts up to 2 tell which subject isn't listed once
once : (m n : ℕ) → min 2 m ≡ min 2 n → (m == 1) ≡ (n == 1)
once m n h = grind (arith, nat_tests)

pub by_counts : (subjects : List ResolvedSubject) (groups : List ResolvedGroup) (times : List ℕ)
    → AreMemberCounts times (length subjects) groups
    → first_in (counted_offence times) (enumerate_from 0 subjects) ≡ first_in (member_offence groups) (enumerate_from 0 subjects)
by_counts subjects groups times counted =
    let same : (k : ℕ) (s : ResolvedSubject) → k < length subjects → counted_offence times (0 + k, s) ≡ member_offence groups (0 + k, s) = λ k s l.
    let e : 0 + k ≡ k = omega arith in
    ap (λ i. counted_offence times (i, s)) e
    ∙ ap (λ b. unless b (alone s.name)) (once (slice_index times k) (times_in groups k) (counted k l))
    ∙ sym (ap (λ i. member_offence groups (i, s)) e) in
    both_numbered (counted_offence times) (member_offence groups) 0 subjects same
