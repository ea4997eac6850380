-- The group of a subject, by its name and by its index.
use Rattle.std.proofs.Common.{◌≡◌, ◌∙◌, sym, ap, arith, ℕ, ◌<◌, Bool, true, length, map, Option, Some, None}
use Rattle.std.specs.Prelude.{◌==◌, nat_lt, option_map, position, slice_get}
use Rattle.std.specs.List.{count_by, list_any, position_or_len}
use Rattle.std.specs.Str.{bytes_eq}
use Rattle.std.proofs.lemmas.Bool.{eqb-true, ltb-true}
use Rattle.std.proofs.lemmas.List.{length-map}
use Rattle.std.proofs.lemmas.Option.{slice_get-map, slice_get_within}
use Rattle.expand_grants.proofs.Counted.{uncounted}
use Rattle.muen_num.proofs.Lists.{any_same, list_any-map, passes_at, position-map}
use Rattle.muen_num.proofs.Lookups.{index_same, position_there, some_passes}
use Rattle.policy_lawful.proofs.Indexes.{same_name}
use Rattle.policy_lawful.proofs.KeptMembers.{members_kept}
use Rattle.policy_lawful.proofs.KeptRules.{rules_of}
use Rattle.policy_lawful.proofs.SourceElements.{parts_in_range}
use Rattle.policy_lawful.proofs.UniqueNames.{subject_names, subjects_unique}
use Rattle.policy_lawful.proofs.WindowsByIndex.{name_of_subject}
use Rattle.policy_lawful.specs.Frames.{group_of}
use Rattle.policy_lawful.specs.Lawful.{IsLawful}
use Rattle.policy_lawful.specs.Resolution.{IsResolved, Resolution, group_named, group_in_range, name_at, source_of, subject_named}
use Rattle.policy_lawful.specs.Rules.{repeated, times_listed}
use Rattle.policy_lawful.specs.declared.resolved.Group.{Group as ResolvedGroup}
use Rattle.policy_lawful.specs.declared.resolved.Subject.{Subject}
use Rattle.policy_lawful.specs.source.Group.{Group}

-- a group lists the name of a subject just where it has the subject's index
lists_alike : (r : Resolution) (k : ℕ) → repeated (subject_names r) ≡ None → k < length r.subjects → (g : ResolvedGroup) → group_in_range r g ≡ true
    → list_any (λ n. bytes_eq n (name_at (subject_names r) k)) (map (name_at (subject_names r)) g.subjects) ≡ list_any (λ n. n == k) g.subjects
lists_alike r k unique within g placed =
    let names = subject_names r in
    let many : length names ≡ length r.subjects = length-map r.subjects (λ s. s.name) in
    list_any-map (λ n. bytes_eq n (name_at names k)) (name_at names) g.subjects
    ∙ any_same (λ i. bytes_eq (name_at names i) (name_at names k)) (λ i. i == k) (λ i. nat_lt i (length r.subjects))
    (λ i ok. let l : i < length r.subjects = ltb-true i (length r.subjects) ok in same_name names i k unique (omega (arith, l, many)) (omega (arith, within, many)))
    g.subjects placed

-- it has the subject at an index
abbrev pub has_index : ℕ → ResolvedGroup → Bool
has_index k g = list_any (λ n. n == k) g.subjects

-- the number of the first group that has it
abbrev pub group_with : Resolution → ℕ → Option ℕ
group_with r k = position (has_index k) r.scheduling.groups

module _ (r : Resolution) (resolved : IsResolved r) where
  -- the group of a subject, by name and by index: there is one
  pub in_group : IsLawful (source_of r) → (k : ℕ) (s : Subject) → slice_get r.subjects k ≡ Some s → (group_of (source_of r) s.name ≡ group_with r k) × (group_with r k ≡ Some (position_or_len (has_index k) r.scheduling.groups))
  unfolding source_of
  in_group lawful k s at =
      let groups = map (group_named r) r.scheduling.groups in
      let test : Group → Bool = λ g. list_any (λ n. bytes_eq n s.name) g.subjects in
      let has : ResolvedGroup → Bool = has_index k in
      let unique = subjects_unique r resolved.names in
      let within = slice_get_within r.subjects k s at in
      let kept = members_kept (source_of r) (rules_of lawful).rule_17 in
      let once : times_listed (source_of r) s.name ≡ 1 =
      eqb-true (times_listed (source_of r) s.name) 1
      (passes_at (λ x. times_listed (source_of r) x.name == 1) (source_of r).subjects k (subject_named r s) kept.once (slice_get-map (subject_named r) r.subjects k ∙ ap (option_map (subject_named r)) at)) in
      let some : position_or_len test groups < length groups =
      some_passes test (λ g. count_by (λ n. bytes_eq n s.name) g.subjects) (λ g. uncounted (λ n. bytes_eq n s.name) g.subjects) groups (omega (arith, once)) in
      let many : length groups ≡ length r.scheduling.groups = length-map r.scheduling.groups (group_named r) in
      let alike : (g : ResolvedGroup) → group_in_range r g ≡ true → test (group_named r g) ≡ has g = λ g ok.
      ap (λ name. list_any (λ n. bytes_eq n name) (group_named r g).subjects) (sym (name_of_subject r k s at)) ∙ lists_alike r k unique within g ok in
      let same : position_or_len test groups ≡ position_or_len has r.scheduling.groups =
      position-map test (group_named r) r.scheduling.groups
      ∙ index_same (λ g. test (group_named r g)) has (group_in_range r) alike r.scheduling.groups (parts_in_range r resolved.in_range).groups in
      let there = position_there has r.scheduling.groups (omega (arith, some, many, same)) in
      (position_there test groups some ∙ ap Some same ∙ sym there, there)
