-- The counts, the choice, the groups and the major frames of the image that is made keep the conditions of an image.
use Rattle.std.proofs.Common.{◌≡◌, ◌∙◌, refl, sym, ap, subst, arith, ℕ, ◌<◌, ◌≤◌, Bool, true, inl, inr, List, [], ◌∷◌, length, get_or, Some, None}
use Rattle.std.specs.Prelude.{◌==◌, nat_le, nat_lt, option_and_then, position, slice_get, slice_index}
use Rattle.std.specs.List.{All, Contains, count_by, list_all, position_or_len, sum_by}
use Rattle.std.specs.Str.{bytes_eq}
use Rattle.std.proofs.lemmas.Bool.{and_from, and_parts, cases_order, eqb-true, le-leb, leb-true, ltb-true}
use Rattle.std.proofs.lemmas.List.{get_or_default, length-map}
use Rattle.std.proofs.lemmas.List.Sorted.{Contains-permutation, length_permutation}
use Rattle.std.proofs.lemmas.List.Sums.{AllPass-from_list_all}
use Rattle.std.proofs.lemmas.Option.{get_or_from_slice_get, slice_get_within}
use Rattle.expand_kernel.specs.Regions.{region_of}
use Rattle.image_emit.proofs.PlanChoice.{first_index, is_memory}
use Rattle.image_emit.proofs.PlanSubjects.{names_in_image}
use Rattle.image_emit.proofs.SpansAt.{region_at}
use Rattle.image_emit.proofs.SpansOfKernel.{placed_of}
use Rattle.image_emit.specs.Made.{IsMade, Made, image_of, policy_of}
use Rattle.image_pack.specs.Codes.{is_own}
use Rattle.image_pack.specs.Image.{is_between_inclusive}
use Rattle.image_pack.specs.ImageConditions.{AreCounted, IsChoice, IsGroup}
use Rattle.image_pack.specs.SpanConditions.{HaveDifferentNumbers}
use Rattle.image_pack.specs.declared.parts.SpanPart.{SpanPart}
use Rattle.image_pack.specs.Plan.{cpus_of, is_major, is_plan}
use Rattle.image_pack.specs.plan.Plan.{Plan}
use Rattle.image_soundness.proofs.DevicesOf.{devices_long}
use Rattle.muen_num.proofs.Lists.{there}
use Rattle.muen_num.proofs.Lookups.{position_there}
use Rattle.muen_num.specs.declared.limits.TheConstants.{MOST_CPUS, MOST_MAJOR_FRAMES, MOST_SUBJECTS}
use Rattle.policy_lawful.proofs.KeptCpus.{cpus_kept}
use Rattle.policy_lawful.proofs.KeptLimits.{limits_kept}
use Rattle.policy_lawful.proofs.KeptMembers.{members_kept}
use Rattle.policy_lawful.proofs.KeptRules.{rules_of}
use Rattle.policy_lawful.proofs.SourceElements.{many_subjects}
use Rattle.policy_lawful.specs.Resolution.{source_of}
use Rattle.policy_lawful.specs.Rules.{times_listed}
use Rattle.policy_lawful.specs.Thing.{region_item}
use Rattle.policy_lawful.specs.source.Group.{Group}
use Rattle.policy_lawful.specs.source.Region.{Region as SourceRegion}
use Rattle.policy_lawful.specs.source.Source.{Source}
use Rattle.policy_lawful.specs.source.Subject.{Subject}
use Rattle.policy_lawful.specs.source.Tau0.{Tau0}
use Rattle.region_alloc.proofs.OwnRegions.{region_at as memory_at}
use Rattle.span_emit.specs.Spans.{region_span}
use Rattle.span_emit.specs.SpansOf.{spans_of}

pub between : (low high n : ℕ) → low ≤ n → n ≤ high → is_between_inclusive low high n ≡ true
between low high n a b = and_from (nat_le low n) (nat_le n high) (le-leb low n a) (le-leb n high b)

-- ---- how many of each

-- as many subjects as the policy has
pub subjects_many : (m : Made) → IsMade m → length (image_of m).subjects ≡ length (policy_of m).subjects
subjects_many m h =
    sym (length-map (image_of m).subjects (λ s. s.name)) ∙ ap length (names_in_image m h) ∙ length-map (policy_of m).subjects (λ s. s.name)

-- as many groups
pub groups_many : (m : Made) → IsMade m → length m.plan.groups ≡ length (source_of (policy_of m)).scheduling.groups
groups_many m h =
    let p = source_of (policy_of m) in
    sym (length-map m.plan.groups (λ g. g.cpu)) ∙ ap length h.plan.groups ∙ length-map p.scheduling.groups (λ g. g.cpu)

-- and as many devices
pub devices_many : (m : Made) → IsMade m → length m.devices ≡ length (policy_of m).devices
devices_many m h = devices_long (policy_of m) (length m.placed.expanded.regions) (policy_of m).devices m.devices h.devices

-- a subject is listed in some group, so there is one
some_group : (p : Source) (ss : List Subject) → 1 ≤ length ss → list_all (λ s. times_listed p s.name == 1) ss ≡ true → (gs : List Group) → p.scheduling.groups ≡ gs → 1 ≤ length gs
some_group p [] l h gs is = absurd (omega (arith, l))
some_group p (s ∷ ss) l h (g ∷ gs) is = omega arith
some_group p (s ∷ ss) l h [] is =
    let once : times_listed p s.name ≡ 1 = eqb-true (times_listed p s.name) 1 (and_parts (times_listed p s.name == 1) (list_all (λ s. times_listed p s.name == 1) ss) h).0 in
    let none : times_listed p s.name ≡ 0 = ap (sum_by (λ (g : Group). count_by (λ n. bytes_eq n s.name) g.subjects)) is in
    absurd (omega (arith, once, none))

-- ---- the plan

-- what the test of a plan says, part by part
pub record IsValid (p : Plan) : Type 0 where
  pub some_majors : 0 < length p.majors
  pub most_majors : length p.majors ≤ MOST_MAJOR_FRAMES
  pub groups : list_all (λ g. nat_lt g.cpu (cpus_of p)) p.groups ≡ true
  pub majors : list_all (is_major p.groups (cpus_of p)) p.majors ≡ true

valid : (p : Plan) → is_plan p ≡ true → IsValid p
unfolding is_plan
valid p h =
    let f = and_parts _ (list_all (is_major p.groups (cpus_of p)) p.majors) h in
    let e = and_parts _ (list_all (λ g. nat_lt g.cpu (cpus_of p)) p.groups) f.0 in
    let d = and_parts _ (nat_le (length p.majors) MOST_MAJOR_FRAMES) e.0 in
    let c = and_parts _ (nat_lt 0 (length p.majors)) d.0 in
    record {
      some_majors = ltb-true 0 (length p.majors) c.1;
      most_majors = leb-true (length p.majors) MOST_MAJOR_FRAMES d.1;
      groups = e.1;
      majors = f.1;
    }

-- ---- counts

module _ (m : Made) (h : IsMade m) where
  cpus_are : cpus_of m.plan ≡ (policy_of m).processor.logical_cpus
  unfolding source_of
  cpus_are = h.plan.cpus

  few_cpus : is_between_inclusive 1 MOST_CPUS (policy_of m).processor.logical_cpus ≡ true
  unfolding source_of
  few_cpus = let k = cpus_kept (source_of (policy_of m)) (rules_of h.lawful).rule_3 in between 1 MOST_CPUS (policy_of m).processor.logical_cpus k.some k.most

  few_subjects : is_between_inclusive 1 MOST_SUBJECTS (length (image_of m).subjects) ≡ true
  few_subjects =
      let k = limits_kept (source_of (policy_of m)) (rules_of h.lawful).rule_20 in
      let some = k.some_subjects in
      let most : length (source_of (policy_of m)).subjects ≤ 32 = k.most_subjects in
      let many = many_subjects (policy_of m) in
      let parts = subjects_many m h in
      between 1 MOST_SUBJECTS (length (image_of m).subjects) (omega (arith, some, many, parts)) (omega (arith, most, many, parts))

  few_groups : is_between_inclusive 1 MOST_SUBJECTS (length m.plan.groups) ≡ true
  few_groups =
      let p = source_of (policy_of m) in
      let k = limits_kept p (rules_of h.lawful).rule_20 in
      let kept = members_kept p (rules_of h.lawful).rule_17 in
      let most : length p.subjects ≤ 32 = k.most_subjects in
      let fewer = kept.few in
      let many = groups_many m h in
      let some : 1 ≤ length p.scheduling.groups = some_group p p.subjects k.some_subjects kept.once p.scheduling.groups refl in
      between 1 MOST_SUBJECTS (length m.plan.groups) (omega (arith, some, many)) (omega (arith, most, many, fewer))

  few_majors : is_between_inclusive 1 MOST_MAJOR_FRAMES (length m.plan.majors) ≡ true
  few_majors =
      let k = valid m.plan h.plan.valid in
      let some = k.some_majors in
      between 1 MOST_MAJOR_FRAMES (length m.plan.majors) (omega (arith, some)) k.most_majors

  few_parts : length m.devices ≤ 32
  unfolding source_of
  few_parts =
      let most : length (policy_of m).devices ≤ 32 = (limits_kept (source_of (policy_of m)) (rules_of h.lawful).rule_20).most_devices in
      let many = devices_many m h in
      omega (arith, most, many)

  -- **the counts** of the image
  pub counts_kept : AreCounted (image_of m)
  unfolding image_of
  counts_kept = record {
    cpus = few_cpus;
    few_subjects = few_subjects;
    few_groups = few_groups;
    few_majors = few_majors;
    few_devices = few_parts;
    subjects = refl;
    groups = refl;
    majors = refl;
    devices = refl;
    spans = refl;
  }

  -- ---- groups and major frames

  -- **the groups** of the image
  pub groups_kept : All (IsGroup (image_of m).header) (image_of m).plan.groups
  unfolding image_of
  groups_kept k d l =
      let cpu = ltb-true _ _ (AllPass-from_list_all (λ g. nat_lt g.cpu (cpus_of m.plan)) m.plan.groups (valid m.plan h.plan.valid).groups k d l) in
      let first = ltb-true _ _ (AllPass-from_list_all (λ g. nat_lt g.first (length (source_of (policy_of m)).subjects)) m.plan.groups h.plan.there k d l) in
      let many = many_subjects (policy_of m) in
      let parts = subjects_many m h in
      record {
        cpu = subst (λ n. (get_or m.plan.groups k d).cpu < n) cpus_are cpu;
        first = subst (λ n. (get_or m.plan.groups k d).first < n) (many ∙ sym parts) first;
      }

  -- **the major frames** of the image
  pub majors_kept : list_all (is_major (image_of m).plan.groups (image_of m).header.cpus) (image_of m).plan.majors ≡ true
  unfolding image_of
  majors_kept = subst (λ n. list_all (is_major m.plan.groups n) m.plan.majors ≡ true) cpus_are (valid m.plan h.plan.valid).majors

-- ---- the choice

-- of spans that differ in number, one that has this one's number is this one
same_span : (spans : List SpanPart) (s : SpanPart) (a : ℕ) → HaveDifferentNumbers spans → a < length spans → get_or spans a s ≡ s → (k : ℕ) (d : SpanPart) → k < length spans
    → (get_or spans k d).number ≡ s.number → get_or spans k d ≡ s
same_span spans s a differ l is k d within same =
    let here : get_or spans a d ≡ s = get_or_default spans a d s l ∙ is in
    elim (cases_order k a) [
      | inl e ↦ ap (λ n. get_or spans n d) e ∙ here
      | inr (inl before) ↦ absurd (differ k a d before l (same ∙ ap (λ (x : SpanPart). x.number) (sym here)))
      | inr (inr behind) ↦ absurd (differ a k d behind within (ap (λ (x : SpanPart). x.number) here ∙ sym same))
    ]

own_span : (m : Made) → IsMade m → (n : ℕ) (r : SourceRegion) → slice_get (policy_of m).memory n ≡ Some r → IsChoice m.spans (Some n)
own_span m h n r at =
    let y = region_of (region_item r) in
    let s = region_span (n, (y, slice_index m.placed.addresses n)) in
    let there : slice_get (spans_of m.placed) n ≡ Some s = region_at m h n y (memory_at m.placed (placed_of m h) n r at) in
    let within = slice_get_within (spans_of m.placed) n s there in
    let many = length_permutation (spans_of m.placed) m.spans h.numbered in
    let all : Contains (spans_of m.placed) s = (n, within, get_or_from_slice_get (spans_of m.placed) n s s there) in
    let among : Contains m.spans s = Contains-permutation (spans_of m.placed) m.spans s h.numbered all in (
      omega (arith, within, many),
      λ k d l e. ap (λ (x : SpanPart). is_own x.kind) (same_span m.spans s among.0 h.spans.differ among.1 among.2 k d l e),
    )

chosen_kept : (m : Made) → IsMade m → (t : Tau0) → (policy_of m).scheduling.tau0 ≡ Some t → IsChoice m.spans (position (λ r. bytes_eq r.name t.region) (policy_of m).memory)
unfolding source_of
chosen_kept m h t is =
    let memory = (policy_of m).memory in
    let test : SourceRegion → Bool = λ r. bytes_eq r.name t.region in
    let n = position_or_len test memory in
    let low = first_index test memory (is_memory (source_of (policy_of m)) t is (rules_of h.lawful).rule_16) in
    let found = there memory n low in
    subst (IsChoice m.spans) (sym (position_there test memory low)) (own_span m h n found.0 found.1)

-- **the choice** of the image
pub choice_kept : (m : Made) → IsMade m → IsChoice (image_of m).spans (image_of m).header.tau0
unfolding image_of
choice_kept m h = elim (policy_of m).scheduling.tau0 as (λ o. (policy_of m).scheduling.tau0 ≡ o → IsChoice m.spans (option_and_then (λ t. position (λ r. bytes_eq r.name t.region) (policy_of m).memory) o)) [
  | None ↦ λ _. tt
  | Some t ↦ λ is. chosen_kept m h t is
] refl
