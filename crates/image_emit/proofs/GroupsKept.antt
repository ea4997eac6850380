-- The group of a subject of the image that is made is on the subject's CPU, and the one whose first member it is.
use Rattle.std.proofs.Common.{◌≡◌, ◌∙◌, refl, sym, ap, subst, arith, ℕ, suc, ◌+◌, ◌<◌, ◌≤◌, Bool, true, false, cond, not, ◌||◌, inl, inr, List, [], ◌∷◌, length, map, Option, Some, None}
use Rattle.std.specs.Prelude.{◌==◌, nat_lt, option_map, slice_get}
use Rattle.std.specs.List.{count_by, enumerate_from, list_all, list_any, position_or_len}
use Rattle.std.specs.Option.{option_map_or}
use Rattle.std.specs.Str.{bytes_eq}
use Rattle.std.proofs.lemmas.Bool.{and_from, and_parts, cases_eq, eq-eqb, eqb-true, ltb-true, ne_eqb, or_cases, or_right}
use Rattle.std.proofs.lemmas.List.Sums.{passes_at_first, sum_by-cons}
use Rattle.std.proofs.lemmas.Option.{cond_some, get_or_from_slice_get, same_Some, slice_get-map, slice_get_within}
use Rattle.std.proofs.lemmas.Slice.Eq.{bytes_eq-Decides}
use Rattle.image_emit.proofs.PlanSubjects.{in_group}
use Rattle.image_emit.specs.Made.{IsMade, Made, group_at, policy_of}
use Rattle.image_pack.specs.Image.{is_first_here}
use Rattle.image_pack.specs.Plan.{is_group_on}
use Rattle.image_pack.specs.plan.GroupPart.{GroupPart}
use Rattle.muen_num.proofs.Lists.{passes_at, there}
use Rattle.muen_num.proofs.Lookups.{only_index, same_self}
use Rattle.policy_lawful.proofs.KeptMembers.{members_kept}
use Rattle.policy_lawful.proofs.Indexes.{found_at_index}
use Rattle.policy_lawful.proofs.KeptRules.{rules_of}
use Rattle.policy_lawful.proofs.UniqueNames.{names_of_subjects, subject_names, unique}
use Rattle.policy_lawful.proofs.WindowsByIndex.{name_of_subject}
use Rattle.policy_lawful.specs.Resolution.{name_at, source_of, subject_named}
use Rattle.policy_lawful.specs.Rules.{is_group, is_on, subject_cpu, times_listed}
use Rattle.policy_lawful.specs.declared.resolved.Subject.{Subject}
use Rattle.policy_lawful.specs.Frames.{first_member}
use Rattle.policy_lawful.specs.source.Group.{Group}
use Rattle.policy_lawful.specs.source.Source.{Source}
use Rattle.policy_lawful.specs.source.Subject.{Subject as SourceSubject}

-- ---- lists

-- where some element passes, at least one is counted
counted : {X : Type 0} (test : X → Bool) (xs : List X) → list_any test xs ≡ true → 1 ≤ count_by test xs
counted test [] h = absurd (cc)
counted test (x ∷ xs) h =
    let sum : count_by test (x ∷ xs) ≡ cond (test x) 1 0 + count_by test xs = sum_by-cons (λ y. cond (test y) 1 0) x xs in
    elim (test x) as (λ b. (b || list_any test xs) ≡ true → count_by test (x ∷ xs) ≡ cond b 1 0 + count_by test xs → 1 ≤ count_by test (x ∷ xs)) [
      | true ↦ λ _ e. omega (arith, e)
      | false ↦ λ k e. let later : 1 ≤ count_by test xs = counted test xs k in omega (arith, e, later)
    ] h sum

-- what passes at each index passes with its number
pub all_enumerated : {X : Type 0} (test : ℕ × X → Bool) (from : ℕ) (xs : List X) → ((j : ℕ) (x : X) → slice_get xs j ≡ Some x → test (from + j, x) ≡ true) → list_all test (enumerate_from from xs) ≡ true
all_enumerated test from [] h = refl
all_enumerated test from (x ∷ xs) h =
    let here : from + 0 ≡ from = omega arith in
    and_from (test (from, x)) (list_all test (enumerate_from (from + 1) xs)) (ap (λ n. test (n, x)) (sym here) ∙ h 0 x refl)
    (all_enumerated test (from + 1) xs (λ j y at. let n : from + 1 + j ≡ from + suc j = omega arith in ap (λ k. test (k, y)) n ∙ h (suc j) y at))

-- what two lists are mapped to, where these are the same
same_at : {X Y Z : Type 0} (f : X → Z) (g : Y → Z) (xs : List X) (ys : List Y) → map f xs ≡ map g ys → (k : ℕ) → option_map f (slice_get xs k) ≡ option_map g (slice_get ys k)
same_at f g xs ys same k = sym (slice_get-map f xs k) ∙ ap (λ zs. slice_get zs k) same ∙ slice_get-map g ys k

-- ---- a group that lists a subject

-- a name that is listed in a group is on the group's CPU
listed_on : (p : Source) (cpu : ℕ) (name : List ℕ) (names : List (List ℕ)) → list_any (λ n. bytes_eq n name) names ≡ true → list_all (λ n. is_on (subject_cpu p n) cpu) names ≡ true → is_on (subject_cpu p name) cpu ≡ true
listed_on p cpu name [] h all = absurd (cc)
listed_on p cpu name (n ∷ ns) h all =
    let parts = and_parts (is_on (subject_cpu p n) cpu) (list_all (λ n. is_on (subject_cpu p n) cpu) ns) all in
    elim (or_cases (bytes_eq n name) (list_any (λ n. bytes_eq n name) ns) h) [
      | inl here ↦ subst (λ x. is_on (subject_cpu p x) cpu ≡ true) ((bytes_eq-Decides n name).0 here) parts.0
      | inr later ↦ listed_on p cpu name ns later parts.1
    ]

first_listed : (names : List (List ℕ)) (name : List ℕ) → 0 < length names → first_member names ≡ name → list_any (λ n. bytes_eq n name) names ≡ true
first_listed [] name some is = absurd (omega (arith, some))
first_listed (n ∷ ns) name some is = ap (λ b. b || list_any (λ n. bytes_eq n name) ns) (ap (λ x. bytes_eq x name) is ∙ same_self name)

module _ (m : Made) (h : IsMade m) (k : ℕ) (s : Subject) (at : slice_get (policy_of m).subjects k ≡ Some s) where
  abbrev groups : List Group
  groups = (source_of (policy_of m)).scheduling.groups

  abbrev lists : Group → Bool
  lists g = list_any (λ n. bytes_eq n s.name) g.subjects

  abbrev times : Group → ℕ
  times g = count_by (λ n. bytes_eq n s.name) g.subjects

  number : ℕ
  number = group_at (policy_of m) k

  record HasGroup : Type 0 where
    group : Group
    there : slice_get groups number ≡ Some group
    lists_it : lists group ≡ true
    position : position_or_len lists groups ≡ number

  has_group : HasGroup
  unfolding number
  has_group =
      let of = cond_some (nat_lt (position_or_len lists groups) (length groups)) (position_or_len lists groups) (group_at (policy_of m) k) (in_group m h k s at) in
      let within : position_or_len lists groups < length groups = ltb-true _ _ of.0 in
      let found = there groups (position_or_len lists groups) within in
      record {
        group = found.0;
        there = ap (slice_get groups) (sym of.1) ∙ found.1;
        lists_it = ap lists (sym (get_or_from_slice_get groups (position_or_len lists groups) found.0 found.0 found.1)) ∙ passes_at_first lists groups found.0 within;
        position = of.1;
      }

  kept_groups : list_all (is_group (source_of (policy_of m))) groups ≡ true
  kept_groups = (members_kept (source_of (policy_of m)) (rules_of h.lawful).rule_17).groups

  source_at : slice_get (source_of (policy_of m)).subjects k ≡ Some (subject_named (policy_of m) s)
  unfolding source_of
  source_at = slice_get-map (subject_named (policy_of m)) (policy_of m).subjects k ∙ ap (option_map (subject_named (policy_of m))) at

  -- the CPU of the subject, by its name
  cpu_of_name : subject_cpu (source_of (policy_of m)) s.name ≡ Some s.cpu
  cpu_of_name =
      let p = source_of (policy_of m) in
      let r = policy_of m in
      let names = map (λ (x : SourceSubject). x.name) p.subjects in
      let same : names ≡ subject_names r = names_of_subjects r in
      let name : name_at names k ≡ s.name = ap (λ ns. name_at ns k) same ∙ name_of_subject r k s at in
      ap (subject_cpu p) (sym name)
      ∙ ap (option_map (λ (x : SourceSubject). x.cpu))
      (found_at_index (λ (x : SourceSubject). x.name) p.subjects k (unique p h.resolved.names).subjects (slice_get_within p.subjects k (subject_named r s) source_at) ∙ source_at)

  -- the group is on its CPU
  same_cpu : (g : HasGroup) → s.cpu ≡ g.group.cpu
  same_cpu g =
      let p = source_of (policy_of m) in
      let kept = passes_at (is_group p) groups number g.group kept_groups g.there in
      let parts = and_parts (nat_lt 0 (length g.group.subjects)) (list_all (λ n. is_on (subject_cpu p n) g.group.cpu) g.group.subjects) kept in
      let on : is_on (subject_cpu p s.name) g.group.cpu ≡ true = listed_on p g.group.cpu s.name g.group.subjects g.lists_it parts.1 in
      eqb-true s.cpu g.group.cpu (ap (λ o. is_on o g.group.cpu) (sym cpu_of_name) ∙ on)

  on_cpu : (o : Option GroupPart) (cpu : ℕ) → option_map (λ g. g.cpu) o ≡ Some cpu → cpu ≡ s.cpu → option_map_or (λ g. g.cpu == s.cpu) o false ≡ true
  on_cpu None cpu is same = absurd (cc)
  on_cpu (Some q) cpu is same = eq-eqb q.cpu s.cpu (same_Some q.cpu cpu is ∙ same)

  -- **the group** of the subject at an index is there, and on its CPU
  pub group_there : is_group_on m.plan.groups s.cpu (group_at (policy_of m) k) ≡ true
  unfolding number
  group_there =
      let g = has_group in
      let cpu : option_map (λ (q : GroupPart). q.cpu) (slice_get m.plan.groups number) ≡ Some g.group.cpu =
      same_at (λ (q : GroupPart). q.cpu) (λ (x : Group). x.cpu) m.plan.groups groups h.plan.groups number ∙ ap (option_map (λ (x : Group). x.cpu)) g.there in
      on_cpu (slice_get m.plan.groups number) g.group.cpu cpu (sym (same_cpu g))

  -- ---- the first member

  listed_once : times_listed (source_of (policy_of m)) s.name ≡ 1
  listed_once =
      let p = source_of (policy_of m) in
      let kept = members_kept p (rules_of h.lawful).rule_17 in
      eqb-true (times_listed p s.name) 1 (passes_at (λ x. times_listed p x.name == 1) p.subjects k (subject_named (policy_of m) s) kept.once source_at)

  -- a group that lists it is this one
  this_one : (j : ℕ) (g : Group) → slice_get groups j ≡ Some g → lists g ≡ true → j ≡ number
  this_one j g there it =
      let once = listed_once in
      sym (only_index lists times (λ x e. counted (λ n. bytes_eq n s.name) x.subjects e) groups j g (omega (arith, once)) there it) ∙ has_group.position

  first_is : (j : ℕ) (q : GroupPart) → slice_get m.plan.groups j ≡ Some q → q.first ≡ k → j ≡ number
  first_is j q there first =
      let p = source_of (policy_of m) in
      let names = map (λ (x : SourceSubject). x.name) p.subjects in
      let same : names ≡ subject_names (policy_of m) = names_of_subjects (policy_of m) in
      let name : name_at names k ≡ s.name = ap (λ ns. name_at ns k) same ∙ name_of_subject (policy_of m) k s at in
      let both : option_map (λ (g : Group). first_member g.subjects) (slice_get groups j) ≡ Some (name_at names q.first) =
      sym (same_at (λ (q : GroupPart). name_at names q.first) (λ (g : Group). first_member g.subjects) m.plan.groups groups h.plan.firsts j)
      ∙ ap (option_map (λ (q : GroupPart). name_at names q.first)) there in
      of_group (slice_get groups j) refl (both ∙ ap (λ n. Some (name_at names n)) first ∙ ap Some name)
    where
      of_group : (o : Option Group) → slice_get groups j ≡ o → option_map (λ (g : Group). first_member g.subjects) o ≡ Some s.name → j ≡ number
      of_group None is e = absurd (cc)
      of_group (Some g) is e =
          let kept = passes_at (is_group (source_of (policy_of m))) groups j g kept_groups is in
          let some = ltb-true 0 (length g.subjects) (and_parts (nat_lt 0 (length g.subjects)) (list_all (λ n. is_on (subject_cpu (source_of (policy_of m)) n) g.cpu) g.subjects) kept).0 in
          this_one j g is (first_listed g.subjects s.name some (same_Some _ _ e))

  -- **the group** whose first member is the subject at an index is the subject's
  pub first_here : is_first_here m.plan.groups k (group_at (policy_of m) k) ≡ true
  unfolding number
  first_here =
      all_enumerated (λ (g : ℕ × GroupPart). not (g.1.first == k) || g.0 == group_at (policy_of m) k) 0 m.plan.groups
      (λ j q there.
      elim (cases_eq q.first k) [
        | inl e ↦ or_right (not (q.first == k)) (0 + j == number) (let n : 0 + j ≡ j = omega arith in eq-eqb (0 + j) number (n ∙ first_is j q there e))
        | inr ne ↦ ap (λ b. not b || 0 + j == number) (ne_eqb q.first k ne)
      ])
