-- The plan's groups are the policy's, and the first member of each is there.
use Rattle.std.proofs.Common.{◌≡◌, ℕ, ◌<◌, true, List, [], ◌∷◌, length, map, refl, sym, ap, ◌∙◌, arith}
use Rattle.std.specs.Prelude.{nat_lt, slice_index, slice_index_or}
use Rattle.std.specs.List.{list_all}
use Rattle.std.proofs.lemmas.Bool.{and_parts, ltb-true}
use Rattle.std.proofs.lemmas.List.Folds.{list_all-map}
use Rattle.policy_lawful.specs.Frames.{first_member}
use Rattle.policy_lawful.specs.Resolution.{Resolution, group_named, name_at, source_of, subject_named}
use Rattle.policy_lawful.specs.declared.resolved.Group.{Group}
use Rattle.muen_num.proofs.Lists.{all_same, each_from, map-map}
use Rattle.plan_emit.specs.Emitted.{emitted, group_part}
use Rattle.policy_lawful.proofs.SourceElements.{many_subjects}
use Rattle.policy_lawful.proofs.KeptByIndex.{has_members, members_there}
use Rattle.policy_lawful.proofs.KeptPlan.{PlanKept}

pub groups_emitted : (r : Resolution) → map (λ g. g.cpu) (emitted r).groups ≡ map (λ g. g.cpu) (source_of r).scheduling.groups
unfolding source_of
groups_emitted r =
    map-map (λ g. g.cpu) group_part r.scheduling.groups ∙ sym (map-map (λ g. g.cpu) (group_named r) r.scheduling.groups)

first_of_group : (names : List (List ℕ)) (g : Group) → nat_lt 0 (length g.subjects) ≡ true → name_at names (slice_index g.subjects 0) ≡ first_member (map (name_at names) g.subjects)
first_of_group names g some =
    elim g.subjects as (λ is. nat_lt 0 (length is) ≡ true → name_at names (slice_index is 0) ≡ first_member (map (name_at names) is)) [
      | [] ↦ λ e. let l : 0 < 0 = ltb-true 0 0 e in absurd (omega arith)
      | i ∷ (is → _) ↦ λ _. refl
    ] some

pub firsts_emitted : (r : Resolution) → PlanKept r
    → map (λ g. slice_index_or (map (λ s. s.name) (source_of r).subjects) g.first []) (emitted r).groups ≡ map (λ g. first_member g.subjects) (source_of r).scheduling.groups
unfolding source_of
firsts_emitted r k =
    let named = map (λ s. s.name) (map (subject_named r) r.subjects) in
    let names = map (λ s. s.name) r.subjects in
    let same : named ≡ names = map-map (λ s. s.name) (subject_named r) r.subjects in
    map-map (λ g. slice_index_or named g.first []) group_part r.scheduling.groups
    ∙ ap (λ ns. map (λ g. name_at ns (slice_index g.subjects 0)) r.scheduling.groups) same
    ∙ all_same (λ g. name_at names (slice_index g.subjects 0)) (λ g. first_member (map (name_at names) g.subjects)) (has_members r)
    (λ g h. first_of_group names g (and_parts (nat_lt 0 (length g.subjects)) (list_all (λ i. nat_lt i (length r.subjects)) g.subjects) h).0)
    r.scheduling.groups (members_there r k)
    ∙ sym (map-map (λ g. first_member g.subjects) (group_named r) r.scheduling.groups)

first_there : (many : ℕ) (is : List ℕ) → nat_lt 0 (length is) ≡ true → list_all (λ i. nat_lt i many) is ≡ true → nat_lt (slice_index is 0) many ≡ true
first_there many [] some all = let l : 0 < 0 = ltb-true 0 0 some in absurd (omega arith)
first_there many (i ∷ is) some all = (and_parts (nat_lt i many) (list_all (λ i. nat_lt i many) is) all).0

pub firsts_there : (r : Resolution) → PlanKept r → list_all (λ g. nat_lt g.first (length (source_of r).subjects)) (emitted r).groups ≡ true
firsts_there r k =
    list_all-map (λ g. nat_lt g.first (length (source_of r).subjects)) group_part r.scheduling.groups
    ∙ each_from (has_members r) (λ g. nat_lt (slice_index g.subjects 0) (length (source_of r).subjects))
    (λ g h.
    let parts = and_parts (nat_lt 0 (length g.subjects)) (list_all (λ i. nat_lt i (length r.subjects)) g.subjects) h in
    ap (nat_lt (slice_index g.subjects 0)) (many_subjects r) ∙ first_there (length r.subjects) g.subjects parts.0 parts.1)
    r.scheduling.groups (members_there r k)
