-- Rule 17: each group has members, and each subject is a member once; so there are no more groups than subjects.
use Rattle.std.proofs.Common.{◌≡◌, ℕ, ◌+◌, ◌<◌, ◌≤◌, true, false, cond, List, [], ◌∷◌, length, Some, None, refl, ap, ◌∙◌, arith}
use Rattle.std.specs.Prelude.{◌==◌, nat_lt, option_map}
use Rattle.std.specs.List.{find, list_all, sum_by, count_by}
use Rattle.std.specs.Str.{bytes_eq}
use Rattle.std.proofs.lemmas.Bool.{and_parts, eqb-true, ltb-true}
use Rattle.std.proofs.lemmas.List.Sums.{sum_by-cons}
use Rattle.std.proofs.lemmas.Slice.Eq.{bytes_eq-Decides}
use Rattle.policy_lawful.specs.Rules.{is_group, is_on, offence_17, subject_cpu, times_listed}
use Rattle.muen_num.specs.Search.{first_in, unless}
use Rattle.policy_lawful.specs.Offences.{alone}
use Rattle.policy_types.specs.declared.source.Group.{Group}
use Rattle.policy_types.specs.declared.source.Source.{Source}
use Rattle.policy_types.specs.declared.source.Subject.{Subject}
use Rattle.muen_num.proofs.SearchLaws.{all_pass, none_both}
use Rattle.muen_num.proofs.Lookups.{same_self}

-- how often a name is listed in a group, and in several
listed_in : Subject → Group → ℕ
listed_in s g = count_by (λ n. bytes_eq n s.name) g.subjects

-- the listings of all these subjects in a group
listings : List Subject → Group → ℕ
listings ss g = sum_by (λ s. listed_in s g) ss

-- a name that a subject has is listed for it
listed_once : (ss : List Subject) (name : List ℕ) (names : List (List ℕ)) (g : Group) → g.subjects ≡ name ∷ names → (cpu : ℕ) → is_on (option_map (λ s. s.cpu) (find (λ s. bytes_eq s.name name) ss)) cpu ≡ true → 1 ≤ listings ss g
unfolding listings listed_in
listed_once [] name names g is cpu h = absurd (cc)
listed_once (s ∷ ss) name names g is cpu h =
    let sum : sum_by (λ s. listed_in s g) (s ∷ ss) ≡ listed_in s g + sum_by (λ s. listed_in s g) ss = sum_by-cons (λ s. listed_in s g) s ss in
    elim (bytes_eq s.name name) as (λ b. bytes_eq s.name name ≡ b → is_on (option_map (λ s. s.cpu) (cond b (Some s) (find (λ s. bytes_eq s.name name) ss))) cpu ≡ true → 1 ≤ sum_by (λ s. listed_in s g) (s ∷ ss)) [
      | true ↦ λ e _.
          let same : s.name ≡ name = (bytes_eq-Decides s.name name).0 e in
          let self : bytes_eq name s.name ≡ true = ap (bytes_eq name) same ∙ same_self name in
          let count : count_by (λ n. bytes_eq n s.name) (name ∷ names) ≡ cond (bytes_eq name s.name) 1 0 + count_by (λ n. bytes_eq n s.name) names = sum_by-cons (λ n. cond (bytes_eq n s.name) 1 0) name names in
          let here : listed_in s g ≡ 1 + count_by (λ n. bytes_eq n s.name) names = ap (count_by (λ n. bytes_eq n s.name)) is ∙ count ∙ ap (λ b. cond b 1 0 + count_by (λ n. bytes_eq n s.name) names) self in
          omega (arith, sum, here)
      | false ↦ λ _ k.
          let later : 1 ≤ sum_by (λ s. listed_in s g) ss = listed_once ss name names g is cpu k in
          omega (arith, sum, later)
    ] refl h

some_listing : (p : Source) (g : Group) → is_group p g ≡ true → 1 ≤ listings p.subjects g
some_listing p g h =
    let parts = and_parts (nat_lt 0 (length g.subjects)) (list_all (λ name. is_on (subject_cpu p name) g.cpu) g.subjects) h in
    elim g.subjects as (λ names. g.subjects ≡ names → nat_lt 0 (length names) ≡ true → list_all (λ name. is_on (subject_cpu p name) g.cpu) names ≡ true → 1 ≤ listings p.subjects g) [
      | [] ↦ λ _ some _. let l : 0 < 0 = ltb-true 0 0 some in absurd (omega arith)
      | name ∷ (names → _) ↦ λ is _ all.
          listed_once p.subjects name names g is g.cpu (and_parts (is_on (subject_cpu p name) g.cpu) (list_all (λ name. is_on (subject_cpu p name) g.cpu) names) all).0
    ] refl parts.0 parts.1

-- ---- counting the listings by subjects, then by groups

none_listed : (ss : List Subject) → sum_by (λ s. sum_by (λ g. listed_in s g) []) ss ≡ 0
none_listed [] = refl
none_listed (s ∷ ss) =
    let sum : sum_by (λ s. sum_by (λ g. listed_in s g) []) (s ∷ ss) ≡ 0 + sum_by (λ s. sum_by (λ g. listed_in s g) []) ss = sum_by-cons (λ s. sum_by (λ g. listed_in s g) []) s ss in
    let rest = none_listed ss in
    omega (arith, sum, rest)

one_more_group : (ss : List Subject) (g : Group) (gs : List Group) → sum_by (λ s. sum_by (λ g. listed_in s g) (g ∷ gs)) ss ≡ listings ss g + sum_by (λ s. sum_by (λ g. listed_in s g) gs) ss
unfolding listings
one_more_group [] g gs = refl
one_more_group (s ∷ ss) g gs =
    let all : sum_by (λ s. sum_by (λ g. listed_in s g) (g ∷ gs)) (s ∷ ss) ≡ sum_by (λ g. listed_in s g) (g ∷ gs) + sum_by (λ s. sum_by (λ g. listed_in s g) (g ∷ gs)) ss = sum_by-cons (λ s. sum_by (λ g. listed_in s g) (g ∷ gs)) s ss in
    let here : sum_by (λ g. listed_in s g) (g ∷ gs) ≡ listed_in s g + sum_by (λ g. listed_in s g) gs = sum_by-cons (λ g. listed_in s g) g gs in
    let first : sum_by (λ s. listed_in s g) (s ∷ ss) ≡ listed_in s g + sum_by (λ s. listed_in s g) ss = sum_by-cons (λ s. listed_in s g) s ss in
    let others : sum_by (λ s. sum_by (λ g. listed_in s g) gs) (s ∷ ss) ≡ sum_by (λ g. listed_in s g) gs + sum_by (λ s. sum_by (λ g. listed_in s g) gs) ss = sum_by-cons (λ s. sum_by (λ g. listed_in s g) gs) s ss in
    let rest : sum_by (λ s. sum_by (λ g. listed_in s g) (g ∷ gs)) ss ≡ sum_by (λ s. listed_in s g) ss + sum_by (λ s. sum_by (λ g. listed_in s g) gs) ss = one_more_group ss g gs in
    omega (arith, all, here, first, others, rest)

groups_listed : (p : Source) (gs : List Group) → list_all (is_group p) gs ≡ true → length gs ≤ sum_by (λ s. sum_by (λ g. listed_in s g) gs) p.subjects
groups_listed p [] h = let e = none_listed p.subjects in omega (arith, e)
groups_listed p (g ∷ gs) h =
    let parts = and_parts (is_group p g) (list_all (is_group p) gs) h in
    let here : 1 ≤ listings p.subjects g = some_listing p g parts.0 in
    let rest : length gs ≤ sum_by (λ s. sum_by (λ g. listed_in s g) gs) p.subjects = groups_listed p gs parts.1 in
    let more = one_more_group p.subjects g gs in
    omega (arith, here, rest, more)

each_once : (p : Source) (ss : List Subject) → list_all (λ s. times_listed p s.name == 1) ss ≡ true → sum_by (λ s. sum_by (λ g. listed_in s g) p.scheduling.groups) ss ≡ length ss
unfolding listed_in
each_once p [] h = refl
each_once p (s ∷ ss) h =
    let parts = and_parts (times_listed p s.name == 1) (list_all (λ s. times_listed p s.name == 1) ss) h in
    let here : sum_by (λ g. listed_in s g) p.scheduling.groups ≡ 1 = eqb-true (times_listed p s.name) 1 parts.0 in
    let rest : sum_by (λ s. sum_by (λ g. listed_in s g) p.scheduling.groups) ss ≡ length ss = each_once p ss parts.1 in
    let sum : sum_by (λ s. sum_by (λ g. listed_in s g) p.scheduling.groups) (s ∷ ss) ≡ sum_by (λ g. listed_in s g) p.scheduling.groups + sum_by (λ s. sum_by (λ g. listed_in s g) p.scheduling.groups) ss = sum_by-cons (λ s. sum_by (λ g. listed_in s g) p.scheduling.groups) s ss in
    omega (arith, here, rest, sum)

pub record MembersKept (p : Source) : Type 0 where
  pub groups : list_all (is_group p) p.scheduling.groups ≡ true
  pub once : list_all (λ s. times_listed p s.name == 1) p.subjects ≡ true
  pub few : length p.scheduling.groups ≤ length p.subjects

pub members_kept : (p : Source) → offence_17 p ≡ None → MembersKept p
unfolding offence_17
members_kept p h =
    let groups = none_both (first_in (λ g. unless (is_group p g) (alone g.name)) p.scheduling.groups) _ h in
    let subjects = none_both (first_in (λ s. unless (times_listed p s.name == 1) (alone s.name)) p.subjects) None groups.1 in
    let members = all_pass (is_group p) (λ g. alone g.name) p.scheduling.groups groups.0 in
    let once = all_pass (λ s. times_listed p s.name == 1) (λ s. alone s.name) p.subjects subjects.0 in
    let listed = groups_listed p p.scheduling.groups members in
    let all = each_once p p.subjects once in
    record { groups = members; once = once; few = omega (arith, listed, all) }
