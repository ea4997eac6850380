-- The closure of a subject is the least closed set with it.
use Rattle.std.proofs.Common.{◌≡◌, ℕ, zero, suc, ◌<◌, Bool, true, List, length, map, filter, refl, sym, ap, subst, ◌∙◌, ◌⊎◌, inl, inr, arith}
use Rattle.std.specs.Prelude.{◌&&◌, ◌||◌}
use Rattle.std.specs.List.{All, list_any}
use Rattle.std.specs.Str.{bytes_eq}
use Rattle.std.proofs.lemmas.Bool.{and_from, and_parts, or_cases, or_left, or_right}
use Rattle.std.proofs.lemmas.Slice.Eq.{bytes_eq-Decides}
use Rattle.policy_lawful.specs.source.Source.{Source}
use Rattle.policy_lawful.specs.source.Subject.{Subject}
use Rattle.policy_flows.specs.Flows.{IsClosed, IsLeastClosed, closure_of, flows_to, is_member, rounds, with_sources}
use Rattle.muen_num.proofs.Members.{In, all_from, all_in, any_in, any_some, filter_fits, filter_grows, filter_in, filter_some, map_in, map_some}
use Rattle.muen_num.proofs.Lookups.{same_self}

-- ---- members by a test

-- the names of the subjects that pass
abbrev pub passing : Source → (Subject → Bool) → List (List ℕ)
passing p test = map (λ u. u.name) (filter test p.subjects)

-- one that passes is a member
pub member_in : (p : Source) (test : Subject → Bool) (u : Subject) → In u p.subjects → test u ≡ true → is_member (passing p test) u ≡ true
member_in p test u i h =
    any_in (λ name. bytes_eq name u.name) (passing p test) u.name (map_in (λ u. u.name) (filter test p.subjects) u (filter_in test p.subjects u i h)) (same_self u.name)

-- a member has the name of one that passes
pub record Named (p : Source) (test : Subject → Bool) (s : Subject) : Type 0 where
  pub one : Subject
  pub within : In one p.subjects
  pub passes : test one ≡ true
  pub name : one.name ≡ s.name

pub member_some : (p : Source) (test : Subject → Bool) (s : Subject) → is_member (passing p test) s ≡ true → Named p test s
member_some p test s h =
    let found = any_some (λ name. bytes_eq name s.name) (passing p test) h in
    let source = map_some (λ (u : Subject). u.name) (filter test p.subjects) found.one found.within in
    let kept = filter_some test p.subjects source.one source.within in
    record {
      one = source.one;
      within = kept.0;
      passes = kept.1;
      name = source.image ∙ (bytes_eq-Decides found.one s.name).0 found.passes;
    }

-- a member by name
pub same_member : (members : List (List ℕ)) (u s : Subject) → u.name ≡ s.name → is_member members u ≡ true → is_member members s ≡ true
same_member members u s e h = subst (λ n. list_any (λ name. bytes_eq name n) members ≡ true) e h

-- ---- rounds

-- a member, or one that flows to one
abbrev pub joins : Source → List (List ℕ) → Subject → Bool
joins p members u = is_member members u || list_any (λ s. is_member members s && flows_to p u s) p.subjects

-- the members after so many rounds
abbrev pub members_after : Source → List ℕ → ℕ → List (List ℕ)
members_after p name n = rounds n (with_sources p) (passing p (λ u. bytes_eq u.name name))

-- what those pass that are members after so many rounds
abbrev pub test_after : Source → List ℕ → ℕ → Subject → Bool
test_after p name zero = λ u. bytes_eq u.name name
test_after p name (suc n) = joins p (members_after p name n)

pub after_by_test : (p : Source) (name : List ℕ) (n : ℕ) → members_after p name n ≡ passing p (test_after p name n)
after_by_test p name zero = refl
after_by_test p name (suc n) = refl

pub after_in : (p : Source) (name : List ℕ) (n : ℕ) (u : Subject) → In u p.subjects → test_after p name n u ≡ true → is_member (members_after p name n) u ≡ true
after_in p name n u i h = subst (λ members. is_member members u ≡ true) (sym (after_by_test p name n)) (member_in p (test_after p name n) u i h)

pub after_some : (p : Source) (name : List ℕ) (n : ℕ) (s : Subject) → is_member (members_after p name n) s ≡ true → Named p (test_after p name n) s
after_some p name n s h = member_some p (test_after p name n) s (subst (λ members. is_member members s ≡ true) (after_by_test p name n) h)

-- a round leaves the members
test_stays : (p : Source) (name : List ℕ) (n : ℕ) (u : Subject) → In u p.subjects → test_after p name n u ≡ true → test_after p name (suc n) u ≡ true
test_stays p name n u i h = or_left (is_member (members_after p name n) u) (list_any (λ s. is_member (members_after p name n) s && flows_to p u s) p.subjects) (after_in p name n u i h)

-- the subject stays
has_after : (p : Source) (name : List ℕ) (n : ℕ) (u : Subject) → In u p.subjects → bytes_eq u.name name ≡ true → test_after p name n u ≡ true
has_after p name zero u i h = h
has_after p name (suc n) u i h = test_stays p name n u i (has_after p name n u i h)

-- ---- least

module _ (p : Source) (name : List ℕ) (others : List (List ℕ)) (has : All (λ s. bytes_eq s.name name ≡ true → is_member others s ≡ true) p.subjects) (closed : IsClosed p others) where
  within_others : (n : ℕ) (s : Subject) → is_member (members_after p name n) s ≡ true → is_member others s ≡ true
  within_others zero s h =
      let one = after_some p name zero s h in
      same_member others one.one s one.name (all_in (λ s. bytes_eq s.name name ≡ true → is_member others s ≡ true) p.subjects has one.one one.within one.passes)
  within_others (suc n) s h =
      let one = after_some p name (suc n) s h in
      same_member others one.one s one.name
      (elim (or_cases (is_member (members_after p name n) one.one) (list_any (λ t. is_member (members_after p name n) t && flows_to p one.one t) p.subjects) one.passes) as (λ _. is_member others one.one ≡ true) [
        | inl e ↦ within_others n one.one e
        | inr e ↦
            let to = any_some (λ t. is_member (members_after p name n) t && flows_to p one.one t) p.subjects e in
            let both = and_parts (is_member (members_after p name n) to.one) (flows_to p one.one to.one) to.passes in
            all_in (λ u. flows_to p u to.one ≡ true → is_member others u ≡ true) p.subjects
            (all_in (λ s. is_member others s ≡ true → All (λ u. flows_to p u s ≡ true → is_member others u ≡ true) p.subjects) p.subjects closed.sources to.one to.within (within_others n to.one both.0))
            one.one one.within both.1
      ])

-- ---- closed

-- a round changes nothing, or there are more than so many members after it
Steady : Source → List ℕ → ℕ → Type 0
Steady p name n = (filter (test_after p name n) p.subjects ≡ filter (test_after p name (suc n)) p.subjects) ⊎ (n < length (filter (test_after p name (suc n)) p.subjects))

steady : (p : Source) (name : List ℕ) (n : ℕ) → Steady p name n
unfolding Steady
steady p name zero =
    elim (filter_grows (test_after p name zero) (test_after p name (suc zero)) p.subjects (test_stays p name zero)) as (λ _. Steady p name zero) [
      | inl same ↦ inl same
      | inr more ↦ inr (omega (arith, more))
    ]
steady p name (suc n) =
    elim (steady p name n) as (λ _. Steady p name (suc n)) [
      | inl same ↦
          let members : members_after p name n ≡ members_after p name (suc n) = after_by_test p name n ∙ ap (map (λ u. u.name)) same in
          inl (ap (λ members. filter (joins p members) p.subjects) members)
      | inr many ↦
          elim (filter_grows (test_after p name (suc n)) (test_after p name (suc (suc n))) p.subjects (test_stays p name (suc n))) as (λ _. Steady p name (suc n)) [
            | inl same ↦ inl same
            | inr more ↦ inr (omega (arith, many, more))
          ]
    ]

-- as many rounds as there are subjects are enough
pub enough : (p : Source) (name : List ℕ) → members_after p name (length p.subjects) ≡ members_after p name (suc (length p.subjects))
unfolding Steady
enough p name =
    let n = length p.subjects in
    elim (steady p name n) as (λ _. members_after p name n ≡ members_after p name (suc n)) [
      | inl same ↦ after_by_test p name n ∙ ap (map (λ u. u.name)) same
      | inr many ↦ absurd (let few = filter_fits (test_after p name (suc n)) p.subjects in omega (arith, many, few))
    ]

closed_after : (p : Source) (name : List ℕ) (s u : Subject) → In s p.subjects → In u p.subjects → is_member (members_after p name (length p.subjects)) s ≡ true → flows_to p u s ≡ true
    → is_member (members_after p name (length p.subjects)) u ≡ true
closed_after p name s u i j h f =
    let n = length p.subjects in
    let members = members_after p name n in
    let passes : joins p members u ≡ true =
    or_right (is_member members u) (list_any (λ s. is_member members s && flows_to p u s) p.subjects)
    (any_in (λ s. is_member members s && flows_to p u s) p.subjects s i (and_from (is_member members s) (flows_to p u s) h f)) in
    subst (λ members. is_member members u ≡ true) (sym (enough p name)) (after_in p name (suc n) u j passes)

-- ---- the closure

pub closure_after : (p : Source) (name : List ℕ) → closure_of p name ≡ members_after p name (length p.subjects)
unfolding closure_of
closure_after p name = refl

pub closure_is_least : (p : Source) (name : List ℕ) → IsLeastClosed p name (closure_of p name)
unfolding closure_of
closure_is_least p name =
    let n = length p.subjects in
    let members = members_after p name n in
    record {
      has = all_from (λ s. bytes_eq s.name name ≡ true → is_member members s ≡ true) p.subjects (λ s i h. after_in p name n s i (has_after p name n s i h));
      closed = record {
        sources =
            all_from (λ s. is_member members s ≡ true → All (λ u. flows_to p u s ≡ true → is_member members u ≡ true) p.subjects) p.subjects
            (λ s i h. all_from (λ u. flows_to p u s ≡ true → is_member members u ≡ true) p.subjects (λ u j f. closed_after p name s u i j h f));
      };
      least = λ others has closed. all_from (λ s. is_member members s ≡ true → is_member others s ≡ true) p.subjects (λ s i h. within_others p name others has closed n s h);
    }
