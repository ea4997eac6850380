-- Rounds on marks are the rounds on names, and the marked sets are the closures.
use Rattle.std.proofs.Common.{◌≡◌, ℕ, zero, suc, Bool, true, false, cond, List, [], ◌∷◌, length, map, filter, refl, sym, ap, subst, ◌∙◌}
use Rattle.std.specs.Prelude.{◌&&◌, ◌||◌}
use Rattle.std.specs.List.{AllZip, list_any, zip}
use Rattle.std.specs.Str.{bytes_eq}
use Rattle.std.proofs.lemmas.Bool.Decides.{same_from_decides}
use Rattle.std.proofs.lemmas.List.{length-map}
use Rattle.policy_lawful.specs.source.Source.{Source}
use Rattle.policy_lawful.specs.source.Subject.{Subject}
use Rattle.policy_flows.specs.Flows.{IsLeastClosed, closure_of, flows_to, is_member, rounds}
use Rattle.flow_report.specs.Marks.{after_rounds, round, have_common_mark}
use Rattle.flow_report.specs.Sets.{AreFlows, AreLeastClosed, marked_elements, members_of}
use Rattle.policy_flows.proofs.UniqueSubjects.{HasUniqueNames}
use Rattle.policy_flows.proofs.Closures.{after_by_test, after_in, after_some, closure_after, closure_is_least, joins, members_after, test_after}
use Rattle.muen_num.proofs.Members.{In, any_agree, map_agree}

-- ---- marks that are a test's

touches_by : {X : Type 0} (test flows : X → Bool) (xs : List X) → have_common_mark (map test xs) (map flows xs) ≡ list_any (λ x. test x && flows x) xs
touches_by test flows [] = refl
touches_by test flows (x ∷ xs) = ap (λ b. (test x && flows x) || b) (touches_by test flows xs)

map_zip : {X Y Z W : Type 0} (h : Y × Z → W) (f : X → Y) (g : X → Z) (xs : List X) → map h (zip (map f xs) (map g xs)) ≡ map (λ x. h (f x, g x)) xs
map_zip h f g [] = refl
map_zip h f g (x ∷ xs) = ap (λ ys. h (f x, g x) ∷ ys) (map_zip h f g xs)

-- a round on the marks of a test
pub round_by : {X : Type 0} (test : X → Bool) (flows : X → X → Bool) (xs : List X) → round (map (λ u. map (flows u) xs) xs) (map test xs) ≡ map (λ u. test u || list_any (λ s. test s && flows u s) xs) xs
round_by test flows xs =
    map_zip (λ x. x.0 || have_common_mark (map test xs) x.1) test (λ u. map (flows u) xs) xs
    ∙ map_agree (λ u. test u || have_common_mark (map test xs) (map (flows u) xs)) (λ u. test u || list_any (λ s. test s && flows u s) xs) xs (λ u _. ap (λ b. test u || b) (touches_by test (flows u) xs))

-- the names that are marked
marked_by : {X Y : Type 0} (test : X → Bool) (f : X → Y) (xs : List X) → marked_elements (map test xs) (map f xs) ≡ map f (filter test xs)
unfolding marked_elements
marked_by test f [] = refl
marked_by test f (x ∷ xs) =
    elim (test x) as (λ b. marked_elements (b ∷ map test xs) (f x ∷ map f xs) ≡ map f (cond b (x ∷ filter test xs) (filter test xs))) [
      | true ↦ ap (λ ys. f x ∷ ys) (marked_by test f xs)
      | false ↦ marked_by test f xs
    ]

-- ---- where names are unique

module _ (p : Source) (unique : HasUniqueNames p) (name : List ℕ) where
  -- a member is one that passes
  member_is : (n : ℕ) (u : Subject) → In u p.subjects → is_member (members_after p name n) u ≡ test_after p name n u
  member_is n u i =
      same_from_decides _ _
      (λ h. let one = after_some p name n u h in subst (λ x. test_after p name n x ≡ true) (unique.same one.one u one.within i one.name) one.passes, λ h. after_in p name n u i h)
      (λ h. h, λ h. h)

  -- the marks after so many rounds
  marks_after : (rows : List (List Bool)) (marks : List Bool) → rows ≡ map (λ u. map (flows_to p u) p.subjects) p.subjects → marks ≡ map (λ u. bytes_eq u.name name) p.subjects
      → (n : ℕ) → rounds n (round rows) marks ≡ map (test_after p name n) p.subjects
  marks_after rows marks is start zero = start
  marks_after rows marks is start (suc n) =
      let test = test_after p name n in
      (λ i. round (is i) (marks_after rows marks is start n i))
      ∙ round_by test (flows_to p) p.subjects
      ∙ map_agree (λ u. test u || list_any (λ s. test s && flows_to p u s) p.subjects) (joins p (members_after p name n)) p.subjects
      (λ u i.
      (λ k. sym (member_is n u i) k || list_any (λ s. test s && flows_to p u s) p.subjects)
      ∙ ap (λ b. is_member (members_after p name n) u || b)
      (any_agree (λ s. test s && flows_to p u s) (λ s. is_member (members_after p name n) s && flows_to p u s) p.subjects (λ s j. ap (λ b. b && flows_to p u s) (sym (member_is n s j)))))

  -- there is one for each subject
  pub marks_many : (rows : List (List Bool)) (marks : List Bool) → rows ≡ map (λ u. map (flows_to p u) p.subjects) p.subjects → marks ≡ map (λ u. bytes_eq u.name name) p.subjects
      → (n : ℕ) → length (after_rounds rows marks n) ≡ length p.subjects
  unfolding after_rounds
  marks_many rows marks is start n = ap length (marks_after rows marks is start n) ∙ length-map p.subjects (test_after p name n)

  -- they are the closure's
  pub members_are : (rows : List (List Bool)) (marks : List Bool) → rows ≡ map (λ u. map (flows_to p u) p.subjects) p.subjects → marks ≡ map (λ u. bytes_eq u.name name) p.subjects
      → (n : ℕ) → n ≡ length p.subjects → members_of p (after_rounds rows marks n) ≡ closure_of p name
  unfolding after_rounds
  members_are rows marks is start n many =
      ap (members_of p) (marks_after rows marks is start n)
      ∙ marked_by (test_after p name n) (λ u. u.name) p.subjects
      ∙ sym (after_by_test p name n)
      ∙ ap (members_after p name) many
      ∙ sym (closure_after p name)

-- ---- for each subject

-- sets whose members are the closures are least
pub least_from : (p : Source) (sets : List (List Bool)) → AreFlows p sets → AreLeastClosed p sets
least_from p sets h = along p.subjects sets h
  where
    along : (ss : List Subject) (sets : List (List Bool)) → map (members_of p) sets ≡ map (λ s. closure_of p s.name) ss → AllZip (λ s set. IsLeastClosed p s.name (members_of p set)) ss sets
    along [] [] h = tt
    along [] (x ∷ xs) h = absurd (cc)
    along (s ∷ ss) [] h = absurd (cc)
    along (s ∷ ss) (x ∷ xs) h =
        let here : members_of p x ≡ closure_of p s.name = cc in
        let later : map (members_of p) xs ≡ map (λ s. closure_of p s.name) ss = cc in
        (subst (IsLeastClosed p s.name) (sym here) (closure_is_least p s.name), along ss xs later)
