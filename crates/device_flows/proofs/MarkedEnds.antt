-- Rounds on marks are the rounds of a closure, and of the marks of subjects and devices those of the subjects tell the set.
use Rattle.std.proofs.Common.{◌≡◌, ℕ, zero, suc, Bool, true, false, cond, List, [], ◌∷◌, ◌++◌, length, map, filter, refl, ap, ◌∙◌}
use Rattle.std.proofs.lemmas.List.{map-append}
use Rattle.muen_num.proofs.Lists.{map-map}
use Rattle.policy_lawful.specs.source.Source.{Source}
use Rattle.policy_flows.specs.Flows.{rounds}
use Rattle.flow_report.specs.Marks.{after_rounds, round}
use Rattle.flow_report.specs.Sets.{marked_elements, members_of}
use Rattle.flow_report.proofs.MarkedSets.{round_by}
use Rattle.flow_report.proofs.TextOfFlows.{marked_none}
use Rattle.device_flows.specs.Closures.{closure_from}
use Rattle.device_flows.specs.DeviceFlows.{device_closure_of, is_subject, reaches_over_devices}
use Rattle.device_flows.specs.Ends.{End, subject, device, ends_of, leads_to}
use Rattle.device_flows.proofs.Closures.{members_after}

-- ---- marks that are a test's

module _ {X : Type 0} (leads : X → X → Bool) (xs : List X) (start : X → Bool) (rows : List (List Bool)) (is : rows ≡ map (λ x. map (leads x) xs) xs) where
  rounds_by : (n : ℕ) → rounds n (round rows) (map start xs) ≡ map (members_after leads xs start n) xs
  rounds_by zero = refl
  rounds_by (suc n) = (λ i. round (is i) (rounds_by n i)) ∙ round_by (members_after leads xs start n) leads xs

  pub closure_by : (n : ℕ) → n ≡ length xs → after_rounds rows (map start xs) n ≡ map (closure_from leads xs start) xs
  unfolding after_rounds closure_from
  closure_by n many = rounds_by n ∙ ap (λ n. map (members_after leads xs start n) xs) many

-- the elements that are marked, where more marks follow
marked_front : {X Y : Type 0} (test : X → Bool) (f : X → Y) (xs : List X) (more : List Bool) → marked_elements (map test xs ++ more) (map f xs) ≡ map f (filter test xs)
unfolding marked_elements
marked_front test f [] more = marked_none more
marked_front test f (x ∷ xs) more =
    elim (test x) as (λ b. marked_elements (b ∷ map test xs ++ more) (f x ∷ map f xs) ≡ map f (cond b (x ∷ filter test xs) (filter test xs))) [
      | true ↦ ap (λ ys. f x ∷ ys) (marked_front test f xs more)
      | false ↦ marked_front test f xs more
    ]

-- ---- of a policy

-- what is told of subjects and then of devices
pub ends_told : {Y : Type 0} (f : End → Y) (p : Source) → map f (ends_of p) ≡ map (λ s. f (subject s)) p.subjects ++ map (λ d. f (device d)) p.devices
ends_told f p =
    map-append f (map subject p.subjects) (map device p.devices)
    ∙ (λ i. map-map f subject p.subjects i ++ map-map f device p.devices i)

pub members_are : (p : Source) (name : List ℕ) → members_of p (map (reaches_over_devices p name) (ends_of p)) ≡ device_closure_of p name
unfolding device_closure_of
members_are p name =
    ap (members_of p) (ends_told (reaches_over_devices p name) p)
    ∙ marked_front (λ s. reaches_over_devices p name (subject s)) (λ s. s.name) p.subjects (map (λ d. reaches_over_devices p name (device d)) p.devices)

-- the set of marks after so many rounds
pub set_is : (p : Source) (name : List ℕ) (rows : List (List Bool)) → rows ≡ map (λ a. map (leads_to p a) (ends_of p)) (ends_of p) → (n : ℕ) → n ≡ length (ends_of p)
    → members_of p (after_rounds rows (map (is_subject name) (ends_of p)) n) ≡ device_closure_of p name
unfolding reaches_over_devices
set_is p name rows is n many = ap (members_of p) (closure_by (leads_to p) (ends_of p) (is_subject name) rows is n many) ∙ members_are p name
