-- An order that names each CPU once has each of them.
use Rattle.std.proofs.Common.{◌≡◌, ℕ, suc, ◌<◌, ◌≤◌, true, false, List, [], ◌∷◌, length, not, sym, ap, subst, inl, inr, arith}
use Rattle.std.specs.Prelude.{◌==◌, nat_lt}
use Rattle.std.specs.List.{AllByRecursion, IsDistinct, list_all, list_any}
use Rattle.std.proofs.lemmas.Bool.{and_from, and_parts, eqb-false, eqb-true, lt-ltb, ltb-true, ne_eqb, not-true, or_cases, or_parts, true_from_ne_false}
use Rattle.std.proofs.lemmas.Map.Steps.{length-le_from_distinct_below}
use Rattle.subject_model.specs.Law.{NamesEachOnce}
use Rattle.muen_num.specs.Numbers.{are_distinct}

apart_from : (x : ℕ) (xs : List ℕ) → list_any (λ y. y == x) xs ≡ false → AllByRecursion (λ y. (x == y) ≡ false) xs
apart_from x [] h = tt
apart_from x (y ∷ ys) h =
    let parts = or_parts (y == x) (list_any (λ y. y == x) ys) h in
    (ne_eqb x y (λ e. eqb-false y x parts.0 (sym e)), apart_from x ys parts.1)

all_distinct : (xs : List ℕ) → are_distinct xs ≡ true → IsDistinct (λ a b. a == b) xs
unfolding IsDistinct
all_distinct [] h = tt
all_distinct (x ∷ xs) h =
    let parts = and_parts (not (list_any (λ y. y == x) xs)) (are_distinct xs) h in
    (apart_from x xs (not-true (list_any (λ y. y == x) xs) parts.0), all_distinct xs parts.1)

each_below : (n : ℕ) (xs : List ℕ) → list_all (λ c. nat_lt c n) xs ≡ true → (k : ℕ) → list_any (λ x. k == x) xs ≡ true → k < n
each_below n [] all k h = absurd (cc (h))
each_below n (x ∷ xs) all k h =
    let parts = and_parts (nat_lt x n) (list_all (λ c. nat_lt c n) xs) all in
    elim (or_cases (k == x) (list_any (λ x. k == x) xs) h) as (λ _. k < n) [
      | inl e ↦ subst (λ m. m < n) (sym (eqb-true k x e)) (ltb-true x n parts.0)
      | inr later ↦ each_below n xs parts.1 k later
    ]

-- so many different numbers below a bound leave none out
pub names_all : (cpus : ℕ) (order : List ℕ) → NamesEachOnce cpus order → (cpu : ℕ) → cpu < cpus → list_any (λ c. c == cpu) order ≡ true
names_all cpus order names cpu low =
    true_from_ne_false (list_any (λ c. c == cpu) order) (λ none.
    let distinct = all_distinct (cpu ∷ order) (and_from (not (list_any (λ y. y == cpu) order)) (are_distinct order) (ap not none) names.distinct) in
    let below = each_below cpus (cpu ∷ order) (and_from (nat_lt cpu cpus) (list_all (λ c. nat_lt c cpus) order) (lt-ltb cpu cpus low) names.below) in
    let many : suc (length order) ≤ cpus = length-le_from_distinct_below (cpu ∷ order) cpus distinct below in
    let count = names.count in
    omega (arith, many, count))
