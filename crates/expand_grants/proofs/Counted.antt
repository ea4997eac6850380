-- How many elements of a list pass.
use Rattle.std.proofs.Common.{◌≡◌, ℕ, ◌+◌, ◌≤◌, Bool, true, false, cond, List, [], ◌∷◌, map, not, Option, Some, None, refl, sym, ap, subst, ◌∙◌, arith}
use Rattle.std.specs.Prelude.{◌==◌, ◌||◌, filter}
use Rattle.std.specs.Option.{option_map_or}
use Rattle.std.specs.List.{cons_option, count_by, filter_map, list_all, list_any, sum_by}
use Rattle.std.proofs.lemmas.Bool.{and_parts, eqb-true, not-true}
use Rattle.std.proofs.lemmas.List.Sums.{sum_by-cons}
use Rattle.muen_num.specs.Numbers.{are_distinct}

-- ---- none

-- where no element passes, none is counted
pub uncounted : {X : Type 0} (test : X → Bool) (xs : List X) → list_any test xs ≡ false → count_by test xs ≡ 0
uncounted test [] h = refl
uncounted test (x ∷ xs) h =
    let sum : count_by test (x ∷ xs) ≡ cond (test x) 1 0 + count_by test xs = sum_by-cons (λ y. cond (test y) 1 0) x xs in
    elim (test x) as (λ b. (b || list_any test xs) ≡ false → count_by test (x ∷ xs) ≡ cond b 1 0 + count_by test xs → count_by test (x ∷ xs) ≡ 0) [
      | true ↦ λ k _. absurd (cc)
      | false ↦ λ k e. let later : count_by test xs ≡ 0 = uncounted test xs k in omega (arith, e, later)
    ] h sum

-- where each passes a test that tells that it fails another, no element passes that
pub none_passes : {X : Type 0} (ok test : X → Bool) → ((x : X) → ok x ≡ true → test x ≡ false) → (xs : List X) → list_all ok xs ≡ true → list_any test xs ≡ false
none_passes ok test fails [] all = refl
none_passes ok test fails (x ∷ xs) all =
    let parts = and_parts (ok x) (list_all ok xs) all in
    ap (λ b. b || list_any test xs) (fails x parts.0) ∙ none_passes ok test fails xs parts.1

-- where none passes, none is kept
pub none_kept : {X : Type 0} (xs : List X) → filter (λ _. false) xs ≡ []
none_kept [] = refl
none_kept (x ∷ xs) = none_kept xs

-- ---- sums

-- over the elements that are kept
pub sum_kept : {X : Type 0} (f : X → ℕ) (test : X → Bool) (xs : List X) → sum_by f (filter test xs) ≡ sum_by (λ x. cond (test x) (f x) 0) xs
sum_kept f test [] = refl
sum_kept f test (x ∷ xs) =
    let rest : sum_by f (filter test xs) ≡ sum_by (λ x. cond (test x) (f x) 0) xs = sum_kept f test xs in
    let more : sum_by f (filter test (x ∷ xs)) ≡ cond (test x) (f x) 0 + sum_by (λ x. cond (test x) (f x) 0) xs =
    elim (test x) as (λ b. sum_by f (cond b (x ∷ filter test xs) (filter test xs)) ≡ cond b (f x) 0 + sum_by (λ x. cond (test x) (f x) 0) xs) [
      | true ↦ sum_by-cons f x (filter test xs) ∙ ap (λ n. f x + n) rest
      | false ↦ omega (arith, rest)
    ] in
    more ∙ sym (sum_by-cons (λ x. cond (test x) (f x) 0) x xs)

-- ---- what elements have, if they have it

-- of what elements have, as many pass as there are elements of which it does
pub counted_some : {X Y : Type 0} (test : Y → Bool) (f : X → Option Y) (xs : List X) → count_by test (filter_map f xs) ≡ count_by (λ x. option_map_or test (f x) false) xs
counted_some test f [] = refl
counted_some test f (x ∷ xs) =
    let rest : count_by test (filter_map f xs) ≡ count_by (λ x. option_map_or test (f x) false) xs = counted_some test f xs in
    let more : count_by test (filter_map f (x ∷ xs)) ≡ cond (option_map_or test (f x) false) 1 0 + count_by (λ x. option_map_or test (f x) false) xs =
    elim (f x) as (λ o. count_by test (cons_option o (filter_map f xs)) ≡ cond (option_map_or test o false) 1 0 + count_by (λ x. option_map_or test (f x) false) xs) [
      | None ↦ omega (arith, rest)
      | Some y ↦ sum_by-cons (λ z. cond (test z) 1 0) y (filter_map f xs) ∙ ap (λ n. cond (test y) 1 0 + n) rest
    ] in
    more ∙ sym (sum_by-cons (λ x. cond (option_map_or test (f x) false) 1 0) x xs)

-- of elements, each with its item if it has one, no more items pass than elements do
pub fewer_items : {X Y P : Type 0} (by : Y → Bool) (n : X → Y) (item : X → Option P) (test : P → Bool)
    → ((x : X) → option_map_or test (item x) (by (n x)) ≡ by (n x)) → (xs : List X) → count_by test (filter_map item xs) ≤ count_by by (map n xs)
fewer_items by n item test same [] = omega arith
fewer_items by n item test same (x ∷ xs) =
    let rest : count_by test (filter_map item xs) ≤ count_by by (map n xs) = fewer_items by n item test same xs in
    let whole : count_by by (map n (x ∷ xs)) ≡ cond (by (n x)) 1 0 + count_by by (map n xs) = sum_by-cons (λ y. cond (by y) 1 0) (n x) (map n xs) in
    elim (item x) as (λ o. option_map_or test o (by (n x)) ≡ by (n x) → count_by test (cons_option o (filter_map item xs)) ≤ count_by by (map n (x ∷ xs))) [
      | None ↦ λ _. omega (arith, rest, whole)
      | Some p ↦ λ e.
          let front : count_by test (p ∷ filter_map item xs) ≡ cond (by (n x)) 1 0 + count_by test (filter_map item xs) =
          sum_by-cons (λ z. cond (test z) 1 0) p (filter_map item xs) ∙ ap (λ b. cond b 1 0 + count_by test (filter_map item xs)) e in
          omega (arith, rest, whole, front)
    ] (same x)

-- ---- numbers

-- of numbers that differ, one at most is this one
pub distinct_once : (n : ℕ) (ns : List ℕ) → are_distinct ns ≡ true → count_by (λ m. m == n) ns ≤ 1
distinct_once n [] h = omega arith
distinct_once n (m ∷ ms) h =
    let parts = and_parts (not (list_any (λ k. k == m) ms)) (are_distinct ms) h in
    let rest : count_by (λ k. k == n) ms ≤ 1 = distinct_once n ms parts.1 in
    let sum : count_by (λ k. k == n) (m ∷ ms) ≡ cond (m == n) 1 0 + count_by (λ k. k == n) ms = sum_by-cons (λ k. cond (k == n) 1 0) m ms in
    elim (m == n) as (λ b. (m == n) ≡ b → count_by (λ k. k == n) (m ∷ ms) ≡ cond b 1 0 + count_by (λ k. k == n) ms → count_by (λ k. k == n) (m ∷ ms) ≤ 1) [
      | true ↦ λ e whole.
          let later : count_by (λ k. k == m) ms ≡ 0 = uncounted (λ k. k == m) ms (not-true (list_any (λ k. k == m) ms) parts.0) in
          let none : count_by (λ k. k == n) ms ≡ 0 = subst (λ j. count_by (λ k. k == j) ms ≡ 0) (eqb-true m n e) later in
          omega (arith, whole, none)
      | false ↦ λ e whole. omega (arith, whole, rest)
    ] refl sum
