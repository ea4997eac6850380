-- The least number that passes.
use Rattle.std.proofs.Common.{◌≡◌, ℕ, zero, suc, ◌+◌, ◌<◌, List, length, get_or, take, subst, ◌≤◌, ◌||◌, inl, inr, Bool, true, false, min, Option, Some, None, refl, sym, ap, ◌∙◌, arith}
use Rattle.std.specs.Prelude.{if◌then◌else◌}
use Rattle.std.specs.Option.{option_or}
use Rattle.std.specs.List.{list_any}
use Rattle.std.proofs.lemmas.List.{take_all}
use Rattle.std.proofs.lemmas.List.Folds.{list_any_more}
use Rattle.std.proofs.lemmas.Bool.{cases_lt, or_from, or_left, or_right}
use Rattle.region_alloc.specs.Gaps.{IsLeast, lower}
use Rattle.region_alloc.specs.Placement.{least_below}

-- by another test that says the same
pub least_same : (p q : ℕ → Bool) → ((a : ℕ) → p a ≡ q a) → (r : Option ℕ) → IsLeast p r → IsLeast q r
least_same p q same None h = λ a. sym (same a) ∙ h a
least_same p q same (Some a) h = (sym (same a) ∙ h.0, λ b l. sym (same b) ∙ h.1 b l)

-- by one of two tests
pub least_of_two : (p q : ℕ → Bool) (r s : Option ℕ) → IsLeast p r → IsLeast q s → IsLeast (λ a. p a || q a) (lower r s)
least_of_two p q None None h k = λ a. or_from (p a) (q a) (h a) (k a)
least_of_two p q None (Some b) h k = (or_right (p b) (q b) k.0, λ a l. or_from (p a) (q a) (h a) (k.1 a l))
least_of_two p q (Some a) None h k = (or_left (p a) (q a) h.0, λ b l. or_from (p b) (q b) (h.1 b l) (k b))
least_of_two p q (Some a) (Some b) h k =
    elim (cases_lt a b) [
      | inl less ↦
          let e : min a b ≡ a = omega arith in
          rw e (or_left (p a) (q a) h.0, λ c l. or_from (p c) (q c) (h.1 c l) (k.1 c (omega arith)))
      | inr more ↦
          let e : min a b ≡ b = omega arith in
          rw e (or_right (p b) (q b) k.0, λ c l. or_from (p c) (q c) (h.1 c (omega arith)) (k.1 c l))
    ]

-- with one more test
pub least_more : {X : Type 0} (p : X → ℕ → Bool) (xs : List X) (i : ℕ) (d : X) (a b r : Option ℕ) → i < length xs → r ≡ lower a b → IsLeast (λ n. list_any (λ x. p x n) (take i xs)) a → IsLeast (p (get_or xs i d)) b → IsLeast (λ n. list_any (λ x. p x n) (take (i + 1) xs)) r
least_more p xs i d a b r l is h k =
    subst (λ o. IsLeast (λ n. list_any (λ x. p x n) (take (i + 1) xs)) o) (sym is)
    (least_same _ _ (λ n. sym (list_any_more (λ x. p x n) xs i d l)) (lower a b) (least_of_two (λ n. list_any (λ x. p x n) (take i xs)) (p (get_or xs i d)) a b h k))

-- with all
pub least_all : {X : Type 0} (p : X → ℕ → Bool) (xs : List X) (i : ℕ) (r : Option ℕ) → length xs ≤ i → IsLeast (λ n. list_any (λ x. p x n) (take i xs)) r → IsLeast (λ n. list_any (λ x. p x n) xs) r
least_all p xs i r l h = subst (λ ys. IsLeast (λ n. list_any (λ x. p x n) ys) r) (take_all i xs l) h

-- ---- below a bound

below_none : (p : ℕ → Bool) (n : ℕ) → ((a : ℕ) → a < n → p a ≡ false) → least_below p n ≡ None
unfolding least_below
below_none p zero h = refl
below_none p (suc n) h =
    rw (below_none p n (λ a l. h a (omega arith)), h n (omega arith)) refl

below_some : (p : ℕ → Bool) (a : ℕ) → p a ≡ true → ((b : ℕ) → b < a → p b ≡ false) → (n : ℕ) → a < n → least_below p n ≡ Some a
unfolding least_below
below_some p a here before zero l = absurd (omega arith)
below_some p a here before (suc n) l =
    elim (cases_lt a n) [
      | inl less ↦ ap (λ o. option_or o (if p n then Some n else None)) (below_some p a here before n less)
      | inr more ↦
          let e : n ≡ a = omega arith in
          ap (λ o. option_or o (if p n then Some n else None)) (below_none p n (λ b m. before b (omega arith)))
          ∙ ap (λ k. if p k then Some k else None) e
          ∙ ap (λ b. if b then Some a else None) here
    ]

-- the least number is the least below a bound where each that passes is below it
pub least_is : (p : ℕ → Bool) (n : ℕ) (r : Option ℕ) → IsLeast p r → ((a : ℕ) → p a ≡ true → a < n) → least_below p n ≡ r
least_is p n None h small = below_none p n (λ a l. h a)
least_is p n (Some a) h small = below_some p a h.0 h.1 n (small a h.0)
