-- The ports that are granted, by number.
use Rattle.std.proofs.Common.{◌≡◌, ℕ, zero, suc, ◌+◌, ◌==◌, Bool, true, false, cond, [], ◌∷◌, refl, ap, ◌∙◌, subst, arith, inl, inr}
use Rattle.std.specs.Prelude.{◌&&◌, ◌||◌, filter, nat_lt}
use Rattle.std.specs.List.{list_any}
use Rattle.std.proofs.lemmas.Bool.{cases_Bool, eqb-true}
use Rattle.std.proofs.lemmas.Bool.Decides.{nat_tests}
use Rattle.std.proofs.lemmas.List.Elements.{filter-append}
use Rattle.std.proofs.lemmas.List.Folds.{list_any-append}
use Rattle.std.proofs.Math.Bool.{or-false}
use Rattle.expand_kernel.specs.Resources.{port_ranges_of, ports_of}
use Rattle.policy_lawful.specs.PortRanges.{has_port}
use Rattle.muen_num.specs.Range.{numbers_below}
use Rattle.muen_num.specs.declared.limits.TheConstants.{LAST_PORT}
use Rattle.policy_lawful.specs.source.Source.{Source}
use Rattle.policy_lawful.specs.source.Subject.{Subject}

picked : (f : ℕ → Bool) (n x : ℕ) → list_any (λ y. y == x) (filter f (n ∷ [])) ≡ (f n && (n == x))
picked f n x = elim (f n) as (λ b. list_any (λ y. y == x) (cond b (n ∷ []) []) ≡ (b && (n == x))) [ true ↦ or-false (n == x) | false ↦ refl ]

at_same : (n : ℕ) (b : Bool) → (nat_lt n n && b || (b && (n == n))) ≡ (nat_lt n (suc n) && b)
at_same n b =
    let low : nat_lt n n ≡ false = grind (arith, nat_tests) in
    let high : nat_lt n (suc n) ≡ true = grind (arith, nat_tests) in
    let here : (n == n) ≡ true = grind (arith, nat_tests) in
    rw (low, high, here) (elim b as (λ b. (false && b || (b && true)) ≡ (true && b)) [ true ↦ refl | false ↦ refl ])

at_other : (n x : ℕ) (a b : Bool) → (n == x) ≡ false → (nat_lt x n && a || (b && (n == x))) ≡ (nat_lt x (suc n) && a)
at_other n x a b other =
    let less : nat_lt x (suc n) ≡ nat_lt x n = grind (arith, nat_tests) in
    let c : Bool = nat_lt x n && a in
    rw (other, less) (elim b as (λ b. (c || (b && false)) ≡ c) [ true ↦ or-false c | false ↦ or-false c ])

last_number : (f : ℕ → Bool) (n x : ℕ) → (nat_lt x n && f x || list_any (λ y. y == x) (filter f (n ∷ []))) ≡ (nat_lt x (suc n) && f x)
last_number f n x =
    ap (λ b. nat_lt x n && f x || b) (picked f n x)
    ∙ elim (cases_Bool (n == x)) [
      | inl same ↦ subst (λ z. (nat_lt z n && f z || (f n && (n == z))) ≡ (nat_lt z (suc n) && f z)) (eqb-true n x same) (at_same n (f n))
      | inr other ↦ at_other n x (f x) (f n) other
    ]

pub any_below : (f : ℕ → Bool) (n x : ℕ) → list_any (λ y. y == x) (filter f (numbers_below n)) ≡ (nat_lt x n && f x)
any_below f zero x = let none : nat_lt x 0 ≡ false = grind (arith, nat_tests) in rw none refl
any_below f (suc n) x =
    ap (list_any (λ y. y == x)) (filter-append f (numbers_below n) (n ∷ []))
    ∙ list_any-append (λ y. y == x) (filter f (numbers_below n)) (filter f (n ∷ []))
    ∙ ap (λ b. b || list_any (λ y. y == x) (filter f (n ∷ []))) (any_below f n x)
    ∙ last_number f n x

pub any_port : (p : Source) (s : Subject) (x : ℕ) → list_any (λ n. n == x) (ports_of p s) ≡ (nat_lt x 65536 && list_any (λ r. has_port r x) (port_ranges_of p s))
unfolding ports_of
any_port p s x = any_below (λ port. list_any (λ r. has_port r port) (port_ranges_of p s)) (LAST_PORT + 1) x
