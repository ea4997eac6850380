-- The numbers below a bound.
use Rattle.std.proofs.Common.{◌≡◌, ℕ, zero, suc, ◌+◌, ◌<◌, Bool, true, false, not, [], ◌∷◌, ◌++◌, length, get_or, map, Some, refl, sym, ap, ◌∙◌, inl, inr, arith, add-one, length-append}
use Rattle.std.specs.Prelude.{◌&&◌, ◌||◌, slice_get}
use Rattle.std.specs.List.{list_all, list_any, enumerate_from}
use Rattle.std.proofs.lemmas.Bool.{and_from, and_parts, cases_eq, cases_lt}
use Rattle.std.proofs.lemmas.List.{get_or-map, length-map, map-append, map_push}
use Rattle.std.proofs.lemmas.List.Folds.{list_all-append, list_any-append}
use Rattle.std.proofs.lemmas.Option.{get_or_from_slice_get}
use Rattle.std.proofs.Math.Bool.{or-true}
use Rattle.muen_num.specs.Range.{numbers_below}
use Rattle.muen_num.proofs.Lists.{enumerate_push, get_left, get_right}

-- there are n numbers below n
pub length_numbers : (n : ℕ) → length (numbers_below n) ≡ n
length_numbers zero = refl
length_numbers (suc n) =
    let before : length (numbers_below n) ≡ n = length_numbers n in
    let more : length (numbers_below n ++ n ∷ []) ≡ length (numbers_below n) + 1 = length-append (numbers_below n) (n ∷ []) in
    omega (arith, before, more)

-- one number more
pub one_more : (n : ℕ) → numbers_below (n + 1) ≡ numbers_below n ++ n ∷ []
one_more n = ap numbers_below (add-one n)

-- and each stands at its own index
pub number_at : (n k : ℕ) → k < n → slice_get (numbers_below n) k ≡ Some k
number_at zero k l = absurd (omega arith)
number_at (suc n) k l =
    let many : length (numbers_below n) ≡ n = length_numbers n in
    elim (cases_lt k n) as (λ _. slice_get (numbers_below n ++ n ∷ []) k ≡ Some k) [
      | inl h ↦ get_left (numbers_below n) (n ∷ []) k (omega (arith, many, h)) ∙ number_at n k h
      | inr h ↦
          let last : k ≡ length (numbers_below n) + 0 = omega (arith, many, h, l) in
          let same : n ≡ k = omega (arith, h, l) in
          ap (slice_get (numbers_below n ++ n ∷ [])) last ∙ get_right (numbers_below n) (n ∷ []) 0 ∙ ap (λ m. Some m) same
    ]

-- of what they are mapped to
pub mapped_at : {X : Type 0} (f : ℕ → X) (n k : ℕ) (d : X) → k < n → get_or (map f (numbers_below n)) k d ≡ f k
mapped_at f n k d l =
    let many : length (numbers_below n) ≡ n = length_numbers n in
    let within : k < length (numbers_below n) = omega arith in
    get_or-map f (numbers_below n) k 0 d within ∙ ap f (get_or_from_slice_get (numbers_below n) k k 0 (number_at n k l))

-- mapped by two functions that are the same at each
pub same_below : {X : Type 0} (f g : ℕ → X) (n : ℕ) → ((k : ℕ) → k < n → f k ≡ g k) → map f (numbers_below n) ≡ map g (numbers_below n)
same_below f g zero h = refl
same_below f g (suc n) h =
    let rest = same_below f g n (λ k l. h k (omega (arith, l))) in
    let last = h n (omega arith) in
    map-append f (numbers_below n) (n ∷ []) ∙ (λ i. rest i ++ last i ∷ []) ∙ sym (map-append g (numbers_below n) (n ∷ []))

-- one that passes
pub any_below : (test : ℕ → Bool) (n k : ℕ) → k < n → test k ≡ true → list_any test (numbers_below n) ≡ true
any_below test zero k l h = absurd (omega arith)
any_below test (suc n) k l h =
    list_any-append test (numbers_below n) (n ∷ [])
    ∙ elim (cases_eq k n) [
      | inl e ↦ ap (λ b. list_any test (numbers_below n) || (b || false)) (sym (ap test e) ∙ h) ∙ or-true (list_any test (numbers_below n))
      | inr ne ↦ ap (λ b. b || (test n || false)) (any_below test n k (omega arith) h)
    ]

one_or_all : (a b c d : Bool) → a ≡ not c → b ≡ not d → (a || (b || false)) ≡ not (c && (d && true))
one_or_all a b true true p q = rw (p, q) refl
one_or_all a b true false p q = rw (p, q) refl
one_or_all a b false d p q = rw p refl

-- some number passes a test just where not each passes the other, where at each just one of two tests passes
pub all_or_one : (f g : ℕ → Bool) (n : ℕ) → ((k : ℕ) → k < n → f k ≡ not (g k)) → list_any f (numbers_below n) ≡ not (list_all g (numbers_below n))
all_or_one f g zero h = refl
all_or_one f g (suc n) h =
    list_any-append f (numbers_below n) (n ∷ [])
    ∙ one_or_all (list_any f (numbers_below n)) (f n) (list_all g (numbers_below n)) (g n) (all_or_one f g n (λ k l. h k (omega (arith, l)))) (h n (omega arith))
    ∙ ap not (sym (list_all-append g (numbers_below n) (n ∷ [])))

-- a test that passes at each number below a bound
pub number_passes : (test : ℕ → Bool) (n k : ℕ) → k < n → list_all test (numbers_below n) ≡ true → test k ≡ true
number_passes test zero k l all = absurd (omega arith)
number_passes test (suc n) k l all =
    let parts = and_parts (list_all test (numbers_below n)) (test n && true) (sym (list_all-append test (numbers_below n) (n ∷ [])) ∙ all) in
    elim (cases_eq k n) as (λ _. test k ≡ true) [
      | inl e ↦ ap test e ∙ (and_parts (test n) true parts.1).0
      | inr ne ↦ number_passes test n k (omega arith) parts.0
    ]

-- a test that passes at each number with what stands for it
pub numbered : {X : Type 0} (test : ℕ × X → Bool) (f : ℕ → X) (n : ℕ) → ((k : ℕ) → k < n → test (k, f k) ≡ true) → list_all test (enumerate_from 0 (map f (numbers_below n))) ≡ true
numbered test f zero passes = refl
numbered test f (suc n) passes =
    let before = map f (numbers_below n) in
    let many : 0 + length before ≡ n = omega (arith, length-map (numbers_below n) f, length_numbers n) in
    let last : test (0 + length before, f n) ≡ true = ap (λ k. test (k, f n)) many ∙ passes n (omega arith) in
    ap (λ xs. list_all test (enumerate_from 0 xs)) (map_push f (numbers_below n) n)
    ∙ ap (list_all test) (enumerate_push 0 before (f n))
    ∙ list_all-append test (enumerate_from 0 before) ((0 + length before, f n) ∷ [])
    ∙ and_from (list_all test (enumerate_from 0 before)) (test (0 + length before, f n) && true)
    (numbered test f n (λ k l. passes k (omega arith)))
    (and_from (test (0 + length before, f n)) true last refl)
