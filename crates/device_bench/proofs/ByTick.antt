-- What stands by its ticks is found by a test of ticks.
use Rattle.std.proofs.Common.{◌≡◌, ℕ, zero, suc, ◌+◌, ◌-◌, ◌<◌, ◌≤◌, ◌==◌, Bool, true, false, List, [], ◌∷◌, length, get_or, take, drop, filter, Option, Some, None, refl, sym, subst, map, ap, inl, inr, ◌⊎◌, arith}
use Rattle.std.specs.Prelude.{slice_get, if◌then◌else◌}
use Rattle.std.specs.List.{AllWithin, find}
use Rattle.std.specs.List.Sorted.{IsNonDecreasing, IsNonDecreasingBy, IsStrictlyIncreasing}
use Rattle.std.proofs.lemmas.List.{length-map, get_or-map}
use Rattle.std.proofs.lemmas.List.Sorted.{IsNonDecreasingBy-from_all_adjacent}
use Rattle.std.proofs.lemmas.Bool.{eq-eqb, ne_eqb, eqb-false}

module _ {X : Type 0} (n : X → ℕ) (t : ℕ) where
  abbrev is_then : X → Bool
  is_then x = n x == t

  same : (m : ℕ) → t ≤ m → m < t + 1 → (m == t) ≡ true
  same m h g = let e : m ≡ t = omega arith in eq-eqb m t e

  other : (m : ℕ) → (m < t) ⊎ (t + 1 ≤ m) → (m == t) ≡ false
  other m (inl h) = ne_eqb m t (λ e. omega arith)
  other m (inr h) = ne_eqb m t (λ e. omega arith)

  -- none is of that tick
  none_then : (xs : List X) → ((k : ℕ) (d : X) → k < length xs → is_then (get_or xs k d) ≡ false) → filter is_then xs ≡ []
  none_then [] h = refl
  none_then (x ∷ xs) h = rw (h 0 x (omega arith)) (none_then xs (λ k d l. h (suc k) d (omega arith)))

  -- the first j are of that tick, and no others
  first_then : (j : ℕ) (xs : List X) → ((k : ℕ) (d : X) → k < j → k < length xs → is_then (get_or xs k d) ≡ true) → ((k : ℕ) (d : X) → j ≤ k → k < length xs → is_then (get_or xs k d) ≡ false) → take j xs ≡ filter is_then xs
  first_then zero xs h g = let e = none_then xs (λ k d l. g k d (omega arith) l) in rw e refl
  first_then (suc j) [] h g = refl
  first_then (suc j) (x ∷ xs) h g =
      rw (h 0 x (omega arith) (omega arith)) (ap (λ ys. x ∷ ys) (first_then j xs (λ k d l m. h (suc k) d (omega arith) (omega arith)) (λ k d l m. g (suc k) d (omega arith) (omega arith))))

  -- i are earlier, then come those of that tick, up to the first j, and the others are later
  pub run_then : (i j : ℕ) (xs : List X) → AllWithin (λ x. n x < t) xs 0 i → AllWithin (λ x. t ≤ n x) xs i (length xs) → AllWithin (λ x. n x < t + 1) xs 0 j → AllWithin (λ x. t + 1 ≤ n x) xs j (length xs) → i ≤ length xs → take (j - i) (drop i xs) ≡ filter is_then xs
  run_then zero j xs before from within past l =
      first_then (j - 0) xs (λ k d l m. same _ (from k d (omega arith) m) (within k d (omega arith) (omega arith))) (λ k d l m. other _ (inr (past k d (omega arith) m)))
  run_then (suc i) j [] before from within past l = absurd (omega arith)
  run_then (suc i) zero (x ∷ xs) before from within past l =
      absurd (let a = before 0 x (omega arith) (omega arith) in let b = past 0 x (omega arith) (omega arith) in omega (arith, a, b))
  run_then (suc i) (suc j) (x ∷ xs) before from within past l =
      let e : suc j - suc i ≡ j - i = omega arith in
      rw (other (n x) (inl (before 0 x (omega arith) (omega arith))), e) (run_then i j xs (λ k d l m. before (suc k) d (omega arith) (omega arith)) (λ k d l m. from (suc k) d (omega arith) (omega arith)) (λ k d l m. within (suc k) d (omega arith) (omega arith)) (λ k d l m. past (suc k) d (omega arith) (omega arith)) (omega arith))

  -- what is earlier ends before what isn't later does
  pub ends_in_order : (i j : ℕ) (xs : List X) → AllWithin (λ x. n x < t) xs 0 i → AllWithin (λ x. t + 1 ≤ n x) xs j (length xs) → i ≤ length xs → i ≤ j
  ends_in_order zero j xs before past l = omega arith
  ends_in_order (suc i) j [] before past l = absurd (omega arith)
  ends_in_order (suc i) zero (x ∷ xs) before past l =
      absurd (let a = before 0 x (omega arith) (omega arith) in let b = past 0 x (omega arith) (omega arith) in omega (arith, a, b))
  ends_in_order (suc i) (suc j) (x ∷ xs) before past l =
      let h = ends_in_order i j xs (λ k d l m. before (suc k) d (omega arith) (omega arith)) (λ k d l m. past (suc k) d (omega arith) (omega arith)) (omega arith) in
      omega (arith, h)

  -- none is found
  none_found : (xs : List X) → ((k : ℕ) (d : X) → k < length xs → is_then (get_or xs k d) ≡ false) → find is_then xs ≡ None
  none_found [] h = refl
  none_found (x ∷ xs) h = rw (h 0 x (omega arith)) (none_found xs (λ k d l. h (suc k) d (omega arith)))

  -- by the one that stands behind those that are earlier
  abbrev pub by_next : Option X → Option X
  by_next None = None
  by_next (Some x) = if n x == t then Some x else None

  pub found_next : (i : ℕ) (xs : List X) → AllWithin (λ x. n x < t) xs 0 i → AllWithin (λ x. t ≤ n x) xs i (length xs) → IsNonDecreasingBy n xs → by_next (slice_get xs i) ≡ find is_then xs
  found_next zero [] before from rise = refl
  found_next zero (x ∷ xs) before from rise = here (n x == t) refl
    where
      here : (b : Bool) → (n x == t) ≡ b → (if b then Some x else None) ≡ (if b then Some x else find is_then xs)
      here true e = refl
      here false e = sym (none_found xs (λ k d l. other _ (inr (above k d l))))
        where
          above : (k : ℕ) (d : X) → k < length xs → t + 1 ≤ n (get_or xs k d)
          above k d l =
              let a = from 0 x (omega arith) (omega arith) in
              let b = rise 0 (suc k) d (omega arith) (omega arith) in
              let c = eqb-false (n x) t e in
              omega (arith, a, b, c)
  found_next (suc i) [] before from rise = refl
  found_next (suc i) (x ∷ xs) before from rise =
      rw (other (n x) (inl (before 0 x (omega arith) (omega arith)))) (found_next i xs (λ k d l m. before (suc k) d (omega arith) (omega arith)) (λ k d l m. from (suc k) d (omega arith) (omega arith)) (λ k m d l h. rise (suc k) (suc m) d (omega arith) (omega arith)))

-- ---- from tick to tick, and over all

-- a neighbour's tick is no lower
pub by_neighbours : {X : Type 0} (n : X → ℕ) (xs : List X) → ((k : ℕ) → k + 1 < length xs → get_or (map n xs) k 0 ≤ get_or (map n xs) (k + 1) 0) → IsNonDecreasingBy n xs
by_neighbours n xs h =
    IsNonDecreasingBy-from_all_adjacent n xs (λ k d l. subst (λ z. z ≤ n (get_or xs (k + 1) d)) (get_or-map n xs k d 0 (omega arith)) (subst (λ z. get_or (map n xs) k 0 ≤ z) (get_or-map n xs (k + 1) d 0 l) (h k l)))

pub inputs_by : {X : Type 0} (n : X → ℕ) (xs : List X) → IsNonDecreasing (map n xs) → IsNonDecreasingBy n xs
inputs_by n xs h =
    by_neighbours n xs (λ k l. h k (k + 1) 0 (omega arith) (subst (λ z. k + 1 < z) (sym (length-map xs n)) l))

pub orders_by : {X : Type 0} (n : X → ℕ) (xs : List X) → IsStrictlyIncreasing (map n xs) → IsNonDecreasingBy n xs
orders_by n xs h =
    by_neighbours n xs (λ k l. let m = h k (subst (λ z. k + 1 < z) (sym (length-map xs n)) l) in omega (arith, m))
