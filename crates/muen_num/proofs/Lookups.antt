-- Laws of names that are compared, and of what is found first in a list and the index at which it stands.
use Rattle.std.proofs.Common.{◌≡◌, ℕ, zero, suc, ◌+◌, ◌<◌, ◌≤◌, Bool, true, false, cond, not, List, [], ◌∷◌, ◌++◌, length, Some, None, is_some, find, position, nat_lt, refl, sym, ap, ◌∙◌, arith}
use Rattle.std.specs.Prelude.{◌||◌, slice_get}
use Rattle.std.specs.List.{list_all, list_any, position_or_len, sum_by}
use Rattle.std.specs.Option.{option_or}
use Rattle.std.specs.Str.{bytes_eq}
use Rattle.std.specs.Cmp.Lexicographic.{nat_list_eq_equiv}
use Rattle.std.proofs.lemmas.Bool.{and_parts, lt-ltb}
use Rattle.std.proofs.lemmas.Bool.Decides.{nat_tests}
use Rattle.std.proofs.lemmas.List.Folds.{find-append, find_at}
use Rattle.std.proofs.lemmas.List.Sums.{sum_by-cons}
use Rattle.std.proofs.lemmas.Slice.Eq.{bytes_eq-Decides}
use Rattle.muen_num.proofs.Members.{find_in}
use Rattle.muen_num.proofs.Options.{some_if}

-- ---- names

pub same_self : (x : List ℕ) → bytes_eq x x ≡ true
same_self x = nat_list_eq_equiv.refl x

pub same_names : (a b : List ℕ) → bytes_eq a b ≡ true → a ≡ b
same_names a b h = (bytes_eq-Decides a b).0 h

-- another name, told the other way round
pub other_way : (a b : List ℕ) → bytes_eq a b ≡ false → bytes_eq b a ≡ false
other_way a b ne = sym (nat_list_eq_equiv.symm a b) ∙ ne

-- ---- what is found

pub found_passes : {X : Type 0} (test : X → Bool) (xs : List X) (x : X) → find test xs ≡ Some x → test x ≡ true
found_passes test xs x h = (find_in test xs x h).1

-- what isn't in the first of two lists is found in the second, if anywhere
pub found_behind : {X : Type 0} (test : X → Bool) (xs ys : List X) → find test xs ≡ None → find test (xs ++ ys) ≡ find test ys
found_behind test xs ys none = find-append test xs ys ∙ ap (λ o. option_or o (find test ys)) none

-- something is found just where something passes
pub found_any : {X : Type 0} (test : X → Bool) (xs : List X) → is_some (find test xs) ≡ list_any test xs
found_any test [] = refl
found_any test (x ∷ xs) =
    elim (test x) as (λ b. is_some (cond b (Some x) (find test xs)) ≡ (b || list_any test xs)) [
      | true ↦ refl
      | false ↦ found_any test xs
    ]

-- ---- the index at which it stands

-- something is found where this index is one of the list
pub found_position : {X : Type 0} (p : X → Bool) (xs : List X) → nat_lt (position_or_len p xs) (length xs) ≡ is_some (find p xs)
found_position p [] = refl
found_position p (x ∷ xs) =
    elim (p x) as (λ b. nat_lt (cond (not b) (1 + position_or_len p xs) 0) (length (x ∷ xs)) ≡ is_some (cond b (Some x) (find p xs))) [
      | true ↦ grind (arith, nat_tests)
      | false ↦ let e : nat_lt (1 + position_or_len p xs) (length (x ∷ xs)) ≡ nat_lt (position_or_len p xs) (length xs) = grind (arith, nat_tests) in e ∙ found_position p xs
    ]

-- what is found has an index
pub found_index : {X : Type 0} (test : X → Bool) (xs : List X) (x : X) → find test xs ≡ Some x → (k : ℕ) × (slice_get xs k ≡ Some x)
found_index test xs x h = (position_or_len test xs, sym (find_at test xs) ∙ h)

-- and where there is an index
pub found_number : {X : Type 0} (p : X → Bool) (xs : List X) → is_some (position p xs) ≡ is_some (find p xs)
found_number p xs = some_if (nat_lt (position_or_len p xs) (length xs)) (position_or_len p xs) ∙ found_position p xs

pub position_there : {X : Type 0} (test : X → Bool) (xs : List X) → position_or_len test xs < length xs → position test xs ≡ Some (position_or_len test xs)
position_there test xs l = ap (λ b. cond b (Some (position_or_len test xs)) None) (lt-ltb (position_or_len test xs) (length xs) l)

-- what stands at the index of the first that passes is that
pub at_position : {X : Type 0} (test : X → Bool) (xs : List X) (k : ℕ) → position test xs ≡ Some k → slice_get xs k ≡ find test xs
at_position test xs k is =
    elim (nat_lt (position_or_len test xs) (length xs)) as (λ b. cond b (Some (position_or_len test xs)) None ≡ Some k → slice_get xs k ≡ find test xs) [
      | true ↦ λ e. let same : position_or_len test xs ≡ k = cc (e) in sym (find_at test xs ∙ ap (slice_get xs) same)
      | false ↦ λ e. absurd (cc (e))
    ] is

-- of two tests that agree on each element
pub index_same : {X : Type 0} (p q ok : X → Bool) → ((x : X) → ok x ≡ true → p x ≡ q x) → (xs : List X) → list_all ok xs ≡ true → position_or_len p xs ≡ position_or_len q xs
index_same p q ok same [] all = refl
index_same p q ok same (x ∷ xs) all =
    let parts = and_parts (ok x) (list_all ok xs) all in
    ap (λ b. cond (not b) (1 + position_or_len p xs) 0) (same x parts.0)
    ∙ ap (λ n. cond (not (q x)) (1 + n) 0) (index_same p q ok same xs parts.1)

-- ---- by what is summed

-- where what is summed is 0 but where the test passes, and isn't 0 in all, some element passes
pub some_passes : {X : Type 0} (test : X → Bool) (f : X → ℕ) → ((x : X) → test x ≡ false → f x ≡ 0) → (xs : List X) → 0 < sum_by f xs → position_or_len test xs < length xs
some_passes test f none [] l = absurd (omega (arith, l))
some_passes test f none (x ∷ xs) l =
    let sum : sum_by f (x ∷ xs) ≡ f x + sum_by f xs = sum_by-cons f x xs in
    elim (test x) as (λ b. test x ≡ b → cond (not b) (1 + position_or_len test xs) 0 < suc (length xs)) [
      | true ↦ λ _. omega arith
      | false ↦ λ e.
          let zero : f x ≡ 0 = none x e in
          let later : position_or_len test xs < length xs = some_passes test f none xs (omega (arith, l, sum, zero)) in
          omega (arith, later)
    ] refl

-- where what is summed is at least 1 wherever the test passes, and at most 1 in all, only one element passes
pub only_index : {X : Type 0} (test : X → Bool) (f : X → ℕ) → ((x : X) → test x ≡ true → 1 ≤ f x) → (xs : List X) (j : ℕ) (x : X) → sum_by f xs ≤ 1 → slice_get xs j ≡ Some x → test x ≡ true → position_or_len test xs ≡ j
only_index test f counts [] j x few at passes = absurd (cc)
only_index test f counts (y ∷ ys) zero x few at passes =
    let same : y ≡ x = cc in
    ap (λ b. cond (not b) (1 + position_or_len test ys) 0) (ap test same ∙ passes)
only_index {X} test f counts (y ∷ ys) (suc j) x few at passes =
    let sum : sum_by f (y ∷ ys) ≡ f y + sum_by f ys = sum_by-cons f y ys in
    let fewer : sum_by f ys ≤ 1 = omega (arith, sum, few) in
    let later : position_or_len test ys ≡ j = only_index test f counts ys j x fewer at passes in
    let some : 1 ≤ sum_by f ys = at_least test f counts ys j x at passes in
    elim (test y) as (λ b. test y ≡ b → cond (not b) (1 + position_or_len test ys) 0 ≡ suc j) [
      | true ↦ λ e. let here : 1 ≤ f y = counts y e in absurd (omega (arith, here, some, sum, few))
      | false ↦ λ _. omega (arith, later)
    ] refl
  where
    at_least : {X : Type 0} (test : X → Bool) (f : X → ℕ) → ((x : X) → test x ≡ true → 1 ≤ f x) → (xs : List X) (j : ℕ) (x : X) → slice_get xs j ≡ Some x → test x ≡ true → 1 ≤ sum_by f xs
    at_least test f counts [] j x at passes = absurd (cc)
    at_least test f counts (y ∷ ys) zero x at passes =
        let same : y ≡ x = cc in
        let here : 1 ≤ f y = counts y (ap test same ∙ passes) in
        let sum : sum_by f (y ∷ ys) ≡ f y + sum_by f ys = sum_by-cons f y ys in
        omega (arith, here, sum)
    at_least test f counts (y ∷ ys) (suc j) x at passes =
        let later : 1 ≤ sum_by f ys = at_least test f counts ys j x at passes in
        let sum : sum_by f (y ∷ ys) ≡ f y + sum_by f ys = sum_by-cons f y ys in
        omega (arith, later, sum)
