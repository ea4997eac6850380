-- Searches, tests and sums that have the same answer over another list.
use Rattle.std.proofs.Common.{◌≡◌, ℕ, suc, ◌+◌, ◌<◌, Bool, true, List, [], ◌∷◌, ◌++◌, length, map, Option, Some, refl, sym, ap, ◌∙◌, arith}
use Rattle.std.specs.Prelude.{◌==◌, nat_lt, not, slice_get}
use Rattle.std.specs.Option.{option_or}
use Rattle.std.specs.List.{list_all, sum, sum_by, enumerate_from}
use Rattle.std.proofs.lemmas.Bool.{and_parts}
use Rattle.std.proofs.lemmas.Bool.Decides.{nat_tests}
use Rattle.std.proofs.lemmas.List.{length-map, map_push}
use Rattle.std.proofs.lemmas.List.Folds.{list_all-map}
use Rattle.std.proofs.lemmas.List.Sums.{sum-map}
use Rattle.muen_num.specs.Search.{first_in, first_after}
use Rattle.muen_num.proofs.Lists.{all_same, all_true}

-- ---- over another list

pub first_in_same : {X O : Type 0} (at by : X → Option O) → ((x : X) → at x ≡ by x) → (xs : List X) → first_in at xs ≡ first_in by xs
first_in_same at by same [] = refl
first_in_same at by same (x ∷ xs) = ap (λ o. option_or o (first_in at xs)) (same x) ∙ ap (option_or (by x)) (first_in_same at by same xs)

pub first_in-map : {X Y O : Type 0} (f : X → Y) (at : Y → Option O) (by : X → Option O) (ok : X → Bool) → ((x : X) → ok x ≡ true → at (f x) ≡ by x)
    → (xs : List X) → list_all ok xs ≡ true → first_in at (map f xs) ≡ first_in by xs
first_in-map f at by ok same [] all = refl
first_in-map f at by ok same (x ∷ xs) all =
    let parts = and_parts (ok x) (list_all ok xs) all in
    ap (λ o. option_or o (first_in at (map f xs))) (same x parts.0) ∙ ap (option_or (by x)) (first_in-map f at by ok same xs parts.1)

pub first_numbered-map : {X Y O : Type 0} (f : X → Y) (at : ℕ × Y → Option O) (by : ℕ × X → Option O) (ok : X → Bool) → ((n : ℕ) (x : X) → ok x ≡ true → at (n, f x) ≡ by (n, x))
    → (n : ℕ) (xs : List X) → list_all ok xs ≡ true → first_in at (enumerate_from n (map f xs)) ≡ first_in by (enumerate_from n xs)
first_numbered-map f at by ok same n [] all = refl
first_numbered-map f at by ok same n (x ∷ xs) all =
    let parts = and_parts (ok x) (list_all ok xs) all in
    ap (λ o. option_or o (first_in at (enumerate_from (n + 1) (map f xs)))) (same n x parts.0)
    ∙ ap (option_or (by (n, x))) (first_numbered-map f at by ok same (n + 1) xs parts.1)

-- the same answer at each numbered element
pub both_named : {X Y O : Type 0} (at : ℕ × Y → Option O) (to : ℕ × X → Option O) (f : X → Y) → ((k : ℕ) (x : X) → at (k, f x) ≡ to (k, x)) → (xs : List X) → first_in at (enumerate_from 0 (map f xs)) ≡ first_in to (enumerate_from 0 xs)
both_named at to f same xs = first_numbered-map f at to (λ _. true) (λ k x _. same k x) 0 xs (all_true xs)

-- the same at each element with its index
pub first_numbered_same : {X O : Type 0} (at : X → Option O) (by : ℕ × X → Option O) (n : ℕ) (xs : List X) → ((k : ℕ) (x : X) → slice_get xs k ≡ Some x → at x ≡ by (n + k, x))
    → first_in at xs ≡ first_in by (enumerate_from n xs)
first_numbered_same at by n [] same = refl
first_numbered_same {X} at by n (x ∷ xs) same =
    let here : at x ≡ by (n, x) = same 0 x refl ∙ ap (λ m. by (m, x)) (omega arith) in
    let later : (k : ℕ) (y : X) → slice_get xs k ≡ Some y → at y ≡ by (n + 1 + k, y) = λ k y e. same (suc k) y e ∙ ap (λ m. by (m, y)) (omega arith) in
    ap (λ o. option_or o (first_in at xs)) here ∙ ap (option_or (by (n, x))) (first_numbered_same at by (n + 1) xs later)

pub both_numbered : {X O : Type 0} (at by : ℕ × X → Option O) (n : ℕ) (xs : List X) → ((k : ℕ) (x : X) → k < length xs → at (n + k, x) ≡ by (n + k, x))
    → first_in at (enumerate_from n xs) ≡ first_in by (enumerate_from n xs)
both_numbered at by n [] same = refl
both_numbered {X} at by n (x ∷ xs) same =
    let here : at (n, x) ≡ by (n, x) = ap (λ m. at (m, x)) (omega arith) ∙ same 0 x (omega arith) ∙ ap (λ m. by (m, x)) (omega arith) in
    let later : (k : ℕ) (y : X) → k < length xs → at (n + 1 + k, y) ≡ by (n + 1 + k, y) =
    λ k y l. ap (λ m. at (m, y)) (omega arith) ∙ same (suc k) y (omega arith) ∙ ap (λ m. by (m, y)) (omega arith) in
    ap (λ o. option_or o (first_in at (enumerate_from (n + 1) xs))) here ∙ ap (option_or (by (n, x))) (both_numbered at by (n + 1) xs later)

pub first_after-map : {X Y O : Type 0} (f : X → Y) (at : List Y → Y → Option O) (by : List X → X → Option O) (ok : X → Bool)
    → ((before : List X) (x : X) → ok x ≡ true → at (map f before) (f x) ≡ by before x)
    → (before xs : List X) → list_all ok xs ≡ true → first_after at (map f before) (map f xs) ≡ first_after by before xs
first_after-map f at by ok same before [] all = refl
first_after-map f at by ok same before (x ∷ xs) all =
    let parts = and_parts (ok x) (list_all ok xs) all in
    ap (λ o. option_or o (first_after at (map f before ++ f x ∷ []) (map f xs))) (same before x parts.0)
    ∙ ap (λ ys. option_or (by before x) (first_after at ys (map f xs))) (sym (map_push f before x))
    ∙ ap (option_or (by before x)) (first_after-map f at by ok same (before ++ x ∷ []) xs parts.1)

-- ---- tests and sums

pub list_all_same : {X : Type 0} (p q ok : X → Bool) → ((x : X) → ok x ≡ true → p x ≡ q x) → (xs : List X) → list_all ok xs ≡ true → list_all p xs ≡ list_all q xs
list_all_same p q ok same xs all =
    sym (list_all-map (λ b. b) p xs) ∙ ap (list_all (λ b. b)) (all_same p q ok same xs all) ∙ list_all-map (λ b. b) q xs

pub sum_by_same : {X : Type 0} (f g : X → ℕ) (ok : X → Bool) → ((x : X) → ok x ≡ true → f x ≡ g x) → (xs : List X) → list_all ok xs ≡ true → sum_by f xs ≡ sum_by g xs
sum_by_same f g ok same xs all = sym (sum-map f xs) ∙ ap sum (all_same f g ok same xs all) ∙ sum-map g xs

-- as many images as elements, of which there are some
above_none : (n : ℕ) → nat_lt 0 n ≡ not (n == 0)
above_none n = grind (arith, nat_tests)

pub some_items : {X Y : Type 0} (f : X → Y) (xs : List X) → nat_lt 0 (length (map f xs)) ≡ not (length xs == 0)
some_items f xs = ap (nat_lt 0) (length-map xs f) ∙ above_none (length xs)
