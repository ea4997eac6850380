-- The first of what is named, found by its index.
use Rattle.std.proofs.Common.{◌≡◌, ℕ, suc, ◌+◌, Bool, true, false, cond, List, [], ◌∷◌, ◌++◌, map, Option, Some, None, refl, sym, ap, ◌∙◌, arith}
use Rattle.std.specs.Prelude.{◌&&◌, filter, option_map, slice_get}
use Rattle.std.specs.Option.{option_map_or}
use Rattle.std.specs.List.{cons_option, enumerate_from, filter_map, find, flat_map, list_all}
use Rattle.std.proofs.lemmas.Bool.{and_parts}
use Rattle.std.proofs.lemmas.List.{map-append}
use Rattle.std.proofs.lemmas.List.Concat.{flat_map-cons}
use Rattle.std.proofs.lemmas.List.Elements.{filter-append}

pub filter-flat : {X Y : Type 0} (test : Y → Bool) (f : X → List Y) (xs : List X) → filter test (flat_map f xs) ≡ flat_map (λ x. filter test (f x)) xs
filter-flat test f [] = refl
filter-flat test f (x ∷ xs) =
    ap (filter test) (flat_map-cons f x xs)
    ∙ filter-append test (f x) (flat_map f xs)
    ∙ ap (λ ys. filter test (f x) ++ ys) (filter-flat test f xs)
    ∙ sym (flat_map-cons (λ x. filter test (f x)) x xs)

-- those that pass two tests
pub filter_twice : {X : Type 0} (a b : X → Bool) (xs : List X) → filter b (filter a xs) ≡ filter (λ x. a x && b x) xs
filter_twice a b [] = refl
filter_twice a b (x ∷ xs) =
    elim (a x) as (λ t. filter b (cond t (x ∷ filter a xs) (filter a xs)) ≡ cond (t && b x) (x ∷ filter (λ x. a x && b x) xs) (filter (λ x. a x && b x) xs)) [
      | true ↦ ap (λ ys. cond (b x) (x ∷ ys) ys) (filter_twice a b xs)
      | false ↦ filter_twice a b xs
    ]

pub filter_same : {X : Type 0} (a b : X → Bool) → ((x : X) → a x ≡ b x) → (xs : List X) → filter a xs ≡ filter b xs
filter_same a b same [] = refl
filter_same a b same (x ∷ xs) = (λ i. cond (same x i) (x ∷ filter_same a b same xs i) (filter_same a b same xs i))

-- the first that passes, of those that pass
pub first_found : {P N : Type 0} (test : P → Bool) (f : P → N) (xs : List P) → slice_get (map f (filter test xs)) 0 ≡ option_map f (find test xs)
first_found test f [] = refl
first_found test f (x ∷ xs) =
    elim (test x) as (λ b. slice_get (map f (cond b (x ∷ filter test xs) (filter test xs))) 0 ≡ option_map f (cond b (Some x) (find test xs))) [
      | true ↦ refl
      | false ↦ first_found test f xs
    ]

-- ---- one by one

-- of elements, each with its item
pub filtered : {X Y P N : Type 0} (by : Y → Bool) (n : X → Y) (test : P → Bool) (item : X → P) (out : Y → N) (f : P → N) (ok : X → Bool)
    → ((x : X) → ok x ≡ true → by (n x) ≡ test (item x)) → ((x : X) → out (n x) ≡ f (item x))
    → (xs : List X) → list_all ok xs ≡ true → map out (filter by (map n xs)) ≡ map f (filter test (map item xs))
filtered by n test item out f ok same is [] all = refl
filtered {X} {Y} {P} by n test item out f ok same is (x ∷ xs) all =
    let parts = and_parts (ok x) (list_all ok xs) all in
    let rest = filtered by n test item out f ok same is xs parts.1 in
    let left : List Y = filter by (map n xs) in
    let right : List P = filter test (map item xs) in
    ap (λ b. map out (cond b (n x ∷ left) left)) (same x parts.0)
    ∙ elim (test (item x)) as (λ b. map out (cond b (n x ∷ left) left) ≡ map f (cond b (item x ∷ right) right)) [
      | true ↦ λ i. is x i ∷ rest i
      | false ↦ rest
    ]

-- of elements, each with its item if it has one
pub filtered_some : {X Y P N : Type 0} (by : Y → Bool) (n : X → Y) (test : P → Bool) (item : X → Option P) (out : Y → N) (f : P → N) (ok : X → Bool)
    → ((x : X) → ok x ≡ true → by (n x) ≡ option_map_or test (item x) false) → ((x : X) (p : P) → item x ≡ Some p → out (n x) ≡ f p)
    → (xs : List X) → list_all ok xs ≡ true → map out (filter by (map n xs)) ≡ map f (filter test (filter_map item xs))
filtered_some by n test item out f ok same is [] all = refl
filtered_some {X} {Y} {P} by n test item out f ok same is (x ∷ xs) all =
    let parts = and_parts (ok x) (list_all ok xs) all in
    let rest = filtered_some by n test item out f ok same is xs parts.1 in
    let left : List Y = filter by (map n xs) in
    let right : List P = filter_map item xs in
    ap (λ b. map out (cond b (n x ∷ left) left)) (same x parts.0)
    ∙ elim (item x) as (λ o. item x ≡ o → map out (cond (option_map_or test o false) (n x ∷ left) left) ≡ map f (filter test (cons_option o right))) [
      | None ↦ λ _. rest
      | Some p ↦ λ e.
          elim (test p) as (λ b. map out (cond b (n x ∷ left) left) ≡ map f (cond b (p ∷ filter test right) (filter test right))) [
            | true ↦ λ i. is x p e i ∷ rest i
            | false ↦ rest
          ]
    ] refl

filter_both : {P N : Type 0} (test : P → Bool) (f : P → N) (xs ys : List P) → map f (filter test xs) ++ map f (filter test ys) ≡ map f (filter test (xs ++ ys))
filter_both test f xs ys = sym (map-append f (filter test xs) (filter test ys)) ∙ ap (map f) (sym (filter-append test xs ys))

-- of elements, each with its items
pub flat_filtered : {X Y P N : Type 0} (by : Y → List N) (n : X → Y) (test : P → Bool) (items : X → List P) (f : P → N) (ok : X → Bool)
    → ((x : X) → ok x ≡ true → by (n x) ≡ map f (filter test (items x)))
    → (xs : List X) → list_all ok xs ≡ true → flat_map by (map n xs) ≡ map f (filter test (flat_map items xs))
flat_filtered by n test items f ok same [] all = refl
flat_filtered by n test items f ok same (x ∷ xs) all =
    let parts = and_parts (ok x) (list_all ok xs) all in
    flat_map-cons by (n x) (map n xs)
    ∙ (λ i. same x parts.0 i ++ flat_filtered by n test items f ok same xs parts.1 i)
    ∙ filter_both test f (items x) (flat_map items xs)
    ∙ ap (λ ys. map f (filter test ys)) (sym (flat_map-cons items x xs))

-- of elements with their indexes
numbered_filtered : {X Y P N : Type 0} (by : Y → List N) (n : X → Y) (test : P → Bool) (items : ℕ × X → List P) (f : P → N) (ok : X → Bool) (from : ℕ) (xs : List X)
    → ((k : ℕ) (x : X) → slice_get xs k ≡ Some x → ok x ≡ true → by (n x) ≡ map f (filter test (items (from + k, x))))
    → list_all ok xs ≡ true → flat_map by (map n xs) ≡ map f (filter test (flat_map items (enumerate_from from xs)))
numbered_filtered by n test items f ok from [] same all = refl
numbered_filtered {X} by n test items f ok from (x ∷ xs) same all =
    let parts = and_parts (ok x) (list_all ok xs) all in
    let here : by (n x) ≡ map f (filter test (items (from, x))) = same 0 x refl parts.0 ∙ ap (λ m. map f (filter test (items (m, x)))) (omega arith) in
    let later : (k : ℕ) (y : X) → slice_get xs k ≡ Some y → ok y ≡ true → by (n y) ≡ map f (filter test (items (from + 1 + k, y))) = λ k y e h.
    same (suc k) y e h ∙ ap (λ m. map f (filter test (items (m, y)))) (omega arith) in
    flat_map-cons by (n x) (map n xs)
    ∙ (λ i. here i ++ numbered_filtered by n test items f ok (from + 1) xs later parts.1 i)
    ∙ filter_both test f (items (from, x)) (flat_map items (enumerate_from (from + 1) xs))
    ∙ ap (λ ys. map f (filter test ys)) (sym (flat_map-cons items (from, x) (enumerate_from (from + 1) xs)))

-- what these elements name is what the items that pass are
pub all_by_index : {X Y P N : Type 0} (by : Y → List N) (n : X → Y) (test : P → Bool) (items : ℕ × X → List P) (f : P → N) (ok : X → Bool) (xs : List X)
    → ((k : ℕ) (x : X) → slice_get xs k ≡ Some x → ok x ≡ true → by (n x) ≡ map f (filter test (items (k, x))))
    → list_all ok xs ≡ true → flat_map by (map n xs) ≡ map f (filter test (flat_map items (enumerate_from 0 xs)))
all_by_index by n test items f ok xs same all =
    numbered_filtered by n test items f ok 0 xs (λ k x e h. same k x e h ∙ ap (λ m. map f (filter test (items (m, x)))) (omega arith)) all

-- the first of what they name is the first item that passes
pub first_by_index : {X Y P N : Type 0} (by : Y → List N) (n : X → Y) (test : P → Bool) (items : ℕ × X → List P) (f : P → N) (ok : X → Bool) (xs : List X)
    → ((k : ℕ) (x : X) → slice_get xs k ≡ Some x → ok x ≡ true → by (n x) ≡ map f (filter test (items (k, x))))
    → list_all ok xs ≡ true → slice_get (flat_map by (map n xs)) 0 ≡ option_map f (find test (flat_map items (enumerate_from 0 xs)))
first_by_index by n test items f ok xs same all =
    ap (λ ys. slice_get ys 0) (all_by_index by n test items f ok xs same all) ∙ first_found test f (flat_map items (enumerate_from 0 xs))
