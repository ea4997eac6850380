-- Lists of images, of which some may be missing: those of other elements, the same one by one.
use Rattle.std.proofs.Common.{◌≡◌, ℕ, suc, ◌+◌, Bool, true, false, cond, List, [], ◌∷◌, ◌++◌, map, Option, Some, None, refl, sym, ap, ◌∙◌, arith}
use Rattle.std.proofs.lemmas.List.{map-append}
use Rattle.std.specs.Prelude.{option_map, slice_get}
use Rattle.std.specs.Option.{option_map_or}
use Rattle.std.specs.List.{cons_option, enumerate_from, filter_map, find, flat_map, list_all}
use Rattle.std.proofs.lemmas.Bool.{and_from, and_parts}

cons_map : {V W : Type 0} (h : V → W) (o : Option V) (vs : List V) → cons_option (option_map h o) (map h vs) ≡ map h (cons_option o vs)
cons_map h None vs = refl
cons_map h (Some x) vs = refl

-- of those that pass
pub filter_maps : {X Y V W : Type 0} (f : Y → Option W) (n : X → Y) (g : X → Option V) (h : V → W) (ok : X → Bool)
    → ((x : X) → ok x ≡ true → f (n x) ≡ option_map h (g x)) → (xs : List X) → list_all ok xs ≡ true → filter_map f (map n xs) ≡ map h (filter_map g xs)
filter_maps f n g h ok same [] all = refl
filter_maps f n g h ok same (x ∷ xs) all =
    let parts = and_parts (ok x) (list_all ok xs) all in
    ap (λ o. cons_option o (filter_map f (map n xs))) (same x parts.0)
    ∙ ap (cons_option (option_map h (g x))) (filter_maps f n g h ok same xs parts.1)
    ∙ cons_map h (g x) (filter_map g xs)

-- where none is missing
pub map_filters : {X Y V W : Type 0} (f : Y → W) (n : X → Y) (g : X → Option V) (h : V → W) (ok : X → Bool)
    → ((x : X) → ok x ≡ true → Some (f (n x)) ≡ option_map h (g x)) → (xs : List X) → list_all ok xs ≡ true → map f (map n xs) ≡ map h (filter_map g xs)
map_filters f n g h ok same [] all = refl
map_filters f n g h ok same (x ∷ xs) all =
    let parts = and_parts (ok x) (list_all ok xs) all in
    ap (λ o. cons_option o (map f (map n xs))) (same x parts.0)
    ∙ ap (cons_option (option_map h (g x))) (map_filters f n g h ok same xs parts.1)
    ∙ cons_map h (g x) (filter_map g xs)

-- of lists
pub flat_maps : {X Y V W : Type 0} (f : Y → List W) (n : X → Y) (g : X → List V) (h : V → W) (ok : X → Bool)
    → ((x : X) → ok x ≡ true → f (n x) ≡ map h (g x)) → (xs : List X) → list_all ok xs ≡ true → flat_map f (map n xs) ≡ map h (flat_map g xs)
flat_maps f n g h ok same [] all = refl
flat_maps f n g h ok same (x ∷ xs) all =
    let parts = and_parts (ok x) (list_all ok xs) all in
    ap (λ ys. ys ++ flat_map f (map n xs)) (same x parts.0)
    ∙ ap (λ ys. map h (g x) ++ ys) (flat_maps f n g h ok same xs parts.1)
    ∙ sym (map-append h (g x) (flat_map g xs))

-- of elements with their indexes
pub filter_numbered : {X V W : Type 0} (f : X → Option W) (g : ℕ × X → Option V) (h : V → W) (n : ℕ) (xs : List X)
    → ((k : ℕ) (x : X) → slice_get xs k ≡ Some x → f x ≡ option_map h (g (n + k, x))) → filter_map f xs ≡ map h (filter_map g (enumerate_from n xs))
filter_numbered f g h n [] same = refl
filter_numbered {X} f g h n (x ∷ xs) same =
    let here : f x ≡ option_map h (g (n, x)) = same 0 x refl ∙ ap (λ m. option_map h (g (m, x))) (omega arith) in
    let later : (k : ℕ) (y : X) → slice_get xs k ≡ Some y → f y ≡ option_map h (g (n + 1 + k, y)) = λ k y e. same (suc k) y e ∙ ap (λ m. option_map h (g (m, y))) (omega arith) in
    ap (λ o. cons_option o (filter_map f xs)) here
    ∙ ap (cons_option (option_map h (g (n, x)))) (filter_numbered f g h (n + 1) xs later)
    ∙ cons_map h (g (n, x)) (filter_map g (enumerate_from (n + 1) xs))

pub map_numbered : {X V W : Type 0} (f : X → W) (g : ℕ × X → V) (h : V → W) → ((k : ℕ) (x : X) → f x ≡ h (g (k, x))) → (n : ℕ) (xs : List X)
    → map f xs ≡ map h (map g (enumerate_from n xs))
map_numbered f g h same n [] = refl
map_numbered f g h same n (x ∷ xs) = λ i. same n x i ∷ map_numbered f g h same (n + 1) xs i

-- what is told of the first that passes
pub found_same : {X Y Z : Type 0} (by : Y → Bool) (n : X → Y) (test ok : X → Bool) (from : Option Y → Z) (to : Option X → Z) → from None ≡ to None
    → ((x : X) → ok x ≡ true → by (n x) ≡ test x) → ((x : X) → ok x ≡ true → test x ≡ true → from (Some (n x)) ≡ to (Some x))
    → (xs : List X) → list_all ok xs ≡ true → from (find by (map n xs)) ≡ to (find test xs)
found_same by n test ok from to none same tells [] all = none
found_same by n test ok from to none same tells (x ∷ xs) all =
    let parts = and_parts (ok x) (list_all ok xs) all in
    ap (λ b. from (cond b (Some (n x)) (find by (map n xs)))) (same x parts.0)
    ∙ elim (test x) as (λ b. test x ≡ b → from (cond b (Some (n x)) (find by (map n xs))) ≡ to (cond b (Some x) (find test xs))) [
      | true ↦ λ e. tells x parts.0 e
      | false ↦ λ e. found_same by n test ok from to none same tells xs parts.1
    ] refl

-- each that isn't missing passes
pub all_filtered : {X V : Type 0} (test : V → Bool) (g : X → Option V) → ((x : X) → option_map_or test (g x) true ≡ true) → (xs : List X) → list_all test (filter_map g xs) ≡ true
all_filtered test g passes [] = refl
all_filtered {X} {V} test g passes (x ∷ xs) =
    elim (g x) as (λ o. option_map_or test o true ≡ true → list_all test (cons_option o (filter_map g xs)) ≡ true) [
      | None ↦ λ h. all_filtered test g passes xs
      | Some v ↦ λ h. and_from (test v) (list_all test (filter_map g xs)) h (all_filtered test g passes xs)
    ] (passes x)
