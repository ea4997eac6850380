-- What stands at an index of a list that is numbered, and look-ups of numbers in turn.
use Rattle.std.proofs.Common.{◌≡◌, ◌∙◌, refl, sym, ap, arith, ℕ, zero, suc, ◌+◌, ◌≤◌, List, [], ◌∷◌, ◌++◌, length, map, take, Option, Some}
use Rattle.std.specs.Prelude.{slice_get}
use Rattle.std.specs.List.{cons_option, enumerate_from, filter_map}
use Rattle.std.proofs.Math.Seq.{take-length, take-suc}
use Rattle.std.proofs.lemmas.List.{map-append}
use Rattle.std.proofs.lemmas.Option.{get_or_from_slice_get}
use Rattle.muen_num.proofs.Lists.{there}
use Rattle.muen_num.specs.Range.{numbers_below}

-- what stands at an index of a list that is mapped with its numbers
pub mapped_there : {X Y : Type 0} (f : ℕ × X → Y) (from : ℕ) (xs : List X) (j : ℕ) (y : Y) → slice_get (map f (enumerate_from from xs)) j ≡ Some y → (x : X) × (slice_get xs j ≡ Some x) × (f (from + j, x) ≡ y)
mapped_there f from [] j y at = absurd (cc)
mapped_there f from (x ∷ xs) zero y at =
    let here : from + 0 ≡ from = omega arith in
    let same : f (from, x) ≡ y = cc in
    (x, refl, ap (λ n. f (n, x)) here ∙ same)
mapped_there f from (x ∷ xs) (suc j) y at =
    let n : from + suc j ≡ from + 1 + j = omega arith in
    let later = mapped_there f (from + 1) xs j y at in
    (later.0, later.1, ap (λ k. f (k, later.0)) n ∙ later.2)

-- ---- look-ups of numbers in turn

taken : {X Y : Type 0} (look : ℕ → Y) (f : X → Y) (xs : List X) → ((n : ℕ) (x : X) → slice_get xs n ≡ Some x → look n ≡ f x) → (k : ℕ) → k ≤ length xs → map look (numbers_below k) ≡ map f (take k xs)
taken look f xs each zero l = refl
taken look f xs each (suc k) l =
    let x = there xs k (omega (arith, l)) in
    let grown : take (suc k) xs ≡ take k xs ++ x.0 ∷ [] = take-suc xs k x.0 (omega (arith, l)) ∙ ap (λ y. take k xs ++ y ∷ []) (get_or_from_slice_get xs k x.0 x.0 x.1) in
    map-append look (numbers_below k) (k ∷ [])
    ∙ ap (λ ys. ys ++ look k ∷ []) (taken look f xs each k (omega (arith, l)))
    ∙ ap (λ y. map f (take k xs) ++ y ∷ []) (each k x.0 x.1)
    ∙ sym (map-append f (take k xs) (x.0 ∷ []))
    ∙ ap (map f) (sym grown)

-- what stands for each number below the length stands for each element
pub looked_up : {X Y : Type 0} (look : ℕ → Y) (f : X → Y) (xs : List X) → ((n : ℕ) (x : X) → slice_get xs n ≡ Some x → look n ≡ f x) → map look (numbers_below (length xs)) ≡ map f xs
looked_up look f xs each = taken look f xs each (length xs) (omega arith) ∙ ap (map f) (take-length xs)

some_of : {X Z : Type 0} (look : X → Option Z) (xs : List X) → filter_map look xs ≡ filter_map (λ o. o) (map look xs)
some_of look [] = refl
some_of look (x ∷ xs) = ap (cons_option (look x)) (some_of look xs)

each_some : {Y Z : Type 0} (f : Y → Z) (ys : List Y) → filter_map (λ o. o) (map (λ y. Some (f y)) ys) ≡ map f ys
each_some f [] = refl
each_some f (y ∷ ys) = ap (λ zs. f y ∷ zs) (each_some f ys)

-- where something stands for each, nothing is left out
pub none_missing : {X Y Z : Type 0} (look : X → Option Z) (f : Y → Z) (xs : List X) (ys : List Y) → map look xs ≡ map (λ y. Some (f y)) ys → filter_map look xs ≡ map f ys
none_missing look f xs ys is = some_of look xs ∙ ap (filter_map (λ o. o)) is ∙ each_some f ys
