-- What holds of each element of lists that are joined, mapped and filtered, and of what is found in them.
use Rattle.std.proofs.Common.{◌≡◌, Bool, true, false, cond, List, [], ◌∷◌, ◌++◌, map, Option, Some, None, refl}
use Rattle.std.specs.Prelude.{option_and_then, option_map}
use Rattle.std.specs.List.{AllByRecursion, cons_option, filter_map, find, flat_map}
use Rattle.std.specs.Option.{IfSome}

module _ {X : Type 0} (P : X → Type 0) where
  -- ---- of each element

  pub each_append : (xs ys : List X) → AllByRecursion P xs → AllByRecursion P ys → AllByRecursion P (xs ++ ys)
  each_append [] ys a b = b
  each_append (x ∷ xs) ys a b = (a.0, each_append xs ys a.1 b)

  pub each_map : {Y : Type 0} (f : Y → X) → ((y : Y) → P (f y)) → (ys : List Y) → AllByRecursion P (map f ys)
  each_map f h [] = tt
  each_map f h (y ∷ ys) = (h y, each_map f h ys)

  pub each_flat : {Y : Type 0} (f : Y → List X) → ((y : Y) → AllByRecursion P (f y)) → (ys : List Y) → AllByRecursion P (flat_map f ys)
  each_flat f h [] = tt
  each_flat f h (y ∷ ys) = each_append (f y) (flat_map f ys) (h y) (each_flat f h ys)

  pub each_cons : (o : Option X) (xs : List X) → IfSome o P → AllByRecursion P xs → AllByRecursion P (cons_option o xs)
  each_cons None xs h a = a
  each_cons (Some x) xs h a = (h, a)

  pub each_some : {Y : Type 0} (f : Y → Option X) → ((y : Y) → IfSome (f y) P) → (ys : List Y) → AllByRecursion P (filter_map f ys)
  each_some f h [] = tt
  each_some f h (y ∷ ys) = each_cons (f y) (filter_map f ys) (h y) (each_some f h ys)

  -- ---- of what there is, if anything

  pub found : (test : X → Bool) (xs : List X) → AllByRecursion P xs → IfSome (find test xs) P
  found test [] a = tt
  found test (x ∷ xs) a =
      let later = found test xs a.1 in
      elim (test x) as (λ b. IfSome (cond b (Some x) (find test xs)) P) [ true ↦ a.0 | false ↦ later ]

  pub mapped : {Y : Type 0} (f : Y → X) → ((y : Y) → P (f y)) → (o : Option Y) → IfSome (option_map f o) P
  mapped f h None = tt
  mapped f h (Some y) = h y

  pub chained : {Y : Type 0} (f : Y → Option X) → ((y : Y) → IfSome (f y) P) → (o : Option Y) → IfSome (option_and_then f o) P
  chained f h None = tt
  chained f h (Some y) = h y

  pub if_some : (o : Option X) → ((x : X) → o ≡ Some x → P x) → IfSome o P
  if_some None h = tt
  if_some (Some x) h = h x refl
