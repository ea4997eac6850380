-- Elements of a list, and what tests, maps and filters tell of them.
use Rattle.std.proofs.Common.{◌≡◌, ℕ, zero, suc, ◌<◌, ◌≤◌, Bool, true, false, cond, List, [], ◌∷◌, ◌++◌, length, map, filter, Option, Some, None, refl, sym, ap, subst, ◌∙◌, ◌⊎◌, inl, inr, arith}
use Rattle.std.specs.Prelude.{◌||◌, slice_get}
use Rattle.std.specs.List.{All, AllByRecursion, cons_option, filter_map, find, flat_map, list_all, list_any}
use Rattle.std.proofs.lemmas.Bool.{and_parts, or_cases, or_left, or_right}
use Rattle.std.proofs.lemmas.List.Elements.{All-from_recursion, recursion_from_All}

-- it is an element of the list
abbrev pub In : {X : Type 0} → X → List X → Type 0
In x [] = ⊥
In x (y ∷ ys) = (y ≡ x) ⊎ In x ys

-- ---- and its index

-- what stands at an index is an element
pub at_in : {X : Type 0} (xs : List X) (k : ℕ) (x : X) → slice_get xs k ≡ Some x → In x xs
at_in [] k x h = absurd (cc)
at_in (y ∷ ys) zero x h = inl cc
at_in (y ∷ ys) (suc k) x h = inr (at_in ys k x h)

-- and an element stands at one
pub index_in : {X : Type 0} (xs : List X) (x : X) → In x xs → (k : ℕ) × (slice_get xs k ≡ Some x)
index_in [] x i = absurd i
index_in (y ∷ ys) x (inl e) = (0, ap Some e)
index_in (y ∷ ys) x (inr i) = let later = index_in ys x i in (suc later.0, later.1)

-- ---- what holds of each

by_recursion : {X : Type 0} (P : X → Type 0) (xs : List X) → AllByRecursion P xs → (x : X) → In x xs → P x
by_recursion P [] all x i = absurd i
by_recursion P (y ∷ ys) all x (inl e) = subst P e all.0
by_recursion P (y ∷ ys) all x (inr i) = by_recursion P ys all.1 x i

to_recursion : {X : Type 0} (P : X → Type 0) (xs : List X) → ((x : X) → In x xs → P x) → AllByRecursion P xs
to_recursion P [] each = tt
to_recursion P (y ∷ ys) each = (each y (inl refl), to_recursion P ys (λ x i. each x (inr i)))

pub all_in : {X : Type 0} (P : X → Type 0) (xs : List X) → All P xs → (x : X) → In x xs → P x
all_in P xs all = by_recursion P xs (recursion_from_All P xs all)

pub all_from : {X : Type 0} (P : X → Type 0) (xs : List X) → ((x : X) → In x xs → P x) → All P xs
all_from P xs each = All-from_recursion P xs (to_recursion P xs each)

pub passes_in : {X : Type 0} (test : X → Bool) (xs : List X) → list_all test xs ≡ true → (x : X) → In x xs → test x ≡ true
passes_in test [] all x i = absurd i
passes_in test (y ∷ ys) all x (inl e) = subst (λ z. test z ≡ true) e (and_parts (test y) (list_all test ys) all).0
passes_in test (y ∷ ys) all x (inr i) = passes_in test ys (and_parts (test y) (list_all test ys) all).1 x i

-- ---- some element

pub any_in : {X : Type 0} (test : X → Bool) (xs : List X) (x : X) → In x xs → test x ≡ true → list_any test xs ≡ true
any_in test [] x i h = absurd i
any_in test (y ∷ ys) x (inl e) h = or_left (test y) (list_any test ys) (subst (λ z. test z ≡ true) (sym e) h)
any_in test (y ∷ ys) x (inr i) h = or_right (test y) (list_any test ys) (any_in test ys x i h)

-- one that passes
pub record Passing {X : Type 0} (test : X → Bool) (xs : List X) : Type 0 where
  pub one : X
  pub within : In one xs
  pub passes : test one ≡ true

pub any_some : {X : Type 0} (test : X → Bool) (xs : List X) → list_any test xs ≡ true → Passing test xs
any_some test [] h = absurd (cc)
any_some test (y ∷ ys) h =
    elim (or_cases (test y) (list_any test ys) h) as (λ _. Passing test (y ∷ ys)) [
      | inl e ↦ record { one = y; within = inl refl; passes = e }
      | inr e ↦ let p = any_some test ys e in record { one = p.one; within = inr p.within; passes = p.passes }
    ]

-- ---- the same at each element

pub map_agree : {X Y : Type 0} (f g : X → Y) (xs : List X) → ((x : X) → In x xs → f x ≡ g x) → map f xs ≡ map g xs
map_agree f g [] same = refl
map_agree f g (x ∷ xs) same = λ i. same x (inl refl) i ∷ map_agree f g xs (λ y h. same y (inr h)) i

pub any_agree : {X : Type 0} (p q : X → Bool) (xs : List X) → ((x : X) → In x xs → p x ≡ q x) → list_any p xs ≡ list_any q xs
any_agree p q [] same = refl
any_agree p q (x ∷ xs) same = λ i. same x (inl refl) i || any_agree p q xs (λ y h. same y (inr h)) i

-- ---- images and filters

pub map_in : {X Y : Type 0} (f : X → Y) (xs : List X) (x : X) → In x xs → In (f x) (map f xs)
map_in f [] x i = absurd i
map_in f (y ∷ ys) x (inl e) = inl (ap f e)
map_in f (y ∷ ys) x (inr i) = inr (map_in f ys x i)

-- an element with this image
pub record Source {X Y : Type 0} (f : X → Y) (xs : List X) (y : Y) : Type 0 where
  pub one : X
  pub within : In one xs
  pub image : f one ≡ y

pub map_some : {X Y : Type 0} (f : X → Y) (xs : List X) (y : Y) → In y (map f xs) → Source f xs y
map_some f [] y i = absurd i
map_some f (x ∷ xs) y (inl e) = record { one = x; within = inl refl; image = e }
map_some f (x ∷ xs) y (inr i) = let s = map_some f xs y i in record { one = s.one; within = inr s.within; image = s.image }

pub filter_in : {X : Type 0} (test : X → Bool) (xs : List X) (x : X) → In x xs → test x ≡ true → In x (filter test xs)
filter_in test [] x i h = absurd i
filter_in test (y ∷ ys) x (inl e) h =
    let passes : test y ≡ true = subst (λ z. test z ≡ true) (sym e) h in
    subst (λ b. In x (cond b (y ∷ filter test ys) (filter test ys))) (sym passes) (inl e)
filter_in test (y ∷ ys) x (inr i) h =
    let later = filter_in test ys x i h in
    elim (test y) as (λ b. In x (cond b (y ∷ filter test ys) (filter test ys))) [ true ↦ inr later | false ↦ later ]

pub filter_some : {X : Type 0} (test : X → Bool) (xs : List X) (x : X) → In x (filter test xs) → In x xs × (test x ≡ true)
filter_some test [] x i = absurd i
filter_some {X} test (y ∷ ys) x i =
    elim (test y) as (λ b. test y ≡ b → In x (cond b (y ∷ filter test ys) (filter test ys)) → In x (y ∷ ys) × (test x ≡ true)) [
      | true ↦ λ e j. elim j as (λ _. In x (y ∷ ys) × (test x ≡ true)) [
        | inl same ↦ (inl same, subst (λ z. test z ≡ true) same e)
        | inr k ↦ let later = filter_some test ys x k in (inr later.0, later.1)
      ]
      | false ↦ λ e j. let later = filter_some test ys x j in (inr later.0, later.1)
    ] refl i

-- ---- filters that let through more

pub filter_shorter : {X : Type 0} (p q : X → Bool) (xs : List X) → ((x : X) → In x xs → p x ≡ true → q x ≡ true) → length (filter p xs) ≤ length (filter q xs)
filter_shorter p q [] more = omega arith
filter_shorter p q (x ∷ xs) more =
    let later = filter_shorter p q xs (λ y i. more y (inr i)) in
    elim (p x) as (λ b. p x ≡ b → length (cond b (x ∷ filter p xs) (filter p xs)) ≤ length (cond (q x) (x ∷ filter q xs) (filter q xs))) [
      | true ↦ λ e. subst (λ b. length (x ∷ filter p xs) ≤ length (cond b (x ∷ filter q xs) (filter q xs))) (sym (more x (inl refl) e)) (omega (arith, later))
      | false ↦ λ e. elim (q x) as (λ b. length (filter p xs) ≤ length (cond b (x ∷ filter q xs) (filter q xs))) [ true ↦ omega (arith, later) | false ↦ later ]
    ] refl

-- then it is the same list, or a longer one
pub filter_grows : {X : Type 0} (p q : X → Bool) (xs : List X) → ((x : X) → In x xs → p x ≡ true → q x ≡ true) → (filter p xs ≡ filter q xs) ⊎ (length (filter p xs) < length (filter q xs))
filter_grows p q [] more = inl refl
filter_grows {X} p q (x ∷ xs) more =
    let later = filter_grows p q xs (λ y i. more y (inr i)) in
    let shorter = filter_shorter p q xs (λ y i. more y (inr i)) in
    let Grows : List X → List X → Type 0 = λ ys zs. (ys ≡ zs) ⊎ (length ys < length zs) in
    elim (p x) as (λ b. p x ≡ b → Grows (cond b (x ∷ filter p xs) (filter p xs)) (cond (q x) (x ∷ filter q xs) (filter q xs))) [
      | true ↦ λ e. subst (λ b. Grows (x ∷ filter p xs) (cond b (x ∷ filter q xs) (filter q xs))) (sym (more x (inl refl) e))
          (elim later as (λ _. Grows (x ∷ filter p xs) (x ∷ filter q xs)) [ inl same ↦ inl (ap (λ ys. x ∷ ys) same) | inr less ↦ inr (omega (arith, less)) ])
      | false ↦ λ e. elim (q x) as (λ b. Grows (filter p xs) (cond b (x ∷ filter q xs) (filter q xs))) [ true ↦ inr (omega (arith, shorter)) | false ↦ later ]
    ] refl

pub filter_fits : {X : Type 0} (p : X → Bool) (xs : List X) → length (filter p xs) ≤ length xs
filter_fits p [] = omega arith
filter_fits p (x ∷ xs) =
    let later = filter_fits p xs in
    elim (p x) as (λ b. length (cond b (x ∷ filter p xs) (filter p xs)) ≤ length (x ∷ xs)) [ true ↦ omega (arith, later) | false ↦ omega (arith, later) ]

-- ---- lists that are joined, and what is found

pub left_in : {X : Type 0} (xs ys : List X) (x : X) → In x xs → In x (xs ++ ys)
left_in [] ys x i = absurd i
left_in (z ∷ zs) ys x (inl e) = inl e
left_in (z ∷ zs) ys x (inr i) = inr (left_in zs ys x i)

pub right_in : {X : Type 0} (xs ys : List X) (x : X) → In x ys → In x (xs ++ ys)
right_in [] ys x i = i
right_in (z ∷ zs) ys x i = inr (right_in zs ys x i)

pub append_some : {X : Type 0} (xs ys : List X) (x : X) → In x (xs ++ ys) → In x xs ⊎ In x ys
append_some [] ys x i = inr i
append_some (z ∷ zs) ys x (inl e) = inl (inl e)
append_some (z ∷ zs) ys x (inr i) = elim (append_some zs ys x i) as (λ _. In x (z ∷ zs) ⊎ In x ys) [ inl j ↦ inl (inr j) | inr j ↦ inr j ]

pub filter_map_in : {X Y : Type 0} (f : X → Option Y) (xs : List X) (x : X) (y : Y) → In x xs → f x ≡ Some y → In y (filter_map f xs)
filter_map_in f [] x y i h = absurd i
filter_map_in f (z ∷ zs) x y (inl e) h = subst (λ o. In y (cons_option o (filter_map f zs))) (sym (ap f e ∙ h)) (inl refl)
filter_map_in f (z ∷ zs) x y (inr i) h =
    let later = filter_map_in f zs x y i h in
    elim (f z) as (λ o. In y (cons_option o (filter_map f zs))) [ None ↦ later | Some w ↦ inr later ]

-- an element from whose list it is
pub record Part {X Y : Type 0} (f : X → List Y) (xs : List X) (y : Y) : Type 0 where
  pub one : X
  pub within : In one xs
  pub part : In y (f one)

pub flat_some : {X Y : Type 0} (f : X → List Y) (xs : List X) (y : Y) → In y (flat_map f xs) → Part f xs y
flat_some f [] y i = absurd i
flat_some f (x ∷ xs) y i =
    elim (append_some (f x) (flat_map f xs) y i) as (λ _. Part f (x ∷ xs) y) [
      | inl j ↦ record { one = x; within = inl refl; part = j }
      | inr j ↦ let p = flat_some f xs y j in record { one = p.one; within = inr p.within; part = p.part }
    ]

-- and one of that list is one of all
pub flat_in : {X Y : Type 0} (f : X → List Y) (xs : List X) (x : X) (y : Y) → In x xs → In y (f x) → In y (flat_map f xs)
flat_in f [] x y i j = absurd i
flat_in f (z ∷ zs) x y (inl same) j = left_in (f z) (flat_map f zs) y (subst (λ w. In y (f w)) (sym same) j)
flat_in f (z ∷ zs) x y (inr i) j = right_in (f z) (flat_map f zs) y (flat_in f zs x y i j)

pub find_in : {X : Type 0} (test : X → Bool) (xs : List X) (x : X) → find test xs ≡ Some x → In x xs × (test x ≡ true)
find_in test [] x h = absurd (cc)
find_in {X} test (y ∷ ys) x h =
    elim (test y) as (λ b. test y ≡ b → cond b (Some y) (find test ys) ≡ Some x → In x (y ∷ ys) × (test x ≡ true)) [
      | true ↦ λ e is. let same : y ≡ x = cc in (inl same, subst (λ z. test z ≡ true) same e)
      | false ↦ λ e is. let later = find_in test ys x is in (inr later.0, later.1)
    ] refl h
