-- Lists that are mapped, joined, tested and summed, and their elements by index.
use Rattle.std.proofs.Common.{◌≡◌, ℕ, zero, suc, ◌+◌, ◌<◌, ◌≤◌, Bool, true, false, cond, not, All, List, [], ◌∷◌, ◌++◌, length, get_or, drop, drop-cons, map, filter, Option, Some, None, refl, sym, ap, ap₂, ◌∙◌, subst, arith, add-one}
use Rattle.std.specs.Prelude.{◌&&◌, ◌||◌, nat_lt, option_map, slice_get, unwrap_or}
use Rattle.std.specs.List.{cons_option, find, flat_map, list_all, list_any, position_or_len, sum_by, enumerate_from}
use Rattle.std.specs.Option.{IfSome}
use Rattle.std.proofs.lemmas.Bool.{and_from, and_parts, lt-ltb, ltb-true, or_parts}
use Rattle.std.proofs.lemmas.List.{get_or-map, length-map, map-append}
use Rattle.std.proofs.lemmas.List.Elements.{All-append, All-cons, All-head, All-nil, All-tail}
use Rattle.std.proofs.lemmas.List.Sums.{sum_by-cons}
use Rattle.std.proofs.lemmas.Option.{get_or_from_slice_get, slice_get_read, slice_get_within}

-- ---- mapped

-- mapped twice, by both at once
pub map-map : {X Y Z : Type 0} (g : Y → Z) (f : X → Y) (xs : List X) → map g (map f xs) ≡ map (λ x. g (f x)) xs
map-map g f [] = refl
map-map g f (x ∷ xs) = ap (λ ys. g (f x) ∷ ys) (map-map g f xs)

-- by two functions that are the same
pub map_same : {X Y : Type 0} (f g : X → Y) → ((x : X) → f x ≡ g x) → (xs : List X) → map f xs ≡ map g xs
map_same f g same [] = refl
map_same f g same (x ∷ xs) = ap₂ (λ z zs. z ∷ zs) (same x) (map_same f g same xs)

-- a list that is joined of many
pub map-flat_map : {X Y Z : Type 0} (f : Y → Z) (g : X → List Y) (xs : List X) → map f (flat_map g xs) ≡ flat_map (λ x. map f (g x)) xs
map-flat_map f g [] = refl
map-flat_map f g (x ∷ xs) = map-append f (g x) (flat_map g xs) ∙ ap (λ ys. map f (g x) ++ ys) (map-flat_map f g xs)

-- those that pass are what those whose images pass are mapped to
pub filter-map : {X Y : Type 0} (test : Y → Bool) (f : X → Y) (xs : List X) → filter test (map f xs) ≡ map f (filter (λ x. test (f x)) xs)
filter-map test f [] = refl
filter-map test f (x ∷ xs) =
    elim (test (f x)) as (λ b. cond b (f x ∷ filter test (map f xs)) (filter test (map f xs)) ≡ map f (cond b (x ∷ filter (λ y. test (f y)) xs) (filter (λ y. test (f y)) xs))) [
      | true ↦ ap (λ ys. f x ∷ ys) (filter-map test f xs)
      | false ↦ filter-map test f xs
    ]

-- the same of what may be missing
pub option_map-option_map : {X Y Z : Type 0} (g : Y → Z) (f : X → Y) (o : Option X) → option_map g (option_map f o) ≡ option_map (λ x. g (f x)) o
option_map-option_map g f None = refl
option_map-option_map g f (Some x) = refl

-- the first that passes is what the first whose image passes is mapped to
pub find-map : {X Y : Type 0} (test : Y → Bool) (f : X → Y) (xs : List X) → find test (map f xs) ≡ option_map f (find (λ x. test (f x)) xs)
find-map test f [] = refl
find-map test f (x ∷ xs) =
    elim (test (f x)) as (λ b. cond b (Some (f x)) (find test (map f xs)) ≡ option_map f (cond b (Some x) (find (λ y. test (f y)) xs))) [
      | true ↦ refl
      | false ↦ find-map test f xs
    ]

-- and stands at its index
pub position-map : {X Y : Type 0} (test : Y → Bool) (f : X → Y) (xs : List X) → position_or_len test (map f xs) ≡ position_or_len (λ x. test (f x)) xs
position-map test f [] = refl
position-map test f (x ∷ xs) =
    elim (test (f x)) as (λ b. cond (not b) (1 + position_or_len test (map f xs)) 0 ≡ cond (not b) (1 + position_or_len (λ x. test (f x)) xs) 0) [
      | true ↦ refl
      | false ↦ ap (λ n. 1 + n) (position-map test f xs)
    ]

-- some element passes just where some image does
pub list_any-map : {X Y : Type 0} (test : Y → Bool) (f : X → Y) (xs : List X) → list_any test (map f xs) ≡ list_any (λ x. test (f x)) xs
list_any-map test f [] = refl
list_any-map test f (x ∷ xs) = ap (λ b. test (f x) || b) (list_any-map test f xs)

-- the sum over the images
pub sum_by-map : {X Y : Type 0} (f : Y → ℕ) (g : X → Y) (xs : List X) → sum_by f (map g xs) ≡ sum_by (λ x. f (g x)) xs
sum_by-map f g [] = refl
sum_by-map f g (x ∷ xs) =
    sum_by-cons f (g x) (map g xs) ∙ ap (λ n. f (g x) + n) (sum_by-map f g xs) ∙ sym (sum_by-cons (λ y. f (g y)) x xs)

-- ---- at each element

-- nothing is asked of each
pub all_true : {X : Type 0} (xs : List X) → list_all (λ _. true) xs ≡ true
all_true [] = refl
all_true (x ∷ xs) = all_true xs

-- what two tests tell of each
pub each_of : {X : Type 0} (p q t : X → Bool) → ((x : X) → p x ≡ true → q x ≡ true → t x ≡ true) → (xs : List X) → list_all p xs ≡ true → list_all q xs ≡ true → list_all t xs ≡ true
each_of p q t tells [] a b = refl
each_of p q t tells (x ∷ xs) a b =
    let a' = and_parts (p x) (list_all p xs) a in
    let b' = and_parts (q x) (list_all q xs) b in
    and_from (t x) (list_all t xs) (tells x a'.0 b'.0) (each_of p q t tells xs a'.1 b'.1)

-- what one test tells of each
pub each_from : {X : Type 0} (p t : X → Bool) → ((x : X) → p x ≡ true → t x ≡ true) → (xs : List X) → list_all p xs ≡ true → list_all t xs ≡ true
each_from p t tells xs a = each_of p p t (λ x h _. tells x h) xs a a

-- both tests at each
pub each_both : {X : Type 0} (p q : X → Bool) (xs : List X) → list_all p xs ≡ true → list_all q xs ≡ true → list_all (λ x. p x && q x) xs ≡ true
each_both p q xs a b = each_of p q (λ x. p x && q x) (λ x h k. and_from (p x) (q x) h k) xs a b

-- mapped by two functions that are the same at each that passes
pub all_same : {X Y : Type 0} (f g : X → Y) (ok : X → Bool) → ((x : X) → ok x ≡ true → f x ≡ g x) → (xs : List X) → list_all ok xs ≡ true → map f xs ≡ map g xs
all_same f g ok same [] all = refl
all_same f g ok same (x ∷ xs) all =
    let parts = and_parts (ok x) (list_all ok xs) all in
    ap (λ y. y ∷ map f xs) (same x parts.0) ∙ ap (λ ys. g x ∷ ys) (all_same f g ok same xs parts.1)

-- of two tests that agree on each element
pub any_same : {X : Type 0} (p q ok : X → Bool) → ((x : X) → ok x ≡ true → p x ≡ q x) → (xs : List X) → list_all ok xs ≡ true → list_any p xs ≡ list_any q xs
any_same p q ok same [] all = refl
any_same p q ok same (x ∷ xs) all =
    let parts = and_parts (ok x) (list_all ok xs) all in
    λ i. same x parts.0 i || any_same p q ok same xs parts.1 i

-- some element passes the first of two tests, where some passes both
pub any_first : {X : Type 0} (p q : X → Bool) (xs : List X) → list_any (λ x. p x && q x) xs ≡ true → list_any p xs ≡ true
any_first p q [] h = absurd (cc)
any_first p q (x ∷ xs) h =
    elim (p x) as (λ b. ((b && q x) || list_any (λ y. p y && q y) xs) ≡ true → (b || list_any p xs) ≡ true) [
      | true ↦ λ _. refl
      | false ↦ λ k. any_first p q xs k
    ] h

-- where none of an element that may be missing and a list passes, none of each does
pub none_cons : {X : Type 0} (test : X → Bool) (o : Option X) (xs : List X) → list_any test (cons_option o xs) ≡ false → IfSome o (λ x. test x ≡ false) × (list_any test xs ≡ false)
none_cons test None xs h = (tt, h)
none_cons test (Some x) xs h = or_parts (test x) (list_any test xs) h

-- ---- what holds of each

-- what a test that each passes tells
pub all_passing : {X : Type 0} (p : X → Bool) (P : X → Type 0) → ((x : X) → p x ≡ true → P x) → (xs : List X) → list_all p xs ≡ true → All P xs
all_passing p P h [] k = All-nil P
all_passing p P h (x ∷ xs) k =
    let both = and_parts (p x) (list_all p xs) k in
    All-cons P x xs (h x both.0) (all_passing p P h xs both.1)

-- of lists that are joined
pub all_flat : {X Y : Type 0} (P : Y → Type 0) (f : X → List Y) → ((x : X) → All P (f x)) → (xs : List X) → All P (flat_map f xs)
all_flat P f h [] = All-nil P
all_flat P f h (x ∷ xs) = All-append P (f x) (flat_map f xs) (h x) (all_flat P f h xs)

-- of the first of two
pub all_front : {X : Type 0} (P : X → Type 0) (xs ys : List X) → All P (xs ++ ys) → All P xs
all_front P [] ys h = All-nil P
all_front P (x ∷ xs) ys h = All-cons P x xs (All-head P x (xs ++ ys) h) (all_front P xs ys (All-tail P x (xs ++ ys) h))

-- of the images
pub all_unmapped : {X Y : Type 0} (f : X → Y) (P : Y → Type 0) (xs : List X) → All P (map f xs) → All (λ x. P (f x)) xs
all_unmapped f P xs h j d l =
    let many = length-map xs f in
    subst P (get_or-map f xs j d (f d) l) (h j (f d) (omega (arith, many, l)))

-- of an element that is there
pub all_at : {X : Type 0} (P : X → Type 0) (xs : List X) (n : ℕ) (x : X) → All P xs → slice_get xs n ≡ Some x → P x
all_at P xs n x h at = subst P (get_or_from_slice_get xs n x x at) (h n x (slice_get_within xs n x at))

-- ---- what is found

-- an element that is found passes, and is one of the list
pub record IsFound {X : Type 0} (test : X → Bool) (xs : List X) : Type 0 where
  pub item : X
  pub is : find test xs ≡ Some item
  pub passes : test item ≡ true
  pub among : (q : X → Bool) → list_all q xs ≡ true → q item ≡ true

-- where some element passes, one is found
pub found : {X : Type 0} (test : X → Bool) (xs : List X) → list_any test xs ≡ true → IsFound test xs
found test [] any = absurd (cc)
found {X} test (x ∷ xs) any =
    elim (test x) as (λ b. test x ≡ b → IsFound test (x ∷ xs)) [
      | true ↦ λ e. record {
        item = x;
        is = ap (λ b. cond b (Some x) (find test xs)) e;
        passes = e;
        among = λ q all. (and_parts (q x) (list_all q xs) all).0;
      }
      | false ↦ λ e.
          let later : IsFound test xs = found test xs (sym (ap (λ b. b || list_any test xs) e) ∙ any) in
          record {
            item = later.item;
            is = ap (λ b. cond b (Some x) (find test xs)) e ∙ later.is;
            passes = later.passes;
            among = λ q all. later.among q (and_parts (q x) (list_all q xs) all).1;
          }
    ] refl

-- an element that is found passes what each does
pub found_among : {X : Type 0} (test q : X → Bool) (xs : List X) (x : X) → find test xs ≡ Some x → list_all q xs ≡ true → q x ≡ true
found_among test q [] x e all = absurd (cc)
found_among {X} test q (y ∷ ys) x e all =
    let parts = and_parts (q y) (list_all q ys) all in
    elim (test y) as (λ b. cond b (Some y) (find test ys) ≡ Some x → q x ≡ true) [
      | true ↦ λ is. ap q (sym (ap (λ o. unwrap_or o y) is)) ∙ parts.0
      | false ↦ λ is. found_among test q ys x is parts.1
    ] e

-- ---- sums

-- where a sum is at most so much, so is each of its parts
pub each_at_most : {X : Type 0} (f : X → ℕ) (most : ℕ) (xs : List X) → sum_by f xs ≤ most → list_all (λ x. nat_lt (f x) (most + 1)) xs ≡ true
each_at_most f most [] l = refl
each_at_most f most (x ∷ xs) l =
    let sum : sum_by f (x ∷ xs) ≡ f x + sum_by f xs = sum_by-cons f x xs in
    let here : f x < most + 1 = omega arith in
    let rest : sum_by f xs ≤ most = omega arith in
    and_from (nat_lt (f x) (most + 1)) (list_all (λ x. nat_lt (f x) (most + 1)) xs) (lt-ltb (f x) (most + 1) here) (each_at_most f most xs rest)

-- a sum of parts that are not 0, of which there are some
pub some_sum : {X : Type 0} (f : X → ℕ) (xs : List X) → 0 < length xs → list_all (λ x. nat_lt 0 (f x)) xs ≡ true → 0 < sum_by f xs
some_sum f [] l all = absurd (omega arith)
some_sum f (x ∷ xs) l all =
    let sum : sum_by f (x ∷ xs) ≡ f x + sum_by f xs = sum_by-cons f x xs in
    let here : 0 < f x = ltb-true 0 (f x) (and_parts (nat_lt 0 (f x)) (list_all (λ x. nat_lt 0 (f x)) xs) all).0 in
    omega (arith, sum, here)

-- ---- elements by index

-- of a list that is joined of two, an element of the first
pub get_left : {X : Type 0} (xs ys : List X) (k : ℕ) → k < length xs → slice_get (xs ++ ys) k ≡ slice_get xs k
get_left [] ys k l = absurd (omega arith)
get_left (x ∷ xs) ys zero l = refl
get_left (x ∷ xs) ys (suc k) l = get_left xs ys k (omega arith)

-- and one of the second
pub get_right : {X : Type 0} (xs ys : List X) (k : ℕ) → slice_get (xs ++ ys) (length xs + k) ≡ slice_get ys k
get_right [] ys k = let e : 0 + k ≡ k = omega arith in ap (slice_get ys) e
get_right (x ∷ xs) ys k =
    let e : length (x ∷ xs) + k ≡ suc (length xs + k) = omega arith in
    ap (slice_get (x ∷ xs ++ ys)) e ∙ get_right xs ys k

-- an element whose number is below the length is there
pub there : {X : Type 0} (xs : List X) (k : ℕ) → k < length xs → (x : X) × (slice_get xs k ≡ Some x)
there [] k l = absurd (omega arith)
there (x ∷ xs) zero l = (x, refl)
there (x ∷ xs) (suc k) l = there xs k (omega arith)

-- so it isn't missing
pub some_below : {X : Type 0} (xs : List X) (n : ℕ) → n < length xs → slice_get xs n ≡ None → ⊥
some_below [] n h e = omega (arith, h)
some_below (x ∷ xs) zero h e = absurd (cc (e))
some_below (x ∷ xs) (suc n) h e = some_below xs n (omega (arith, h)) e

-- and of a list that is joined of two it is there too
pub at_left : {X : Type 0} (xs ys : List X) (k : ℕ) (x : X) → slice_get xs k ≡ Some x → slice_get (xs ++ ys) k ≡ Some x
at_left xs ys k x at = get_left xs ys k (slice_get_within xs k x at) ∙ at

-- what stands in a list at an index, where it was read
pub read_at : {X : Type 0} (xs ys : List X) (k : ℕ) (x : X) → ys ≡ xs → k < length ys → x ≡ get_or ys k x → slice_get xs k ≡ Some x
read_at xs ys k x same within is = subst (λ zs. slice_get zs k ≡ Some x) same (slice_get_read ys (length ys) k x refl within is)

-- what is left of a list from an index on
pub drop_more : {X : Type 0} (xs : List X) (i : ℕ) (x : X) → i < length xs → x ≡ get_or xs i x → drop i xs ≡ x ∷ drop (i + 1) xs
drop_more xs i x l is = drop-cons xs i x l ∙ rw (← is, add-one) refl

-- where each element passes a test, one that is there does
pub passes_at : {X : Type 0} (test : X → Bool) (xs : List X) (k : ℕ) (x : X) → list_all test xs ≡ true → slice_get xs k ≡ Some x → test x ≡ true
passes_at test [] k x all e = absurd (cc)
passes_at test (y ∷ ys) zero x all e =
    let same : y ≡ x = cc in
    subst (λ z. test z ≡ true) same (and_parts (test y) (list_all test ys) all).0
passes_at test (y ∷ ys) (suc k) x all e = passes_at test ys k x (and_parts (test y) (list_all test ys) all).1 e

-- a list with its indexes, and one element more
pub enumerate_push : {X : Type 0} (k : ℕ) (xs : List X) (y : X) → enumerate_from k (xs ++ y ∷ []) ≡ enumerate_from k xs ++ (k + length xs, y) ∷ []
enumerate_push k [] y = ap (λ n. (n, y) ∷ []) (omega arith)
enumerate_push k (x ∷ xs) y =
    let e : (k + 1) + length xs ≡ k + length (x ∷ xs) = omega arith in
    ap (λ zs. (k, x) ∷ zs) (enumerate_push (k + 1) xs y) ∙ ap (λ n. (k, x) ∷ enumerate_from (k + 1) xs ++ (n, y) ∷ []) e

-- a list with its indexes that is joined of two
pub numbered_append : {X : Type 0} (n : ℕ) (xs ys : List X) → enumerate_from n (xs ++ ys) ≡ enumerate_from n xs ++ enumerate_from (n + length xs) ys
numbered_append n [] ys = ap (λ k. enumerate_from k ys) (omega arith)
numbered_append n (x ∷ xs) ys =
    ap (λ es. (n, x) ∷ es) (numbered_append (n + 1) xs ys ∙ ap (λ k. enumerate_from (n + 1) xs ++ enumerate_from k ys) (omega arith))

-- an element with its index
pub numbered_at : {X : Type 0} (n : ℕ) (xs : List X) (k : ℕ) (x : X) → slice_get xs k ≡ Some x → slice_get (enumerate_from n xs) k ≡ Some (n + k, x)
numbered_at n [] k x e = absurd (cc)
numbered_at n (y ∷ xs) zero x e = let same : y ≡ x = cc in let none : n ≡ n + 0 = omega arith in ap (λ z. Some (n, z)) same ∙ ap (λ m. Some (m, x)) none
numbered_at n (y ∷ xs) (suc k) x e = let more : n + 1 + k ≡ n + suc k = omega arith in numbered_at (n + 1) xs k x e ∙ ap (λ m. Some (m, x)) more

-- what holds at each index holds of each with its index
pub each_numbered : {X : Type 0} (P : ℕ × X → Type 0) (n : ℕ) (xs : List X) → ((k : ℕ) (x : X) → slice_get xs k ≡ Some x → P (n + k, x)) → All P (enumerate_from n xs)
each_numbered P n [] h = All-nil P
each_numbered P n (x ∷ xs) h =
    let first : n + 0 ≡ n = omega arith in
    All-cons P (n, x) (enumerate_from (n + 1) xs) (subst (λ m. P (m, x)) first (h 0 x refl))
    (each_numbered P (n + 1) xs (λ k y e. let more : n + suc k ≡ (n + 1) + k = omega arith in subst (λ m. P (m, y)) more (h (suc k) y e)))
