-- Lists in an order: what a list is when it is put in order, and what stays of it.
use Rattle.std.proofs.Common.{◌≡◌, ◌⊎◌, inl, inr, All, ℕ, zero, suc, ◌<◌, Bool, true, false, not, List, [], ◌∷◌, length, get_or, map, refl, sym, ap, ◌∙◌, subst, arith}
use Rattle.std.specs.Prelude.{◌&&◌, ◌||◌, if◌then◌else◌}
use Rattle.std.specs.List.{AllByRecursion, AllPairs, Contains, IsDistinct}
use Rattle.std.specs.List.Sorted.{IsPermutation}
use Rattle.std.proofs.lemmas.Bool.{cases_Bool}
use Rattle.std.proofs.lemmas.List.Elements.{All-cons, All-head, All-nil, All-tail}
use Rattle.std.proofs.lemmas.List.Sorted.{Contains-permutation, IsPermutation-cons, IsPermutation-middle, IsPermutation-refl, IsPermutation-sym, IsPermutation-trans}
use Rattle.std.proofs.lemmas.Map.Keys.{IsDistinct-IsPermutation}
use Rattle.expand_grants.specs.Ordered.{in_order, inserted}

-- ---- elements

-- one of the elements
abbrev Among : {X : Type 0} → X → List X → Type 0
Among z [] = ⊥
Among z (x ∷ xs) = (z ≡ x) ⊎ Among z xs

contained : {X : Type 0} (z : X) (xs : List X) → Among z xs → Contains xs z
contained z [] m = absurd m
contained z (x ∷ xs) (inl e) = (0, omega arith, sym e)
contained z (x ∷ xs) (inr m) = let c = contained z xs m in (suc c.0, omega (arith, c.1), c.2)

among_at : {X : Type 0} (z : X) (xs : List X) (k : ℕ) → k < length xs → get_or xs k z ≡ z → Among z xs
among_at z [] k l e = absurd (omega arith)
among_at z (x ∷ xs) zero l e = inl (sym e)
among_at z (x ∷ xs) (suc k) l e = inr (among_at z xs k (omega arith) e)

among_permuted : {X : Type 0} (xs ys : List X) → IsPermutation xs ys → (z : X) → Among z xs → Among z ys
among_permuted xs ys p z m = let c = Contains-permutation xs ys z p (contained z xs m) in among_at z ys c.0 c.1 c.2

each_among : {X : Type 0} (P : X → Type 0) (xs : List X) → AllByRecursion P xs → (z : X) → Among z xs → P z
each_among P [] all z m = absurd m
each_among P (x ∷ xs) all z (inl e) = subst P (sym e) all.0
each_among P (x ∷ xs) all z (inr m) = each_among P xs all.1 z m

among_each : {X : Type 0} (P : X → Type 0) (xs : List X) → ((z : X) → Among z xs → P z) → AllByRecursion P xs
among_each P [] h = tt
among_each P (x ∷ xs) h = (h x (inl refl), among_each P xs (λ z m. h z (inr m)))

-- ---- a list that rises

module _ {X : Type 0} (may_precede : X → X → Bool) where
  -- it may stand before the other, and not after it
  abbrev pub MustPrecede : X → X → Type 0
  MustPrecede a b = (may_precede a b ≡ true) × (may_precede b a ≡ false)

  -- each must precede the later ones
  abbrev Rises : List X → Type 0
  Rises [] = Unit {0}
  Rises (x ∷ xs) = ((z : X) → Among z xs → MustPrecede x z) × Rises xs

  rises_from : (xs : List X) → AllPairs MustPrecede xs → Rises xs
  rises_from [] h = tt
  rises_from (x ∷ xs) h = (
    λ z m.
        let c = contained z xs m in
        let first = h 0 (suc c.0) z (omega arith) (omega (arith, c.1)) in
        subst (MustPrecede x) c.2 first,
    rises_from xs (λ i j d p q. h (suc i) (suc j) d (omega arith) (omega arith)),
  )

  -- neither must precede the other
  abbrev ties : X → X → Bool
  ties a b = not ((may_precede a b && not (may_precede b a)) || (may_precede b a && not (may_precede a b)))

  ties_flips : (p q : Bool) → not ((p && not q) || (q && not p)) ≡ not ((q && not p) || (p && not q))
  ties_flips true true = refl
  ties_flips true false = refl
  ties_flips false true = refl
  ties_flips false false = refl

  ties_self : (p : Bool) → not ((p && not p) || (p && not p)) ≡ true
  ties_self true = refl
  ties_self false = refl

  no_tie : (a b : X) → MustPrecede a b → ties a b ≡ false
  no_tie a b h = rw (h.0, h.1) refl

  distinct : (xs : List X) → Rises xs → IsDistinct ties xs
  unfolding IsDistinct
  distinct [] h = tt
  distinct (x ∷ xs) h = (among_each (λ z. ties x z ≡ false) xs (λ z m. no_tie x z (h.0 z m)), distinct xs h.1)

  -- a list that rises, without one of its elements
  record Taken (x : X) (ys : List X) : Type 0 where
    rest : List X
    rises : Rises rest
    is : inserted may_precede x rest ≡ ys
    among : (z : X) → Among z ys → (z ≡ x) ⊎ Among z rest
    back : (z : X) → Among z rest → Among z ys
    apart : (z : X) → Among z rest → MustPrecede x z ⊎ MustPrecede z x

  at_front : (x : X) (ys : List X) → ((z : X) → Among z ys → MustPrecede x z) → inserted may_precede x ys ≡ x ∷ ys
  unfolding inserted
  at_front x [] h = refl
  at_front x (y ∷ ys) h = rw ((h y (inl refl)).0) refl

  taken : (x : X) (ys : List X) → Rises ys → Among x ys → Taken x ys
  unfolding inserted
  taken x [] h m = absurd m
  taken x (y ∷ ys) h (inl e) = record {
    rest = ys;
    rises = h.1;
    is = ap (λ w. inserted may_precede w ys) e ∙ at_front y ys h.0;
    among = λ z m. elim m [ inl same ↦ inl (same ∙ sym e) | inr later ↦ inr later ];
    back = λ z m. inr m;
    apart = λ z m. inl (subst (λ w. MustPrecede w z) (sym e) (h.0 z m));
  }
  taken x (y ∷ ys) h (inr m) =
      let t = taken x ys h.1 m in
      let after = h.0 x m in
      record {
        rest = y ∷ t.rest;
        rises = (λ z k. h.0 z (t.back z k), t.rises);
        is = rw (after.1) (ap (λ zs. y ∷ zs) t.is);
        among = λ z k. elim k [
          | inl same ↦ inr (inl same)
          | inr later ↦ elim (t.among z later) [ inl same ↦ inl same | inr there ↦ inr (inr there) ]
        ];
        back = λ z k. elim k [ inl same ↦ inl same | inr later ↦ inr (t.back z later) ];
        apart = λ z k. elim k [ inl same ↦ inr (subst (λ w. MustPrecede w x) (sym same) after) | inr later ↦ t.apart z later ];
      }

  not_self : (x : X) → MustPrecede x x → ⊥
  not_self x h = cc

  by_elements : (xs ys : List X) → IsDistinct ties xs → Rises ys → ((z : X) → Among z xs → Among z ys) → ((z : X) → Among z ys → Among z xs) → in_order may_precede xs ≡ ys
  unfolding in_order IsDistinct
  by_elements [] [] apart up to from = refl
  by_elements [] (y ∷ ys) apart up to from = absurd (from y (inl refl))
  by_elements (x ∷ xs) ys apart up to from =
      let t = taken x ys up (to x (inl refl)) in
      let twice : Among x xs → ⊥ = λ m. let one = each_among (λ z. ties x z ≡ false) xs apart.0 x m in let other = ties_self (may_precede x x) in cc in
      let rest = by_elements xs t.rest apart.1 t.rises
      (λ z m. elim (t.among z (to z (inr m))) [ inl same ↦ absurd (twice (subst (λ w. Among w xs) same m)) | inr there ↦ there ])
      (λ z m. elim (from z (t.back z m)) [
        | inl same ↦ absurd (elim (t.apart z m) [ inl a ↦ not_self x (subst (MustPrecede x) same a) | inr b ↦ not_self x (subst (λ w. MustPrecede w x) same b) ])
        | inr there ↦ there
      ]) in
      ap (inserted may_precede x) rest ∙ t.is

-- a list in an order is the one that has its elements and in which each must precede the later ones
pub ordered_is : {X : Type 0} (may_precede : X → X → Bool) (xs ys : List X) → IsPermutation xs ys → AllPairs (λ a b. (may_precede a b ≡ true) × (may_precede b a ≡ false)) ys → in_order may_precede xs ≡ ys
ordered_is may_precede xs ys p h =
    let up = rises_from may_precede ys h in
    let back = IsPermutation-sym xs ys p in
    by_elements may_precede xs ys
    (IsDistinct-IsPermutation (ties may_precede) (λ a b. ties_flips may_precede (may_precede a b) (may_precede b a)) ys xs back (distinct may_precede ys up))
    up (among_permuted xs ys p) (among_permuted ys xs back)

-- ---- what stays

inserted_permutes : {X : Type 0} (may_precede : X → X → Bool) (x : X) (ys : List X) → IsPermutation (x ∷ ys) (inserted may_precede x ys)
unfolding inserted
inserted_permutes may_precede x [] = IsPermutation-refl (x ∷ [])
inserted_permutes may_precede x (y ∷ ys) =
    elim (may_precede x y) as (λ b. IsPermutation (x ∷ y ∷ ys) (if b then x ∷ y ∷ ys else y ∷ inserted may_precede x ys)) [
      | true ↦ IsPermutation-refl (x ∷ y ∷ ys)
      | false ↦ IsPermutation-trans _ _ _ (IsPermutation-middle (x ∷ []) y ys) (IsPermutation-cons y _ _ (inserted_permutes may_precede x ys))
    ]

-- a list in an order has the elements that it has in any
pub in_order_permutes : {X : Type 0} (may_precede : X → X → Bool) (xs : List X) → IsPermutation xs (in_order may_precede xs)
unfolding in_order
in_order_permutes may_precede [] = IsPermutation-refl []
in_order_permutes may_precede (x ∷ xs) =
    IsPermutation-trans _ _ _ (IsPermutation-cons x _ _ (in_order_permutes may_precede xs)) (inserted_permutes may_precede x (in_order may_precede xs))

module _ {X Y : Type 0} (f : X → Y) (may_precede : Y → Y → Bool) where
  map_inserted : (x : X) (ys : List X) → map f (inserted (λ a b. may_precede (f a) (f b)) x ys) ≡ inserted may_precede (f x) (map f ys)
  unfolding inserted
  map_inserted x [] = refl
  map_inserted x (y ∷ ys) =
      elim (may_precede (f x) (f y)) as (λ b. map f (if b then x ∷ y ∷ ys else y ∷ inserted (λ a b. may_precede (f a) (f b)) x ys) ≡ if b then f x ∷ f y ∷ map f ys else f y ∷ inserted may_precede (f x) (map f ys)) [
        | true ↦ refl
        | false ↦ ap (λ zs. f y ∷ zs) (map_inserted x ys)
      ]

  -- put in order by what each is mapped to, then mapped; or first mapped
  pub map_in_order : (xs : List X) → map f (in_order (λ a b. may_precede (f a) (f b)) xs) ≡ in_order may_precede (map f xs)
  unfolding in_order
  map_in_order [] = refl
  map_in_order (x ∷ xs) = map_inserted x (in_order (λ a b. may_precede (f a) (f b)) xs) ∙ ap (inserted may_precede (f x)) (map_in_order xs)

-- ---- what holds of each

pub All-inserted : {X : Type 0} (before : X → X → Bool) (P : X → Type 0) (x : X) (ys : List X) → P x → All P ys → All P (inserted before x ys)
unfolding inserted
All-inserted before P x [] p h = All-cons P x [] p h
All-inserted before P x (y ∷ ys) p h = elim (cases_Bool (before x y)) [
  | inl here ↦ rw here (All-cons P x (y ∷ ys) p h)
  | inr later ↦ rw later (All-cons P y (inserted before x ys) (All-head P y ys h) (All-inserted before P x ys p (All-tail P y ys h)))
]

pub All-in_order : {X : Type 0} (before : X → X → Bool) (P : X → Type 0) (xs : List X) → All P xs → All P (in_order before xs)
unfolding in_order
All-in_order before P [] h = All-nil P
All-in_order before P (x ∷ xs) h =
    All-inserted before P x (in_order before xs) (All-head P x xs h) (All-in_order before P xs (All-tail P x xs h))
