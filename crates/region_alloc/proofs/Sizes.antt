-- A list that falls by numbers of its elements, and in which those of the same number stand as before, is the one that is
-- made by putting each element before the first that is no greater.
use Rattle.std.proofs.Common.{◌≡◌, ℕ, suc, ◌+◌, ◌<◌, ◌≤◌, inl, inr, Bool, true, false, cond, All, List, [], ◌∷◌, length, get_or, refl, sym, ap, ◌∙◌, arith}
use Rattle.std.specs.Prelude.{◌&&◌, ◌==◌, filter, nat_le}
use Rattle.std.specs.List.Sorted.{ties}
use Rattle.std.specs.Ordering.{is_lt, nat_cmp}
use Rattle.std.proofs.lemmas.Bool.{cases_Bool, cases_order, eq-eqb, leb-false, leb-true, ne_eqb}
use Rattle.std.proofs.lemmas.Bool.Decides.{nat_tests}
use Rattle.std.proofs.lemmas.List.Elements.{All-cons, All-head, All-nil, All-tail, All-weaker, filter_agree}
use Rattle.expand_kernel.specs.Ordered.{in_order, inserted}
use Rattle.expand_kernel.proofs.Ordered.{All-inserted}

module _ {X : Type 0} (n : X → ℕ) where
  abbrev pub alike : X → X → Bool
  alike x y = n x == n y

  abbrev pub falls : X → X → Bool
  falls x y = nat_le (n y) (n x)

  -- none is greater than one before it
  abbrev pub Falls : List X → Type 0
  Falls [] = Unit {0}
  Falls (y ∷ ys) = All (λ z. n z ≤ n y) ys × Falls ys

  -- ---- what is put in its place

  in_between : (x y : X) (rest : List X) (a b : Bool) → (a && b) ≡ false → cond b (y ∷ cond a (x ∷ rest) rest) (cond a (x ∷ rest) rest) ≡ cond a (x ∷ cond b (y ∷ rest) rest) (cond b (y ∷ rest) rest)
  in_between x y rest true true h = absurd (cc)
  in_between x y rest true false h = refl
  in_between x y rest false b h = refl

  not_both : (x y z : X) → n x < n y → (alike z x && alike z y) ≡ false
  not_both x y z l = grind (arith, nat_tests)

  inserted_alike : (x : X) (ys : List X) (z : X) → filter (alike z) (inserted falls x ys) ≡ filter (alike z) (x ∷ ys)
  unfolding inserted
  inserted_alike x [] z = refl
  inserted_alike x (y ∷ ys) z = elim (cases_Bool (falls x y)) [
    | inl here ↦ ap (λ b. filter (alike z) (cond b (x ∷ y ∷ ys) (y ∷ inserted falls x ys))) here
    | inr later ↦
        ap (λ b. filter (alike z) (cond b (x ∷ y ∷ ys) (y ∷ inserted falls x ys))) later
        ∙ ap (λ l. cond (alike z y) (y ∷ l) l) (inserted_alike x ys z)
        ∙ in_between x y (filter (alike z) ys) (alike z x) (alike z y) (not_both x y z (leb-false _ _ later))
  ]

  order_alike : (xs : List X) (z : X) → filter (alike z) (in_order falls xs) ≡ filter (alike z) xs
  unfolding in_order
  order_alike [] z = refl
  order_alike (x ∷ xs) z = inserted_alike x (in_order falls xs) z ∙ ap (λ l. cond (alike z x) (x ∷ l) l) (order_alike xs z)

  inserted_falls : (x : X) (ys : List X) → Falls ys → Falls (inserted falls x ys)
  unfolding inserted
  inserted_falls x [] h = (All-nil (λ z. n z ≤ n x), tt)
  inserted_falls x (y ∷ ys) h = elim (cases_Bool (falls x y)) [
    | inl here ↦
        let l : n y ≤ n x = leb-true _ _ here in
        rw here (All-cons (λ z. n z ≤ n x) y ys l (All-weaker (λ z. n z ≤ n y) (λ z. n z ≤ n x) (λ z k. omega arith) ys h.0), h)
    | inr later ↦
        let l : n x < n y = leb-false _ _ later in
        rw later (All-inserted falls (λ z. n z ≤ n y) x ys (omega arith) h.0, inserted_falls x ys h.1)
  ]

  order_falls : (xs : List X) → Falls (in_order falls xs)
  unfolding in_order
  order_falls [] = tt
  order_falls (x ∷ xs) = inserted_falls x (in_order falls xs) (order_falls xs)

  -- ---- two lists that fall, with the same elements of each number in the same order

  none_alike : (z : X) (ys : List X) → All (λ y. n y < n z) ys → filter (alike z) ys ≡ []
  none_alike z [] h = refl
  none_alike z (y ∷ ys) h =
      let l : n y < n z = All-head (λ y. n y < n z) y ys h in
      ap (λ b. cond b (y ∷ filter (alike z) ys) (filter (alike z) ys)) (ne_eqb (n z) (n y) (λ e. absurd (omega arith)))
      ∙ none_alike z ys (All-tail (λ y. n y < n z) y ys h)

  first_alike : (y : X) (ys : List X) → filter (alike y) (y ∷ ys) ≡ y ∷ filter (alike y) ys
  first_alike y ys = ap (λ b. cond b (y ∷ filter (alike y) ys) (filter (alike y) ys)) (eq-eqb (n y) (n y) refl)

  abbrev Same : List X → List X → Type 0
  Same xs ys = (z : X) → filter (alike z) xs ≡ filter (alike z) ys

  not_greater : (x : X) (xs : List X) (y : X) (ys : List X) → Falls (x ∷ xs) → Same (x ∷ xs) (y ∷ ys) → n x < n y → ⊥
  not_greater x xs y ys f s l =
      let none = none_alike y (x ∷ xs) (All-cons (λ z. n z < n y) x xs l (All-weaker (λ z. n z ≤ n x) (λ z. n z < n y) (λ z k. omega arith) xs f.0)) in
      let some = first_alike y ys in
      let same = s y in
      absurd (cc)

  rest_same : (x : X) (xs ys : List X) → Same (x ∷ xs) (x ∷ ys) → Same xs ys
  rest_same x xs ys s z = elim (cases_Bool (alike z x)) [
    | inl here ↦
        let e = s z in
        let p : filter (alike z) (x ∷ xs) ≡ x ∷ filter (alike z) xs = ap (λ b. cond b (x ∷ filter (alike z) xs) (filter (alike z) xs)) here in
        let q : filter (alike z) (x ∷ ys) ≡ x ∷ filter (alike z) ys = ap (λ b. cond b (x ∷ filter (alike z) ys) (filter (alike z) ys)) here in
        cc
    | inr there ↦
        sym (ap (λ b. cond b (x ∷ filter (alike z) xs) (filter (alike z) xs)) there)
        ∙ s z
        ∙ ap (λ b. cond b (x ∷ filter (alike z) ys) (filter (alike z) ys)) there
  ]

  one_list : (xs ys : List X) → Falls xs → Falls ys → Same xs ys → xs ≡ ys
  one_list [] [] f g s = refl
  one_list [] (y ∷ ys) f g s = let e = s y in let q = first_alike y ys in absurd (cc)
  one_list (x ∷ xs) [] f g s = let e = s x in let q = first_alike x xs in absurd (cc)
  one_list (x ∷ xs) (y ∷ ys) f g s = elim (cases_order (n x) (n y)) [
    | inl same ↦
        let p = first_alike y ys in
        let q : filter (alike y) (x ∷ xs) ≡ x ∷ filter (alike y) xs = ap (λ b. cond b (x ∷ filter (alike y) xs) (filter (alike y) xs)) (eq-eqb (n y) (n x) (sym same)) in
        let e = s y in
        let h : x ≡ y = cc in
        let t : Same (x ∷ xs) (x ∷ ys) = λ z. s z ∙ ap (λ w. filter (alike z) (w ∷ ys)) (sym h) in
        ap (λ w. w ∷ xs) h ∙ ap (λ l. y ∷ l) (one_list xs ys f.1 g.1 (rest_same x xs ys t))
    | inr apart ↦ elim apart [
      | inl less ↦ absurd (not_greater x xs y ys f s less)
      | inr more ↦ absurd (not_greater y ys x xs g (λ z. sym (s z)) more)
    ]
  ]

  -- ---- what a stable sort gives

  falls_from_neighbours : (ys : List X) → ((k : ℕ) (d : X) → suc k < length ys → n (get_or ys (suc k) d) ≤ n (get_or ys k d)) → Falls ys
  falls_from_neighbours [] h = tt
  falls_from_neighbours (y ∷ []) h = (All-nil (λ z. n z ≤ n y), tt)
  falls_from_neighbours (y ∷ z ∷ zs) h =
      let rest = falls_from_neighbours (z ∷ zs) (λ k d l. h (suc k) d (omega arith)) in
      let l : n z ≤ n y = h 0 y (omega arith) in
      (All-cons (λ w. n w ≤ n y) z zs l (All-weaker (λ w. n w ≤ n z) (λ w. n w ≤ n y) (λ w k. omega arith) zs rest.0), rest)

  abbrev less : X → X → Bool
  less x y = is_lt (nat_cmp (n y) (n x))

  ties_alike : (x y : X) → ties less x y ≡ alike x y
  ties_alike x y = grind (arith, nat_tests)

  not_less : (x y : X) → less y x ≡ false → n y ≤ n x
  not_less x y h = grind (arith, nat_tests)

  pub order_is : (xs ys : List X) → ((k : ℕ) (d : X) → 0 ≤ k → k + 1 < length ys → less (get_or ys (k + 1) d) (get_or ys k d) ≡ false) → ((x : X) → filter (ties less x) ys ≡ filter (ties less x) xs) → ys ≡ in_order falls xs
  order_is xs ys up stable =
      one_list ys (in_order falls xs)
      (falls_from_neighbours ys (λ k d l.
      let e : k + 1 ≡ suc k = omega arith in
      let h = up k d (omega arith) (omega arith) in
      not_less (get_or ys k d) (get_or ys (suc k) d) (ap (λ j. less (get_or ys j d) (get_or ys k d)) (sym e) ∙ h)))
      (order_falls xs)
      (λ z.
      sym (filter_agree (ties less z) (alike z) (ties_alike z) ys)
      ∙ stable z
      ∙ filter_agree (ties less z) (alike z) (ties_alike z) xs
      ∙ sym (order_alike xs z))
