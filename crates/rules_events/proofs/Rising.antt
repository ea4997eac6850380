-- The indexes of the groups that list a subject rise.
use Rattle.std.proofs.Common.{◌≡◌, ℕ, zero, suc, ◌+◌, ◌-◌, ◌<◌, ◌≤◌, true, false, cond, List, [], ◌∷◌, ◌++◌, length, map, get_or, Result, Ok, Err, ◌⊎◌, refl, sym, ap, ◌∙◌, subst, inl, inr, arith, length-append}
use Rattle.std.specs.Prelude.{◌==◌, ◌||◌, filter}
use Rattle.std.specs.Result.{is_ok}
use Rattle.std.specs.List.{enumerate_from, flat_map}
use Rattle.std.specs.List.Sorted.{IsBinarySearchResult}
use Rattle.std.specs.Ordering.{nat_cmp}
use Rattle.std.proofs.lemmas.Bool.{cases_lt, eq-eqb, ne_eqb, or_right}
use Rattle.std.proofs.lemmas.List.{get_or-append-add, get_or_append_left, get_or_past}
use Rattle.std.proofs.lemmas.List.Concat.{flat_map-cons}
use Rattle.std.proofs.lemmas.List.Sorted.{searched}
use Rattle.policy_lawful.specs.declared.resolved.Group.{Group}
use Rattle.rules_channels.specs.ByIndex.{AreItems, items_at_index}
use Rattle.rules_events.specs.Listings.{HaveRising, Rises, all_memberships, memberships}
use Rattle.muen_num.specs.Numbers.{is_among}
use Rattle.rules_channels.proofs.NotedItems.{items-append}

-- ---- a search

stands_at : (xs : List ℕ) (x i : ℕ) → i < length xs → get_or xs i 0 ≡ x → is_among xs x ≡ true
stands_at [] x i l e = absurd (omega arith)
stands_at (y ∷ ys) x zero l e = ap (λ b. b || is_among ys x) (eq-eqb y x e)
stands_at (y ∷ ys) x (suc i) l e = or_right (y == x) (is_among ys x) (stands_at ys x i (omega arith) e)

pub nowhere : (xs : List ℕ) (x : ℕ) → ((i : ℕ) → i < length xs → get_or xs i 0 ≡ x → ⊥) → is_among xs x ≡ false
nowhere [] x none = refl
nowhere (y ∷ ys) x none = ap (λ b. b || is_among ys x) (ne_eqb y x (none 0 (omega arith))) ∙ nowhere ys x (λ i l. none (suc i) (omega arith))

pub stands : (xs : List ℕ) (x : ℕ) (r : Result ℕ ℕ) → IsBinarySearchResult (λ y. nat_cmp y x) xs r → Rises xs → is_ok r ≡ is_among xs x
stands xs x (Ok i) h up = let at = searched xs x (Ok i) h up in sym (stands_at xs x i at.0 at.1)
stands xs x (Err i) h up =
    let at = searched xs x (Err i) h up in
    sym (nowhere xs x (λ k l e. elim (cases_lt k i) as (λ _. ⊥) [
      | inl below ↦ let s = at.1 k below in absurd (omega (arith, s, e))
      | inr above ↦ let s = at.2 k above l in absurd (omega (arith, s, e))
    ]))

-- ---- what is noted

-- a list whose elements are at least so much
record RisesFrom (n : ℕ) (xs : List ℕ) : Type 0 where
  up : Rises xs
  low : (i : ℕ) → i < length xs → n ≤ get_or xs i 0

abbrev AreAll : ℕ → List ℕ → Type 0
AreAll n xs = (i : ℕ) → i < length xs → get_or xs i 0 ≡ n

one_more : (n : ℕ) (xs : List ℕ) → AreAll n xs → AreAll n (n ∷ xs)
one_more n xs all zero l = refl
one_more n xs all (suc i) l = all i (omega arith)

of_group : (k n : ℕ) (is : List ℕ) → AreAll n (items_at_index k (map (λ i. (i, n)) is))
of_group k n [] = λ i l. absurd (omega arith)
of_group k n (j ∷ is) =
    let rest : AreAll n (items_at_index k (map (λ i. (i, n)) is)) = of_group k n is in
    let found : List (ℕ × ℕ) = filter (λ x. x.0 == k) (map (λ i. (i, n)) is) in
    elim (j == k) as (λ b. AreAll n (map (λ x. x.1) (cond b ((j, n) ∷ found) found))) [
      | true ↦ one_more n (map (λ x. x.1) found) rest
      | false ↦ rest
    ]

-- an element of two lists that are joined
left_or_right : (xs ys : List ℕ) (n i : ℕ) → AreAll n xs → RisesFrom (n + 1) ys → i < length (xs ++ ys)
    → ((i < length xs) × (get_or (xs ++ ys) i 0 ≡ n)) ⊎ ((length xs ≤ i) × (get_or (xs ++ ys) i 0 ≡ get_or ys (i - length xs) 0))
left_or_right xs ys n i all up l =
    elim (cases_lt i (length xs)) as (λ _. ((i < length xs) × (get_or (xs ++ ys) i 0 ≡ n)) ⊎ ((length xs ≤ i) × (get_or (xs ++ ys) i 0 ≡ get_or ys (i - length xs) 0))) [
      | inl h ↦ inl (h, get_or_append_left xs ys 0 i h ∙ all i h)
      | inr h ↦ inr (h, ap (λ j. get_or (xs ++ ys) j 0) (omega arith) ∙ get_or-append-add xs ys (i - length xs) 0)
    ]

joined : (xs ys : List ℕ) (n : ℕ) → AreAll n xs → RisesFrom (n + 1) ys → RisesFrom n (xs ++ ys)
joined xs ys n all up =
    let many : length (xs ++ ys) ≡ length xs + length ys = length-append xs ys in
    record {
      low = λ i l. elim (left_or_right xs ys n i all up l) as (λ _. n ≤ get_or (xs ++ ys) i 0) [
        | inl a ↦ let e = a.1 in omega (arith, e)
        | inr a ↦ let e = a.1 in let s = up.low (i - length xs) (omega (arith, many, l, a.0)) in omega (arith, e, s)
      ];
      up = λ i j le l.
          let li : i < length (xs ++ ys) = omega arith in
          elim (left_or_right xs ys n j all up l) as (λ _. get_or (xs ++ ys) i 0 ≤ get_or (xs ++ ys) j 0) [
            | inl b ↦ elim (left_or_right xs ys n i all up li) as (λ _. get_or (xs ++ ys) i 0 ≤ get_or (xs ++ ys) j 0) [
              | inl a ↦ let e = a.1 in let f = b.1 in omega (arith, e, f)
              | inr a ↦ absurd (omega (arith, a.0, b.0, le))
            ]
            | inr b ↦ elim (left_or_right xs ys n i all up li) as (λ _. get_or (xs ++ ys) i 0 ≤ get_or (xs ++ ys) j 0) [
              | inl a ↦ let e = a.1 in let f = b.1 in let s = up.low (j - length xs) (omega (arith, many, l, b.0)) in omega (arith, e, f, s)
              | inr a ↦ let e = a.1 in let f = b.1 in let s = up.up (i - length xs) (j - length xs) (omega (arith, le)) (omega (arith, many, l, b.0)) in omega (arith, e, f, s)
            ]
          ];
    }

rising : (k n : ℕ) (gs : List Group) → RisesFrom n (items_at_index k (flat_map memberships (enumerate_from n gs)))
rising k n [] = record { up = λ i j le l. absurd (omega arith); low = λ i l. absurd (omega arith) }
rising k n (g ∷ gs) =
    subst (RisesFrom n)
    (sym (ap (items_at_index k) (flat_map-cons memberships (n, g) (enumerate_from (n + 1) gs)) ∙ items-append k (memberships (n, g)) (flat_map memberships (enumerate_from (n + 1) gs))))
    (joined (items_at_index k (memberships (n, g))) (items_at_index k (flat_map memberships (enumerate_from (n + 1) gs))) n (of_group k n g.subjects) (rising k (n + 1) gs))

none_rise : Rises []
none_rise i j le l = absurd (omega arith)

-- the groups of each subject rise
pub lists_rise : (lists : List (List ℕ)) (many : ℕ) (gs : List Group) → AreItems lists many (all_memberships gs) → HaveRising lists
lists_rise lists many gs had k =
    elim (cases_lt k many) as (λ _. Rises (get_or lists k [])) [
      | inl l ↦ subst Rises (sym (had.at k l)) (rising k 0 gs).up
      | inr l ↦ subst Rises (sym (get_or_past lists k [] (omega (arith, had.room, l)))) none_rise
    ]
