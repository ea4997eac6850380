-- Numbers of which no two are equal, one more at a time.
use Rattle.std.proofs.Common.{◌≡◌, ℕ, ◌+◌, ◌<◌, Bool, true, false, cond, List, [], ◌∷◌, ◌++◌, length, get_or, take, drop, refl, sym, ap, ◌∙◌, inl, inr, arith}
use Rattle.std.specs.Prelude.{◌==◌, ◌&&◌, ◌||◌, not, nat_le}
use Rattle.std.specs.List.{list_all}
use Rattle.std.proofs.lemmas.Bool.{and_from, and_parts, and_right, cases_lt, true≢false}
use Rattle.std.proofs.lemmas.Bool.Decides.{nat_tests}
use Rattle.std.proofs.lemmas.List.{take_more, take-append-drop}
use Rattle.std.proofs.lemmas.List.Folds.{list_all-append, list_any-append}
use Rattle.std.proofs.Math.Bool.{or-false}
use Rattle.muen_num.proofs.Numbers.{equal_turned}
use Rattle.muen_num.specs.Numbers.{are_distinct, is_among}
use Rattle.rules_events.specs.Marks.{Marks}
use Rattle.rules_events.specs.Numbers.{are_distinct_in, may_follow}

-- one more number stands in a list
among_push : (xs : List ℕ) (n k : ℕ) → is_among (xs ++ n ∷ []) k ≡ (is_among xs k || (n == k))
among_push xs n k = list_any-append (λ m. m == k) xs (n ∷ []) ∙ ap (λ b. is_among xs k || b) (or-false (n == k))

sorted : (a b c d : Bool) → (not (a || b) && (c && not d)) ≡ ((not a && c) && not (b || d))
sorted true b c d = refl
sorted false true true d = refl
sorted false true false d = refl
sorted false false true d = refl
sorted false false false d = refl

distinct_push : (xs : List ℕ) (n : ℕ) → are_distinct (xs ++ n ∷ []) ≡ (are_distinct xs && not (is_among xs n))
distinct_push [] n = refl
distinct_push (x ∷ xs) n =
    ap (λ b. not b && are_distinct (xs ++ n ∷ [])) (among_push xs n x ∙ ap (λ b. is_among xs x || b) (equal_turned n x))
    ∙ ap (λ b. not (is_among xs x || (x == n)) && b) (distinct_push xs n)
    ∙ sorted (is_among xs x) (x == n) (are_distinct xs) (is_among xs n)

-- one more in the range and not met
pushed : (a b c d : Bool) → ((a && (b && true)) && (c && not d)) ≡ ((a && c) && (b && not d))
pushed true true c d = refl
pushed true false true d = refl
pushed true false false d = refl
pushed false b c d = refl

abbrev in_range : ℕ → ℕ → ℕ → Bool
in_range first last n = nat_le first n && nat_le n last

in_push : (first last : ℕ) (xs : List ℕ) (n : ℕ) → are_distinct_in first last (xs ++ n ∷ []) ≡ (are_distinct_in first last xs && (in_range first last n && not (is_among xs n)))
in_push first last xs n =
    ap (λ b. b && are_distinct (xs ++ n ∷ [])) (list_all-append (in_range first last) xs (n ∷ []))
    ∙ ap (λ b. (list_all (in_range first last) xs && (in_range first last n && true)) && b) (distinct_push xs n)
    ∙ pushed (list_all (in_range first last) xs) (in_range first last n) (are_distinct xs) (is_among xs n)

-- ---- a front

fewer : (a b c d : Bool) → (not (a || b) && c) ≡ true → (c ≡ true → d ≡ true) → (not a && d) ≡ true
fewer true b c d h t = absurd (true≢false (sym h))
fewer false true c d h t = absurd (true≢false (sym h))
fewer false false c d h t = t h

distinct_front : (xs ys : List ℕ) → are_distinct (xs ++ ys) ≡ true → are_distinct xs ≡ true
distinct_front [] ys h = refl
distinct_front (x ∷ xs) ys h =
    fewer (is_among xs x) (is_among ys x) (are_distinct (xs ++ ys)) (are_distinct xs)
    (ap (λ b. not b && are_distinct (xs ++ ys)) (sym (list_any-append (λ m. m == x) xs ys)) ∙ h) (distinct_front xs ys)

in_front : (first last : ℕ) (xs ys : List ℕ) → are_distinct_in first last (xs ++ ys) ≡ true → are_distinct_in first last xs ≡ true
in_front first last xs ys h =
    let parts = and_parts _ _ h in
    and_from _ _ (and_parts _ _ (sym (list_all-append (in_range first last) xs ys) ∙ parts.0)).0 (distinct_front xs ys parts.1)

never : (a b : Bool) → (a ≡ true → b ≡ true) → b ≡ false → false ≡ a
never true b t e = absurd (true≢false (sym (t refl) ∙ e))
never false b t e = refl

-- ---- marks

-- those that stand in this front are marked
abbrev pub Noted : List Bool → List ℕ → Type 0
Noted marks ns = (k : ℕ) → k < length marks → get_or marks k false ≡ is_among ns k

-- a number follows by its mark just where it isn't in the front
follow_same : (marks : List Bool) (ns : List ℕ) (first last n : ℕ) → last < length marks → Noted marks ns → may_follow marks first last n ≡ (in_range first last n && not (is_among ns n))
follow_same marks ns first last n room had =
    elim (cases_lt n (length marks)) as (λ _. may_follow marks first last n ≡ (in_range first last n && not (is_among ns n))) [
      | inl l ↦ ap (λ b. in_range first last n && not b) (had n l)
      | inr l ↦
          let past : nat_le n last ≡ false = grind (arith, nat_tests) in
          let out : in_range first last n ≡ false = ap (λ b. nat_le first n && b) past ∙ and_right (nat_le first n) false refl in
          ap (λ b. b && not (get_or marks n false)) out ∙ sym (ap (λ b. b && not (is_among ns n)) out)
    ]

-- the first number that doesn't follow
pub refused : (marks : List Bool) (first last : ℕ) (ns : List ℕ) (i d : ℕ) (b : Bool) → i < length ns → last < length marks → Noted marks (take i ns)
    → b ≡ may_follow marks first last (get_or ns i d) → b ≡ false → false ≡ are_distinct_in first last ns
refused marks first last ns i d b within room had says bad =
    let n = get_or ns i d in
    let more : take (i + 1) ns ≡ take i ns ++ n ∷ [] = take_more ns i d within in
    let front : are_distinct_in first last ns ≡ true → are_distinct_in first last (take i ns ++ n ∷ []) ≡ true = λ h.
    in_front first last (take i ns ++ n ∷ []) (drop (i + 1) ns) (ap (λ xs. are_distinct_in first last (xs ++ drop (i + 1) ns)) (sym more) ∙ ap (are_distinct_in first last) (take-append-drop (i + 1) ns) ∙ h) in
    let none : (in_range first last n && not (is_among (take i ns) n)) ≡ false = sym (follow_same marks (take i ns) first last n room had) ∙ sym says ∙ bad in
    never (are_distinct_in first last ns) (are_distinct_in first last (take i ns ++ n ∷ [])) front
    (in_push first last (take i ns) n ∙ and_right (are_distinct_in first last (take i ns)) _ none)

-- what a loop keeps
pub record Followed (now : List Bool) (first last : ℕ) (ns : List ℕ) (i : ℕ) : Type 0 where
  pub marks : Noted now (take i ns)
  pub distinct : are_distinct_in first last (take i ns) ≡ true

-- a mark is set, or it was
pub marked : (t b : Bool) → cond t true b ≡ (b || t)
marked true true = refl
marked true false = refl
marked false b = sym (or-false b)

-- one that follows
pub followed : (marks new : List Bool) (first last : ℕ) (ns : List ℕ) (i d : ℕ) (b : Bool) → i < length ns → last < length marks → length new ≡ length marks → Followed marks first last ns i
    → b ≡ may_follow marks first last (get_or ns i d) → b ≡ true → Marks marks new (get_or ns i d) true → Followed new first last ns (i + 1)
followed marks new first last ns i d b within room long had says good now =
    let n = get_or ns i d in
    record {
      marks = λ k l.
          let l' : k < length marks = omega arith in
          now k l' ∙ marked (n == k) (get_or marks k false) ∙ ap (λ b. b || (n == k)) (had.marks k l')
          ∙ sym (among_push (take i ns) n k) ∙ ap (λ xs. is_among xs k) (sym (take_more ns i d within));
      distinct = ap (are_distinct_in first last) (take_more ns i d within) ∙ in_push first last (take i ns) n
          ∙ and_from _ _ had.distinct (sym (follow_same marks (take i ns) first last n room had.marks) ∙ sym says ∙ good);
    }
