-- Lists of which one element alone is counted.
use Rattle.std.proofs.Common.{◌≡◌, ℕ, ◌+◌, ◌≤◌, Bool, true, false, cond, List, [], ◌∷◌, length, Some, None, refl, sym, ap, subst, ◌∙◌, inl, inr, arith}
use Rattle.std.specs.Prelude.{◌&&◌, ◌||◌, nat_lt, not, position, slice_get}
use Rattle.std.specs.List.{count_by, list_any, position_or_len, sum_by}
use Rattle.std.proofs.lemmas.Bool.{and_parts, lt-ltb, or_cases}
use Rattle.std.proofs.lemmas.Option.{slice_get_within}
use Rattle.std.proofs.lemmas.List.Sums.{sum_by-cons}
use Rattle.muen_num.proofs.Members.{In}
use Rattle.muen_num.proofs.Lookups.{only_index as first_index}

-- of a list of one
pub single : {X : Type 0} (xs : List X) (a b : X) → length xs ≡ 1 → In a xs → In b xs → a ≡ b
single [] a b one h k = absurd h
single (x ∷ []) a b one (inl e) (inl f) = sym e ∙ f
single (x ∷ []) a b one (inl e) (inr k) = absurd k
single (x ∷ []) a b one (inr h) k = absurd h
single (x ∷ y ∷ ys) a b one h k = absurd (omega (arith, one))

-- ---- sums

pub one_counted : {X : Type 0} (f : X → ℕ) (xs : List X) (x : X) → In x xs → 1 ≤ f x → 1 ≤ sum_by f xs
one_counted f [] x h some = absurd h
one_counted f (y ∷ ys) x (inl same) some =
    let here : 1 ≤ f y = subst (λ x. 1 ≤ f x) (sym same) some in
    let sum : sum_by f (y ∷ ys) ≡ f y + sum_by f ys = sum_by-cons f y ys in
    omega (arith, here, sum)
one_counted f (y ∷ ys) x (inr h) some =
    let later = one_counted f ys x h some in
    let sum : sum_by f (y ∷ ys) ≡ f y + sum_by f ys = sum_by-cons f y ys in
    omega (arith, later, sum)

-- two that differ
pub two_counted : {X : Type 0} (f : X → ℕ) (xs : List X) (a b : X) → (a ≡ b → ⊥) → In a xs → In b xs → 1 ≤ f a → 1 ≤ f b → 2 ≤ sum_by f xs
two_counted f [] a b ne h k m n = absurd h
two_counted f (y ∷ ys) a b ne (inl e) (inl g) m n = absurd (ne (sym e ∙ g))
two_counted f (y ∷ ys) a b ne (inl e) (inr k) m n =
    let here : 1 ≤ f y = subst (λ x. 1 ≤ f x) (sym e) m in
    let later = one_counted f ys b k n in
    let sum : sum_by f (y ∷ ys) ≡ f y + sum_by f ys = sum_by-cons f y ys in
    omega (arith, here, later, sum)
two_counted f (y ∷ ys) a b ne (inr h) (inl g) m n =
    let here : 1 ≤ f y = subst (λ x. 1 ≤ f x) (sym g) n in
    let later = one_counted f ys a h m in
    let sum : sum_by f (y ∷ ys) ≡ f y + sum_by f ys = sum_by-cons f y ys in
    omega (arith, here, later, sum)
two_counted f (y ∷ ys) a b ne (inr h) (inr k) m n =
    let later = two_counted f ys a b ne h k m n in
    let sum : sum_by f (y ∷ ys) ≡ f y + sum_by f ys = sum_by-cons f y ys in
    omega (arith, later, sum)

-- one that passes is counted
pub passing_counted : {X : Type 0} (test : X → Bool) (xs : List X) (x : X) → In x xs → test x ≡ true → 1 ≤ count_by test xs
passing_counted test xs x h passes = one_counted (λ x. cond (test x) 1 0) xs x h (rw passes (omega arith))

-- ---- indexes

-- where two tests pass once each at most, and somewhere both do, they pass first at the same index
pub same_index : {X : Type 0} (p q : X → Bool) (f g : X → ℕ) → ((x : X) → p x ≡ true → 1 ≤ f x) → ((x : X) → q x ≡ true → 1 ≤ g x) → (xs : List X) → sum_by f xs ≤ 1 → sum_by g xs ≤ 1 → list_any (λ x. p x && q x) xs ≡ true
    → position_or_len p xs ≡ position_or_len q xs
same_index p q f g counts marks [] few scarce both = refl
same_index {X} p q f g counts marks (x ∷ xs) few scarce both =
    let sum : sum_by f (x ∷ xs) ≡ f x + sum_by f xs = sum_by-cons f x xs in
    let marked : sum_by g (x ∷ xs) ≡ g x + sum_by g xs = sum_by-cons g x xs in
    elim (p x) as (λ b. p x ≡ b → ((b && q x) || list_any (λ x. p x && q x) xs) ≡ true → cond (not b) (1 + position_or_len p xs) 0 ≡ position_or_len q (x ∷ xs)) [
      | true ↦ λ e h. elim (q x) as (λ c. q x ≡ c → (c || list_any (λ x. p x && q x) xs) ≡ true → 0 ≡ cond (not c) (1 + position_or_len q xs) 0) [
        | true ↦ λ _ _. refl
        | false ↦ λ _ later.
            let here = counts x e in
            let more = some_both p q f counts xs later in
            absurd (omega (arith, here, more, sum, few))
      ] refl h
      | false ↦ λ e h. elim (q x) as (λ c. q x ≡ c → 1 + position_or_len p xs ≡ cond (not c) (1 + position_or_len q xs) 0) [
        | true ↦ λ k.
            let here = marks x k in
            let more = some_second p q g marks xs h in
            absurd (omega (arith, here, more, marked, scarce))
        | false ↦ λ _.
            let fewer : sum_by f xs ≤ 1 = omega (arith, sum, few) in
            let scarcer : sum_by g xs ≤ 1 = omega (arith, marked, scarce) in
            ap (λ n. 1 + n) (same_index p q f g counts marks xs fewer scarcer h)
      ] refl
    ] refl both
  where
    some_both : {X : Type 0} (p q : X → Bool) (f : X → ℕ) → ((x : X) → p x ≡ true → 1 ≤ f x) → (xs : List X) → list_any (λ x. p x && q x) xs ≡ true → 1 ≤ sum_by f xs
    some_both p q f counts [] h = absurd (cc (h))
    some_both p q f counts (x ∷ xs) h =
        let sum : sum_by f (x ∷ xs) ≡ f x + sum_by f xs = sum_by-cons f x xs in
        elim (or_cases (p x && q x) (list_any (λ x. p x && q x) xs) h) as (λ _. 1 ≤ sum_by f (x ∷ xs)) [
          | inl e ↦ let here = counts x (and_parts (p x) (q x) e).0 in omega (arith, here, sum)
          | inr k ↦ let later = some_both p q f counts xs k in omega (arith, later, sum)
        ]

    some_second : {X : Type 0} (p q : X → Bool) (g : X → ℕ) → ((x : X) → q x ≡ true → 1 ≤ g x) → (xs : List X) → list_any (λ x. p x && q x) xs ≡ true → 1 ≤ sum_by g xs
    some_second p q g marks [] h = absurd (cc (h))
    some_second p q g marks (x ∷ xs) h =
        let sum : sum_by g (x ∷ xs) ≡ g x + sum_by g xs = sum_by-cons g x xs in
        elim (or_cases (p x && q x) (list_any (λ x. p x && q x) xs) h) as (λ _. 1 ≤ sum_by g (x ∷ xs)) [
          | inl e ↦ let here = marks x (and_parts (p x) (q x) e).1 in omega (arith, here, sum)
          | inr k ↦ let later = some_second p q g marks xs k in omega (arith, later, sum)
        ]

pub only_index : {X : Type 0} (test : X → Bool) (f : X → ℕ) → ((x : X) → test x ≡ true → 1 ≤ f x) → (xs : List X) (k : ℕ) (x : X) → sum_by f xs ≤ 1 → slice_get xs k ≡ Some x → test x ≡ true → position test xs ≡ Some k
only_index test f counts xs k x few at passes =
    let index = first_index test f counts xs k x few at passes in
    let within = slice_get_within xs k x at in
    ap (λ n. cond (nat_lt n (length xs)) (Some n) None) index ∙ ap (λ b. cond b (Some k) None) (lt-ltb k (length xs) within)
