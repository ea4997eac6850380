-- Elements of lists by their indexes, and what tests, maps and filters tell of them.
use Rattle.std.proofs.Common.{◌≡◌, ℕ, zero, suc, ◌+◌, ◌<◌, cond, Bool, true, false, List, [], ◌∷◌, map, filter, get_or, Option, Some, None, refl, sym, ap, subst, ◌∙◌, inl, inr}
use Rattle.std.specs.Prelude.{option_map, slice_get}
use Rattle.std.specs.List.{AllPairs, cons_option, enumerate_from, filter_map, find, list_any, zip}
use Rattle.std.proofs.lemmas.Bool.{cases_Bool, or_cases}
use Rattle.std.proofs.lemmas.Option.{get_or_from_slice_get, same_Some, slice_get_within}
use Rattle.muen_num.proofs.Options.{one_value}

-- ---- what holds of each

pub pairs_at : {X : Type 0} (R : X → X → Type 0) (xs : List X) (i j : ℕ) (x y : X) → AllPairs R xs → i < j → slice_get xs i ≡ Some x → slice_get xs j ≡ Some y → R x y
pairs_at R xs i j x y h less at to =
    subst (λ z. R z y) (get_or_from_slice_get xs i x x at) (subst (R (get_or xs i x)) (get_or_from_slice_get xs j y x to) (h i j x less (slice_get_within xs j y to)))

-- ---- some element

-- one that passes, and its index
pub record Passing {X : Type 0} (test : X → Bool) (xs : List X) : Type 0 where
  pub index : ℕ
  pub one : X
  pub here : slice_get xs index ≡ Some one
  pub passes : test one ≡ true

pub any_passing : {X : Type 0} (test : X → Bool) (xs : List X) → list_any test xs ≡ true → Passing test xs
any_passing test [] h = absurd (cc)
any_passing test (y ∷ ys) h =
    elim (or_cases (test y) (list_any test ys) h) as (λ _. Passing test (y ∷ ys)) [
      | inl e ↦ record { index = 0; one = y; here = refl; passes = e }
      | inr e ↦ let p = any_passing test ys e in record { index = suc p.index; one = p.one; here = p.here; passes = p.passes }
    ]

pub none_passing : {X : Type 0} (test : X → Bool) (xs : List X) → ((n : ℕ) (x : X) → slice_get xs n ≡ Some x → test x ≡ true → ⊥) → list_any test xs ≡ false
none_passing test xs never =
    elim (cases_Bool (list_any test xs)) [
      | inl t ↦ let p = any_passing test xs t in absurd (never p.index p.one p.here p.passes)
      | inr f ↦ f
    ]

-- ---- a search

pub record FoundAt {X : Type 0} (test : X → Bool) (xs : List X) (x : X) : Type 0 where
  pub index : ℕ
  pub here : slice_get xs index ≡ Some x
  pub passes : test x ≡ true

pub found_at : {X : Type 0} (test : X → Bool) (xs : List X) (x : X) → find test xs ≡ Some x → FoundAt test xs x
found_at test [] x h = absurd (cc)
found_at test (y ∷ ys) x h =
    elim (cases_Bool (test y)) as (λ _. FoundAt test (y ∷ ys) x) [
      | inl t ↦
          let g : Some y ≡ Some x = ap (λ b. cond b (Some y) (find test ys)) (sym t) ∙ h in
          let e : y ≡ x = same_Some y x g in
          record { index = 0; here = g; passes = subst (λ z. test z ≡ true) e t }
      | inr f ↦
          let p = found_at test ys x (ap (λ b. cond b (Some y) (find test ys)) (sym f) ∙ h) in
          record { index = suc p.index; here = p.here; passes = p.passes }
    ]

pub found_some : {X : Type 0} (test : X → Bool) (xs : List X) (n : ℕ) (x : X) → slice_get xs n ≡ Some x → test x ≡ true → (y : X) × (find test xs ≡ Some y)
found_some test [] n x at h = absurd (cc)
found_some test (y ∷ ys) zero x at h =
    let e : y ≡ x = cc in
    (y, ap (λ b. cond b (Some y) (find test ys)) (subst (λ z. test z ≡ true) (sym e) h))
found_some test (y ∷ ys) (suc n) x at h =
    let r = found_some test ys n x at h in
    elim (cases_Bool (test y)) as (λ _. (z : _) × (find test (y ∷ ys) ≡ Some z)) [
      | inl t ↦ (y, ap (λ b. cond b (Some y) (find test ys)) t)
      | inr f ↦ (r.0, ap (λ b. cond b (Some y) (find test ys)) f ∙ r.1)
    ]

-- where all that passes is at one index, this is what is found
pub found_only : {X : Type 0} (test : X → Bool) (xs : List X) (n : ℕ) (x : X) → slice_get xs n ≡ Some x → test x ≡ true → ((m : ℕ) (y : X) → slice_get xs m ≡ Some y → test y ≡ true → m ≡ n) → find test xs ≡ Some x
found_only test xs n x at h only =
    let r = found_some test xs n x at h in
    let p = found_at test xs r.0 r.1 in
    let e : r.0 ≡ x = one_value (slice_get xs n) r.0 x (ap (slice_get xs) (sym (only p.index r.0 p.here p.passes)) ∙ p.here) at in
    r.1 ∙ ap Some e

-- ---- two lists side by side

-- a search by the first of a pair, with the second changed
pub found_changed : {X Y Z : Type 0} (test : X → Bool) (f : Y → Z) (xs : List X) (ys : List Y) → find (λ (e : X × Z). test e.0) (zip xs (map f ys)) ≡ option_map (λ (e : X × Y). (e.0, f e.1)) (find (λ (e : X × Y). test e.0) (zip xs ys))
found_changed test f [] ys = refl
found_changed test f (x ∷ xs) [] = refl
found_changed test f (x ∷ xs) (y ∷ ys) =
    let ih = found_changed test f xs ys in
    elim (cases_Bool (test x)) [ inl t ↦ rw t refl | inr n ↦ rw n ih ]

-- ---- filters

pub filtered_at : {X : Type 0} (test : X → Bool) (xs : List X) (n : ℕ) (x : X) → slice_get (filter test xs) n ≡ Some x → (m : ℕ) × (slice_get xs m ≡ Some x) × (test x ≡ true)
filtered_at test [] n x a = absurd (cc)
filtered_at test (y ∷ ys) n x a = by_test (test y) refl (λ n. filtered_at test ys n x) n a
  where
    by_test : (b : Bool) → test y ≡ b → ((n : ℕ) → slice_get (filter test ys) n ≡ Some x → (m : ℕ) × (slice_get ys m ≡ Some x) × (test x ≡ true))
        → (n : ℕ) → slice_get (cond b (y ∷ filter test ys) (filter test ys)) n ≡ Some x → (m : ℕ) × (slice_get (y ∷ ys) m ≡ Some x) × (test x ≡ true)
    by_test true t later zero h = (0, h, subst (λ z. test z ≡ true) (same_Some y x h) t)
    by_test true t later (suc n) h = let r = later n h in (suc r.0, r.1, r.2)
    by_test false t later n h = let r = later n h in (suc r.0, r.1, r.2)

pub filtered_there : {X : Type 0} (test : X → Bool) (xs : List X) (m : ℕ) (x : X) → slice_get xs m ≡ Some x → test x ≡ true → (n : ℕ) × (slice_get (filter test xs) n ≡ Some x)
filtered_there test [] m x a t = absurd (cc)
filtered_there test (y ∷ ys) zero x a t = let e : test y ≡ true = subst (λ z. test z ≡ true) (sym (same_Some y x a)) t in (0, ap (λ b. slice_get (cond b (y ∷ filter test ys) (filter test ys)) 0) e ∙ a)
filtered_there test (y ∷ ys) (suc m) x a t = by_test (test y) (filtered_there test ys m x a t)
  where
    by_test : (b : Bool) → (n : ℕ) × (slice_get (filter test ys) n ≡ Some x) → (n : ℕ) × (slice_get (cond b (y ∷ filter test ys) (filter test ys)) n ≡ Some x)
    by_test true r = (suc r.0, r.1)
    by_test false r = r

pub kept_there : {X Y : Type 0} (f : X → Option Y) (xs : List X) (m : ℕ) (x : X) (y : Y) → slice_get xs m ≡ Some x → f x ≡ Some y → (n : ℕ) × (slice_get (filter_map f xs) n ≡ Some y)
kept_there f [] m x y a h = absurd (cc)
kept_there f (z ∷ zs) zero x y a h = (0, ap (λ o. slice_get (cons_option o (filter_map f zs)) 0) (ap f (same_Some z x a) ∙ h))
kept_there {X} {Y} f (z ∷ zs) (suc m) x y a h = by_first (f z) (kept_there f zs m x y a h)
  where
    by_first : (o : Option Y) → (n : ℕ) × (slice_get (filter_map f zs) n ≡ Some y) → (n : ℕ) × (slice_get (cons_option o (filter_map f zs)) n ≡ Some y)
    by_first None r = r
    by_first (Some w) r = (suc r.0, r.1)

pub kept_at : {X Y : Type 0} (f : X → Option Y) (xs : List X) (n : ℕ) (y : Y) → slice_get (filter_map f xs) n ≡ Some y → (x : X) × (f x ≡ Some y)
kept_at f [] n y a = absurd (cc)
kept_at {X} {Y} f (x ∷ xs) n y a = by_first (f x) refl (λ n. kept_at f xs n y) n a
  where
    by_first : (o : Option Y) → f x ≡ o → ((n : ℕ) → slice_get (filter_map f xs) n ≡ Some y → (x : X) × (f x ≡ Some y)) → (n : ℕ) → slice_get (cons_option o (filter_map f xs)) n ≡ Some y → (x : X) × (f x ≡ Some y)
    by_first None e later n a = later n a
    by_first (Some z) e later zero a = (x, e ∙ a)
    by_first (Some z) e later (suc n) a = later n a

-- ---- numbered elements

pub enumerated_at : {X : Type 0} (n : ℕ) (xs : List X) (k : ℕ) (x : X) → slice_get xs k ≡ Some x → (m : ℕ) × (slice_get (enumerate_from n xs) k ≡ Some (m, x))
enumerated_at n [] k x a = absurd (cc)
enumerated_at n (y ∷ ys) zero x a = let e : y ≡ x = cc in (n, ap (λ u. Some (n, u)) e)
enumerated_at n (y ∷ ys) (suc k) x a = enumerated_at (n + 1) ys k x a
