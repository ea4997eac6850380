-- Subjects that share no span.
use Rattle.std.proofs.Common.{◌≡◌, ◌==◌, ℕ, ◌+◌, ◌<◌, ◌≤◌, Bool, true, false, List, length, sym, subst, arith, inl, inr, get_or}
use Rattle.std.specs.Prelude.{slice_index_or}
use Rattle.std.specs.List.{All, list_any}
use Rattle.std.proofs.lemmas.Bool.{cases_lt, eqb-true, eq-eqb, false_from_ne_true}
use Rattle.std.proofs.lemmas.Option.{get_or_from_slice_get, slice_get-get_or, slice_get_within}
use Rattle.image_checks.specs.Firsts.{Decides, FailsFirst}
use Rattle.image_checks.specs.OwnPages.{SharesWithNone}
use Rattle.image_pack.specs.declared.parts.SubjectPart.{SubjectPart}
use Rattle.image_soundness.specs.Sound.{ShareNoSpan, own_spans, share_a_span}
use Rattle.muen_num.proofs.Members.{any_in, any_some}
use Rattle.muen_num.proofs.NumbersBelow.{length_numbers, number_at}
use Rattle.muen_num.specs.Range.{numbers_below}

-- sharing goes both ways
one_way : (a b : SubjectPart) → share_a_span a b ≡ true → share_a_span b a ≡ true
one_way a b h =
    let some = any_some (λ n. list_any (λ m. m == n) (own_spans b)) (own_spans a) h in
    let other = any_some (λ m. m == some.one) (own_spans b) some.passes in
    let same : some.one ≡ other.one = sym (eqb-true other.one some.one other.passes) in
    any_in (λ n. list_any (λ m. m == n) (own_spans a)) (own_spans b) other.one other.within (any_in (λ m. m == other.one) (own_spans a) some.one some.within (eq-eqb some.one other.one same))

none_back : (a b : SubjectPart) → share_a_span a b ≡ false → share_a_span b a ≡ false
none_back a b h = false_from_ne_true (share_a_span b a) (λ e. let f : share_a_span a b ≡ true = one_way b a e in cc)

at_each : (parts : List SubjectPart) → ShareNoSpan parts → (i : ℕ) → SharesWithNone parts i
at_each parts h i j a b at_i at_j differ =
    let low : i < length parts = slice_get_within parts i a at_i in
    let high : j < length parts = slice_get_within parts j b at_j in
    let first : get_or parts i a ≡ a = get_or_from_slice_get parts i a a at_i in
    let second : get_or parts j a ≡ b = get_or_from_slice_get parts j b a at_j in
    elim (cases_lt i j) [
      | inl l ↦ subst (λ x. share_a_span a x ≡ false) second (subst (λ x. share_a_span x (get_or parts j a) ≡ false) first (h i j a l high))
      | inr m ↦
          let less : j < i = omega (arith, m, differ) in
          none_back b a (subst (λ x. share_a_span b x ≡ false) first (subst (λ x. share_a_span x (get_or parts i a) ≡ false) second (h j i a less low)))
    ]

-- where each of them shares with none no two share one
pub shares_none : (parts : List SubjectPart) → All (SharesWithNone parts) (numbers_below (length parts)) → ShareNoSpan parts
shares_none parts each i j d l m =
    let low : i < length parts = omega (arith, l, m) in
    let long : length (numbers_below (length parts)) ≡ length parts = length_numbers (length parts) in
    let here : get_or (numbers_below (length parts)) i 0 ≡ i = get_or_from_slice_get (numbers_below (length parts)) i i 0 (number_at (length parts) i low) in
    subst (SharesWithNone parts) here (each i 0 (omega (arith, low, long))) j (get_or parts i d) (get_or parts j d) (slice_get-get_or parts i d low) (slice_get-get_or parts j d m) (omega (arith, l))

-- and the other way round
pub each_shares_none : (parts : List SubjectPart) → ShareNoSpan parts → All (SharesWithNone parts) (numbers_below (length parts))
each_shares_none parts h i d l =
    let long : length (numbers_below (length parts)) ≡ length parts = length_numbers (length parts) in
    let low : i < length parts = omega (arith, l, long) in
    let here : get_or (numbers_below (length parts)) i d ≡ i = get_or_from_slice_get (numbers_below (length parts)) i i d (number_at (length parts) i low) in
    subst (SharesWithNone parts) (sym here) (at_each parts h i)

-- ---- the numbers below the length

pub number_is : (n k d : ℕ) → k < n → slice_index_or (numbers_below n) k d ≡ k
number_is n k d l = get_or_from_slice_get (numbers_below n) k k d (number_at n k l)

-- the first number that fails
pub first_number : (P : ℕ → Type 0) (n k : ℕ) (b : Bool) → k < n → ((j : ℕ) → j < k → P j) → b ≡ false → Decides (P k) b → FailsFirst P (numbers_below n) k
first_number P n k b l before is answer =
    let fails : P k → ⊥ = subst (Decides (P k)) is answer in
    record {
      within = omega (arith, l, length_numbers n);
      before = λ j d m. subst P (sym (number_is n j d (omega (arith, l, m)))) (before j m);
      here = λ d h. fails (subst P (number_is n k d l) h);
    }

-- one more that passes
pub one_more : (P : ℕ → Type 0) (k : ℕ) (b : Bool) → ((j : ℕ) → j < k → P j) → b ≡ true → Decides (P k) b → (j : ℕ) → j < k + 1 → P j
one_more P k b before is answer j l =
    elim (cases_lt j k) [
      | inl m ↦ before j m
      | inr m ↦ let same : k ≡ j = omega (arith, l, m) in subst P same (subst (Decides (P k)) is answer)
    ]

-- each passes
pub each_number : (P : ℕ → Type 0) (n k : ℕ) → n ≤ k → ((j : ℕ) → j < k → P j) → All P (numbers_below n)
each_number P n k long before j d l =
    let low : j < n = omega (arith, l, length_numbers n) in
    subst P (sym (number_is n j d low)) (before j (omega (arith, low, long)))
