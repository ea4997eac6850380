-- A number in decimal digits is read back.
use Rattle.std.proofs.Common.{◌≡◌, ℕ, zero, suc, ◌+◌, ◌-◌, ◌*◌, ◌/◌, ◌%◌, ◌^◌, ◌<◌, ◌≤◌, Bool, true, false, cond, List, [], ◌∷◌, ◌++◌, length, Some, None, Ok, Err, nat_lt, refl, ap, subst, ◌∙◌, arith}
use Rattle.std.specs.Prelude.{◌&&◌, ◌||◌, ◌==◌, decimal, if◌then◌else◌, slice_index}
use Rattle.std.specs.Char.{is_ascii_digit}
use Rattle.std.specs.Fmt.{digits}
use Rattle.std.specs.List.{list_all}
use Rattle.std.proofs.lemmas.Bool.{and_parts, lt-ltb}
use Rattle.std.proofs.lemmas.Bool.Decides.{nat_tests}
use Rattle.std.proofs.lemmas.Fmt.{decimal_by_steps, decimal_nonempty, first_decimal}
use Rattle.std.proofs.lemmas.List.Folds.{list_all-append}
use Rattle.text_words.specs.Numbers.{decimal as number_below, digits_from, is_badly_begun, number_of, or_why}
use Rattle.text_words.specs.declared.number.NumberError.TheVariants.{TooLarge}

-- digits that spell this number
record Spells (m : ℕ) (ds : List ℕ) : Type 0 where
  value : digits_from 0 ds ≡ Some m
  alone : list_all is_ascii_digit ds ≡ true

digit : (d : ℕ) → d < 10 → is_ascii_digit (48 + d) ≡ true
digit d h = grind (arith, nat_tests)

digit_more : (n m c : ℕ) (ds : List ℕ) → digits_from n ds ≡ Some m → is_ascii_digit c ≡ true → digits_from n (ds ++ c ∷ []) ≡ Some (10 * m + (c - 48))
digit_more n m c [] h d = let same : n ≡ m = cc in rw (d, same) refl
digit_more n m c (x ∷ ds) h d =
    elim (is_ascii_digit x) as (λ b. cond b (digits_from (10 * n + (x - 48)) ds) None ≡ Some m → cond b (digits_from (10 * n + (x - 48)) (ds ++ c ∷ [])) None ≡ Some (10 * m + (c - 48))) [
      | true ↦ λ e. digit_more (10 * n + (x - 48)) m c ds e d
      | false ↦ λ e. absurd (cc)
    ] h

one : (m : ℕ) → m < 10 → Spells m ((48 + m) ∷ [])
one m h =
    let d = digit m h in
    let is : 10 * 0 + (48 + m - 48) ≡ m = omega arith in
    record { value = rw (d, is) refl; alone = rw d refl }

more : (m : ℕ) (ds : List ℕ) → 10 ≤ m → Spells (m / 10) ds → Spells m (ds ++ (48 + m % 10) ∷ [])
more m ds le h =
    let d = digit (m % 10) (omega arith) in
    let is : 10 * (m / 10) + (48 + m % 10 - 48) ≡ m = omega arith in
    record {
      value = subst (λ k. digits_from 0 (ds ++ (48 + m % 10) ∷ []) ≡ Some k) is (digit_more 0 (m / 10) (48 + m % 10) ds h.value d);
      alone = rw (list_all-append, h.alone, d) refl;
    }

spelled : (n : ℕ) → n < 2 ^ 64 → Spells n (decimal n)
spelled n h = decimal_by_steps Spells one more n h

first_of : (p : ℕ → Bool) (xs : List ℕ) → 0 < length xs → list_all p xs ≡ true → p (slice_index xs 0) ≡ true
first_of p [] some h = absurd (omega arith)
first_of p (x ∷ xs) some h = (and_parts (p x) (list_all p xs) h).0

pub digits_alone : (n : ℕ) → n < 2 ^ 64 → list_all is_ascii_digit (decimal n) ≡ true
digits_alone n h = (spelled n h).alone

begun : (count first : ℕ) → 0 < count → 48 < first → ((count == 0) || (nat_lt 1 count && (first == 48))) ≡ false
begun count first some high = grind (arith, nat_tests)

well_begun : (n : ℕ) → n < 2 ^ 64 → is_badly_begun (decimal n) ≡ false
unfolding digits
well_begun zero h = refl
well_begun (suc n) h =
    begun (length (decimal (suc n))) (slice_index (decimal (suc n)) 0) (decimal_nonempty (suc n) h) (first_decimal (suc n) (omega arith) h)

pub number_read : (n : ℕ) → n < 2 ^ 64 → number_of (decimal n) ≡ Some n
number_read n h = rw (well_begun n h) (spelled n h).value

pub decimal_read : (n : ℕ) → n < 2 ^ 64 → number_below (decimal n) ≡ Ok n
unfolding number_below
decimal_read n h = ap or_why (number_read n h) ∙ ap (λ b. if b then Ok n else Err TooLarge) (lt-ltb n (2 ^ 64) h)

pub first_digit : (n : ℕ) → n < 2 ^ 64 → is_ascii_digit (slice_index (decimal n) 0) ≡ true
first_digit n h = first_of is_ascii_digit (decimal n) (decimal_nonempty n h) (digits_alone n h)
