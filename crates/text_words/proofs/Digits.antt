-- Digits, and the number that they spell.
use Rattle.std.proofs.Common.{◌≡◌, ℕ, ◌+◌, ◌-◌, ◌*◌, ◌^◌, ◌<◌, ◌≤◌, true, false, cond, List, [], ◌∷◌, length, drop, get_or, Option, Some, None, Result, Ok, Err, is_some, option_and_then, nat_lt, refl, sym, ap, ◌∙◌, arith}
use Rattle.std.specs.Prelude.{◌&&◌}
use Rattle.std.specs.Char.{is_ascii_digit}
use Rattle.std.specs.List.{list_all}
use Rattle.std.proofs.lemmas.List.{drop_more}
use Rattle.std.proofs.lemmas.Bool.Decides.{nat_tests}
use Rattle.text_words.specs.Numbers.{decimal, digits_from, is_badly_begun, or_why, within_word}
use Rattle.text_words.specs.declared.number.NumberError.{NumberError}
use Rattle.text_words.specs.declared.number.NumberError.TheVariants.{NoNumber, TooLarge}

too_large : (n : ℕ) → 2 ^ 64 ≤ n → within_word n ≡ None
too_large n h = grind (arith, nat_tests)

-- past 2^64, whatever digits follow
pub beyond : (n : ℕ) (cs : List ℕ) → 2 ^ 64 ≤ n → option_and_then within_word (digits_from n cs) ≡ None
beyond n [] h = too_large n h
beyond n (c ∷ cs) h =
    elim (is_ascii_digit c) as (λ b. option_and_then within_word (cond b (digits_from (10 * n + (c - 48)) cs) None) ≡ None) [
      | true ↦ beyond (10 * n + (c - 48)) cs (omega arith)
      | false ↦ refl
    ]

pub beyond_is : (n : ℕ) (cs word : List ℕ) → digits_from n cs ≡ digits_from 0 word → 2 ^ 64 ≤ n → option_and_then within_word (digits_from 0 word) ≡ None
beyond_is n cs word e h = ap (option_and_then within_word) (sym e) ∙ beyond n cs h

-- a digit more is too much
pub beyond_next : (n i : ℕ) (word : List ℕ) → i < length word → digits_from n (drop i word) ≡ digits_from 0 word → is_ascii_digit (get_or word i 0) ≡ true
    → 2 ^ 64 ≤ 10 * n + (get_or word i 0 - 48) → option_and_then within_word (digits_from 0 word) ≡ None
beyond_next n i word h same digit large =
    let first = drop_more word i 0 h in
    let there = rw (first, digit) at same in
    beyond_is (10 * n + (get_or word i 0 - 48)) (drop (i + 1) word) word there large

digits_alone : (n : ℕ) (cs : List ℕ) → is_some (digits_from n cs) ≡ list_all is_ascii_digit cs
digits_alone n [] = refl
digits_alone n (c ∷ cs) =
    elim (is_ascii_digit c) as (λ b. is_some (cond b (digits_from (10 * n + (c - 48)) cs) None) ≡ (b && list_all is_ascii_digit cs)) [
      | true ↦ digits_alone (10 * n + (c - 48)) cs
      | false ↦ refl
    ]

-- ---- a number below 2^64

abbrev IsValue : Result ℕ NumberError → Option ℕ → Type 0
IsValue r None = r ≡ Err TooLarge
IsValue r (Some n) = r ≡ Ok n

value_of_some : (o v : Option ℕ) → is_some o ≡ true → v ≡ option_and_then within_word o → IsValue (or_why o) v
value_of_some None v h e = cc
value_of_some (Some n) v h e =
    rw e (elim (nat_lt n (2 ^ 64)) as (λ b. IsValue (cond b (Ok n) (Err TooLarge)) (cond b (Some n) None)) [ true ↦ refl | false ↦ refl ])

no_number : (o : Option ℕ) → is_some o ≡ false → or_why o ≡ Err NoNumber
no_number None h = refl
no_number (Some n) h = cc

pub badly_begun : (word : List ℕ) → is_badly_begun word ≡ true → decimal word ≡ Err NoNumber
unfolding decimal
badly_begun word h = ap (λ b. or_why (cond b None (digits_from 0 word))) h

pub not_digits : (word : List ℕ) → is_badly_begun word ≡ false → list_all is_ascii_digit word ≡ false → decimal word ≡ Err NoNumber
unfolding decimal
not_digits word h d =
    ap (λ b. or_why (cond b None (digits_from 0 word))) h ∙ no_number (digits_from 0 word) (digits_alone 0 word ∙ d)

pub is_value : (word : List ℕ) (v : Option ℕ) → is_badly_begun word ≡ false → list_all is_ascii_digit word ≡ true → v ≡ option_and_then within_word (digits_from 0 word)
    → IsValue (decimal word) v
unfolding decimal
is_value word v h d e =
    let s = value_of_some (digits_from 0 word) v (digits_alone 0 word ∙ d) e in
    rw h s

pub ruleset numbers = (badly_begun, not_digits, is_value)
