-- Numbers that a word spells, below an end.
use Rattle.std.proofs.Common.{◌≡◌, ℕ, ◌^◌, ◌<◌, ◌≤◌, true, false, cond, List, Option, Some, None, Result, Ok, Err, nat_lt, refl, sym, ap, ◌∙◌, arith}
use Rattle.std.specs.Prelude.{if◌then◌else◌}
use Rattle.std.proofs.lemmas.Bool.{lt-ltb, le-ltb}
use Rattle.std.proofs.lemmas.Bool.Decides.{nat_tests}
use Rattle.text_words.specs.Numbers.{decimal, number_of, or_why}
use Rattle.text_words.specs.declared.number.NumberError.{NumberError}
use Rattle.text_words.specs.declared.number.NumberError.TheVariants.{TooLarge}
use Rattle.record_text.specs.Saying.{number_error, with_line_error}
use Rattle.record_text.specs.Words.{below, number_below}
use Rattle.record_text.specs.declared.fault.LineWant.TheVariants.{Range}
use Rattle.record_text.specs.declared.number.LineError.{LineError}
use Rattle.record_text.specs.declared.number.LineError.TheVariants.{Want}

-- what a line says of a word, by the number below 2^64 that it spells
abbrev answered : ℕ → Result ℕ NumberError → Result ℕ LineError
answered end (Ok n) = if nat_lt n end then Ok n else Err (Want Range)
answered end (Err why) = Err (number_error why)

above_all : (end n : ℕ) → end ≤ 2 ^ 64 → nat_lt n (2 ^ 64) ≡ false → nat_lt n end ≡ false
above_all end n h e = grind (arith, nat_tests)

below_is : (end : ℕ) (o : Option ℕ) → end ≤ 2 ^ 64 → with_line_error (below end o) ≡ answered end (or_why o)
below_is end None h = refl
below_is end (Some n) h =
    elim (nat_lt n (2 ^ 64)) as (λ b. nat_lt n (2 ^ 64) ≡ b → with_line_error (below end (Some n)) ≡ answered end (cond b (Ok n) (Err TooLarge))) [
      | true ↦ λ t. elim (nat_lt n end) as (λ b. with_line_error (cond b (Ok n) (Err Range)) ≡ cond b (Ok n) (Err (Want Range))) [ true ↦ refl | false ↦ refl ]
      | false ↦ λ f. ap (λ b. with_line_error (cond b (Ok n) (Err Range))) (above_all end n h f)
    ] refl

below_as : (end : ℕ) (word : List ℕ) (r : Result ℕ NumberError) → end ≤ 2 ^ 64 → r ≡ decimal word → answered end r ≡ with_line_error (number_below end word)
unfolding number_below decimal
below_as end word r h e = ap (answered end) e ∙ sym (below_is end (number_of word) h)

pub number_is : (end : ℕ) (word : List ℕ) (n : ℕ) → end ≤ 2 ^ 64 → Ok n ≡ decimal word → n < end → Ok n ≡ with_line_error (number_below end word)
number_is end word n h e less = sym (ap (λ b. if b then Ok n else Err (Want Range)) (lt-ltb n end less)) ∙ below_as end word (Ok n) h e

pub range_is : (end : ℕ) (word : List ℕ) (n : ℕ) → end ≤ 2 ^ 64 → Ok n ≡ decimal word → end ≤ n → Err (Want Range) ≡ with_line_error (number_below end word)
range_is end word n h e above = sym (ap (λ b. if b then Ok n else Err (Want Range)) (le-ltb n end above)) ∙ below_as end word (Ok n) h e

pub refused_is : (end : ℕ) (word : List ℕ) (why : NumberError) → end ≤ 2 ^ 64 → Err why ≡ decimal word → Err (number_error why) ≡ with_line_error (number_below end word)
refused_is end word why h e = below_as end word (Err why) h e

pub ruleset numbers = (number_is, refused_is)
