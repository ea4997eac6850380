-- The number of `load`, by the number below 2^64 that its word spells.
use Rattle.std.proofs.Common.{◌≡◌, ℕ, ◌^◌, ◌<◌, true, false, cond, List, Option, Some, None, Result, Ok, Err, option_and_then, nat_lt, refl, sym, ap, ◌∙◌, arith}
use Rattle.std.specs.Prelude.{OkIff}
use Rattle.std.specs.Result.{result_ok}
use Rattle.std.proofs.lemmas.Bool.{lt-ltb}
use Rattle.std.proofs.lemmas.Bool.Decides.{nat_tests}
use Rattle.text_words.specs.Numbers.{decimal, number_of, or_why}
use Rattle.text_words.specs.declared.number.NumberError.{NumberError}
use Rattle.text_words.specs.declared.number.NumberError.TheVariants.{TooLarge}
use Rattle.muen_top.specs.Commands.{for_load, load_number}

abbrev answered : Result ℕ NumberError → Option ℕ
answered (Ok n) = for_load n
answered (Err why) = None

too_large : (n : ℕ) → nat_lt n (2 ^ 64) ≡ false → for_load n ≡ None
too_large n h = grind (arith, nat_tests)

answered_is : (o : Option ℕ) → option_and_then for_load o ≡ answered (or_why o)
answered_is None = refl
answered_is (Some n) =
    elim (nat_lt n (2 ^ 64)) as (λ b. nat_lt n (2 ^ 64) ≡ b → for_load n ≡ answered (cond b (Ok n) (Err TooLarge))) [
      | true ↦ λ t. refl
      | false ↦ λ f. too_large n f
    ] refl

load_as : (word : List ℕ) (r : Result ℕ NumberError) → r ≡ decimal word → load_number word ≡ answered r
unfolding decimal
load_as word r h = answered_is (number_of word) ∙ ap answered (sym h)

pub no_load : (word : List ℕ) (why : NumberError) → Err why ≡ decimal word → None ≡ load_number word
no_load word why h = sym (load_as word (Err why) h)

from_ok : (r : Result ℕ NumberError) (n : ℕ) → Some n ≡ result_ok r → Ok n ≡ r
from_ok (Ok m) n h = let same : n ≡ m = cc in ap (λ k. Ok k) same
from_ok (Err why) n h = cc

narrowed : {E : Type 0} (n : ℕ) (t : Result ℕ E) → OkIff t (n < 2 ^ 16) n → result_ok t ≡ for_load n
narrowed n (Ok m) h = let less = lt-ltb n (2 ^ 16) h.0 in rw (h.1, less) refl
narrowed n (Err e) h = grind (arith, nat_tests)

pub loaded : {E : Type 0} (word : List ℕ) (n : ℕ) (t : Result ℕ E) → Some n ≡ result_ok (decimal word) → OkIff t (n < 2 ^ 16) n → result_ok t ≡ load_number word
loaded word n t h fits = narrowed n t fits ∙ sym (load_as word (Ok n) (from_ok (decimal word) n h))
