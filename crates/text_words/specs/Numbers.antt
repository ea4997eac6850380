-- The number that a word spells in decimal digits.
use Rattle.std.specs.Prelude.{ℕ, ◌+◌, ◌-◌, ◌*◌, ◌^◌, ◌==◌, ◌&&◌, ◌||◌, Bool, nat_lt, List, [], ◌∷◌, length, slice_index, Option, Some, None, Result, Ok, Err, if◌then◌else◌}
use Rattle.std.specs.Char.{is_ascii_digit}
use Rattle.text_words.specs.declared.number.NumberError.{NumberError}
use Rattle.text_words.specs.declared.number.NumberError.TheVariants.{NoNumber, TooLarge}

-- the number that digits spell, with n before them
abbrev pub digits_from : ℕ → List ℕ → Option ℕ
digits_from n [] = Some n
digits_from n (c ∷ cs) = if is_ascii_digit c then digits_from (10 * n + (c - 48)) cs else None

-- no digit, or a leading zero
abbrev pub is_badly_begun : List ℕ → Bool
is_badly_begun word = (length word == 0) || (nat_lt 1 (length word) && (slice_index word 0 == 48))

-- a number in decimal digits, without leading zeros
abbrev pub number_of : List ℕ → Option ℕ
number_of word = if is_badly_begun word then None else digits_from 0 word

-- ---- below 2^64

abbrev pub within_word : ℕ → Option ℕ
within_word n = if nat_lt n (2 ^ 64) then Some n else None

-- such a number below 2^64, or why there is none
abbrev pub or_why : Option ℕ → Result ℕ NumberError
or_why None = Err NoNumber
or_why (Some n) = if nat_lt n (2 ^ 64) then Ok n else Err TooLarge

-- the number below 2^64 that a word spells, or why it spells none
unfoldable pub decimal : List ℕ → Result ℕ NumberError
decimal word = or_why (number_of word)
