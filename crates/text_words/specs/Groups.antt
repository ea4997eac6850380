-- Numbers in groups of hexadecimal digits, such as 00ff_ff00.
use Rattle.std.specs.Prelude.{ℕ, ◌+◌, ◌-◌, ◌*◌, ◌^◌, ◌==◌, ◌&&◌, List, length, take, drop, codes, Bool, Option, Some, None, option_and_then, fold, nat_lt, if◌then◌else◌}
use Rattle.std.specs.Char.{is_digit, digit_value}
use Rattle.std.specs.List.{concat, list_all, slice_split}
use Rattle.std.specs.Str.{bytes_eq}

abbrev pub underscore : ℕ
underscore = 95

-- the parts between underscores
abbrev pub groups_of : List ℕ → List (List ℕ)
groups_of digits = slice_split (λ c. c == underscore) digits

-- one or more hexadecimal digits, of either case
abbrev pub is_digit_group : List ℕ → Bool
is_digit_group group = nat_lt 0 (length group) && list_all (λ c. is_digit c 16) group

-- n with the digit c behind it
abbrev pub with_digit : ℕ → ℕ → ℕ
with_digit n c = n * 16 + digit_value c

-- what digits are worth in base 16
abbrev pub hexadecimal_value_of : List ℕ → ℕ
hexadecimal_value_of digits = fold with_digit 0 digits

-- the value of groups of digits, where each group has a digit and the value is below 2^64
abbrev pub number_of_groups : List (List ℕ) → Option ℕ
number_of_groups groups =
    if list_all is_digit_group groups && nat_lt (hexadecimal_value_of (concat groups)) (2 ^ 64) then Some (hexadecimal_value_of (concat groups)) else None

-- ---- as policies spell them

-- what stands behind `16#`, where a text begins so
abbrev pub behind_mark : List ℕ → Option (List ℕ)
behind_mark text = if bytes_eq (take 3 text) (codes "16#") then Some (drop 3 text) else None

-- what stands before `#`, where a text ends so
abbrev pub before_mark : List ℕ → Option (List ℕ)
before_mark text = if bytes_eq (drop (length text - 1) text) (codes "#") then Some (take (length text - 1) text) else None

-- `16#`, groups of hexadecimal digits with single underscores between them, and `#`; the number is below 2^64
abbrev pub based : List ℕ → Option ℕ
based text = option_and_then (λ middle. number_of_groups (groups_of middle)) (option_and_then before_mark (behind_mark text))
