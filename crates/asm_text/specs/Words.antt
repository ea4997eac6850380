-- What a word spells.
use Rattle.std.specs.Prelude.{ℕ, ◌==◌, ◌||◌, nat_lt, List, take, drop, length, codes, slice_index, Option, Some, None, option_and_then, if◌then◌else◌}
use Rattle.std.specs.Char.{is_ascii_alphabetic}
use Rattle.std.specs.Option.{option_or}
use Rattle.std.specs.Result.{result_ok}
use Rattle.std.specs.Str.{bytes_eq}
use Rattle.muen_num.specs.Naming.{name_of}
use Rattle.muen_num.specs.declared.access.AccessSize.{AccessSize}
use Rattle.muen_num.specs.declared.access.AccessSize.TheVariants.{One, Two, Four, Eight}
use Rattle.text_words.specs.Numbers.{decimal}
use Rattle.text_words.specs.Groups.{based, groups_of, number_of_groups}

-- what stands behind a beginning, where a word has it
abbrev pub behind : List ℕ → List ℕ → Option (List ℕ)
behind beginning word = if bytes_eq (take (length beginning) word) beginning then Some (drop (length beginning) word) else None

abbrev pub if_below : ℕ → ℕ → Option ℕ
if_below end n = if nat_lt n end then Some n else None

-- `r0` to `r15`
abbrev pub register_of : List ℕ → Option ℕ
register_of word = option_and_then (if_below 16) (option_and_then (λ digits. result_ok (decimal digits)) (behind (codes "r") word))

abbrev pub by_mark : Option (List ℕ) → Option ℕ → Option ℕ
by_mark (Some digits) other = number_of_groups (groups_of digits)
by_mark None other = other

-- a number below 2^64: decimal without a leading zero, `0x3f_fef0` or `16#3f_fef0#`
abbrev pub number_in : List ℕ → Option ℕ
number_in word = by_mark (behind (codes "0x") word) (option_or (based word) (result_ok (decimal word)))

-- a letter or `_` at the head, and a name's bytes and length
abbrev pub symbol_of : List ℕ → Option (List ℕ)
symbol_of word =
    if is_ascii_alphabetic (slice_index word 0) || (slice_index word 0 == 95) then name_of word else None

-- data of 1, 2, 4 or 8 bytes
abbrev pub data_size_of : List ℕ → Option AccessSize
data_size_of word =
    if bytes_eq word (codes ".byte") then Some One
    else if bytes_eq word (codes ".u16") then Some Two
    else if bytes_eq word (codes ".u32") then Some Four
    else if bytes_eq word (codes ".u64") then Some Eight
    else None

-- the number before `byte` or `bytes`
abbrev pub size_of : List ℕ → Option AccessSize
size_of word =
    if bytes_eq word (codes "1") then Some One
    else if bytes_eq word (codes "2") then Some Two
    else if bytes_eq word (codes "4") then Some Four
    else if bytes_eq word (codes "8") then Some Eight
    else None

-- `byte` behind 1, else `bytes`
abbrev pub size_unit : AccessSize → List ℕ
size_unit One = codes "byte"
size_unit size = codes "bytes"
