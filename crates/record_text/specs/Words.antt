-- The words of a line, and what a word spells.
use Rattle.std.specs.Prelude.{ℕ, ◌+◌, ◌*◌, ◌&&◌, nat_le, nat_lt, List, length, Option, Some, None, Result, Ok, Err, if◌then◌else◌}
use Rattle.hex.specs.Hex.{decode_of}
use Rattle.hex.specs.declared.error.FromHexError.{FromHexError}
use Rattle.muen_num.specs.declared.limits.TheConstants.{MOST_TICKS}
use Rattle.text_words.specs.Numbers.{number_of}
use Rattle.text_words.specs.Parts.{parts_of}
use Rattle.record_text.specs.declared.fault.LineWant.{LineWant}
use Rattle.record_text.specs.declared.fault.LineWant.TheVariants.{Number, Range, Hex}
use Rattle.record_text.specs.declared.record.TheConstants.{INPUT_MOST}

-- the words of a line: each single blank parts two
unfoldable pub words_of : List ℕ → List (List ℕ)
words_of line = parts_of 32 line

-- ---- numbers

abbrev pub below : ℕ → Option ℕ → Result ℕ LineWant
below end None = Err Number
below end (Some n) = if nat_lt n end then Ok n else Err Range

-- a number less than this
unfoldable pub number_below : ℕ → List ℕ → Result ℕ LineWant
number_below end word = below end (number_of word)

-- the number of a tick
unfoldable pub tick_of : List ℕ → Result ℕ LineWant
tick_of word = number_below (MOST_TICKS + 1) word

-- ---- bytes

abbrev pub or_hex : Result (List ℕ) FromHexError → Result (List ℕ) LineWant
or_hex (Ok bytes) = Ok bytes
or_hex (Err e) = Err Hex

-- two hexadecimal digits a byte, of either case, for 1 to 64 bytes
unfoldable pub hex_bytes : List ℕ → Result (List ℕ) LineWant
hex_bytes word =
    if nat_le 2 (length word) && nat_le (length word) (2 * INPUT_MOST) then or_hex (decode_of word) else Err Hex
