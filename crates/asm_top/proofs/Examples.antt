-- The forms of the commands, worked out by hand.
use Rattle.std.proofs.Common.{◌≡◌, List, [], ◌∷◌, ℕ, None, Some, codes, refl}
use Rattle.std.specs.Prelude.{if◌then◌else◌, option_map}
use Rattle.std.specs.Str.{bytes_eq}
use Rattle.command_shell.specs.Forms.{usage_text}
use Rattle.asm_top.specs.Commands.{base_of, bin, command_of, forms, hex, lines, text}

usage_told : usage_text forms ≡ codes "usage: hex SOURCE, lines SOURCE BASE, bin SOURCE FILE, text FILE, hex NAMES SOURCE, lines NAMES SOURCE BASE, bin NAMES SOURCE FILE"
usage_told = refl

hex_form : (source : List ℕ) → command_of (codes "hex" ∷ source ∷ []) ≡ Some (hex None source)
hex_form source = refl

hex_behind : (names source : List ℕ) → command_of (codes "hex" ∷ names ∷ source ∷ []) ≡ Some (hex (Some names) source)
hex_behind names source = refl

lines_form : (source base : List ℕ) → command_of (codes "lines" ∷ source ∷ base ∷ []) ≡ option_map (lines None source) (base_of base)
lines_form source base = refl

lines_behind : (names source base : List ℕ) → command_of (codes "lines" ∷ names ∷ source ∷ base ∷ []) ≡ option_map (lines (Some names) source) (base_of base)
lines_behind names source base = refl

bin_form : (source file : List ℕ) → command_of (codes "bin" ∷ source ∷ file ∷ []) ≡ (if bytes_eq source file then None else Some (bin None source file))
bin_form source file = refl

bin_behind : (names source file : List ℕ)
    → command_of (codes "bin" ∷ names ∷ source ∷ file ∷ []) ≡ (if bytes_eq names file then None else (if bytes_eq source file then None else Some (bin (Some names) source file)))
bin_behind names source file = refl

text_form : (file : List ℕ) → command_of (codes "text" ∷ file ∷ []) ≡ Some (text file)
text_form file = refl

-- other words

no_words : command_of [] ≡ None
no_words = refl

one_more : (file more : List ℕ) → command_of (codes "text" ∷ file ∷ more ∷ []) ≡ None
one_more file more = refl

another_word : (file : List ℕ) → command_of (codes "bins" ∷ file ∷ []) ≡ None
another_word file = refl
