-- The commands of the assembler (this project's own).
use Rattle.std.specs.Prelude.{ℕ, List, [], ◌∷◌, Option, Some, None, option_and_then, option_map, codes, nat_lt, if◌then◌else◌}
use Rattle.std.specs.Borrow.{Bor}
use Rattle.std.specs.Str.{bytes_eq}
use Rattle.command_shell.specs.Forms.{Row, command_in, row}
use Rattle.muen_num.specs.declared.limits.TheConstants.{GUEST_END}
use Rattle.asm_text.specs.Words.{number_in}
use Rattle.asm_top.specs.declared.command.Kind.{Kind}
use Rattle.asm_top.specs.declared.command.Kind.TheVariants.{Hex, Lines, Bin, Text}

pub data Command : Type 0 where
  -- a source, by the name of its file, and a file of names before it, if one is named: its bytes are printed in hexadecimal digits
  hex : Option (List ℕ) → List ℕ → Command
  -- the same, as a listing with addresses from this one on
  lines : Option (List ℕ) → List ℕ → ℕ → Command
  -- the same, and a file under whose name its bytes are written
  bin : Option (List ℕ) → List ℕ → List ℕ → Command
  -- a file, of whose bytes a source is printed
  text : List ℕ → Command

-- ---- the forms

abbrev pub forms : List (Row Kind)
forms =
    row (codes "hex") (codes "SOURCE" ∷ []) Hex
    ∷ row (codes "lines") (codes "SOURCE" ∷ codes "BASE" ∷ []) Lines
    ∷ row (codes "bin") (codes "SOURCE" ∷ codes "FILE" ∷ []) Bin
    ∷ row (codes "text") (codes "FILE" ∷ []) Text
    ∷ row (codes "hex") (codes "NAMES" ∷ codes "SOURCE" ∷ []) Hex
    ∷ row (codes "lines") (codes "NAMES" ∷ codes "SOURCE" ∷ codes "BASE" ∷ []) Lines
    ∷ row (codes "bin") (codes "NAMES" ∷ codes "SOURCE" ∷ codes "FILE" ∷ []) Bin
    ∷ []

-- ---- the command of each form

-- the name of a file of names, if one is given
abbrev pub name_given : Option (Bor (List ℕ)) → Option (List ℕ)
name_given names = option_map (λ name. name.now) names

-- an address below the end of guest addresses
abbrev pub base_of : List ℕ → Option ℕ
base_of word = option_and_then (λ n. if nat_lt n GUEST_END then Some n else None) (number_in word)

abbrev pub hex_of : List (List ℕ) → Option Command
hex_of (source ∷ []) = Some (hex None source)
hex_of (names ∷ source ∷ []) = Some (hex (Some names) source)
hex_of _ = None

abbrev pub lines_of : List (List ℕ) → Option Command
lines_of (source ∷ base ∷ []) = option_map (lines None source) (base_of base)
lines_of (names ∷ source ∷ base ∷ []) = option_map (lines (Some names) source) (base_of base)
lines_of _ = None

-- the file that is written is none that is read
abbrev pub bin_of : List (List ℕ) → Option Command
bin_of (source ∷ file ∷ []) = if bytes_eq source file then None else Some (bin None source file)
bin_of (names ∷ source ∷ file ∷ []) =
    if bytes_eq names file then None else (if bytes_eq source file then None else Some (bin (Some names) source file))
bin_of _ = None

abbrev pub text_of : List (List ℕ) → Option Command
text_of (file ∷ []) = Some (text file)
text_of _ = None

abbrev pub command_at : Kind → List (List ℕ) → Option Command
command_at Hex arguments = hex_of arguments
command_at Lines arguments = lines_of arguments
command_at Bin arguments = bin_of arguments
command_at Text arguments = text_of arguments

-- the command that the words after the program's name ask for; none where they have no command's form
abbrev pub command_of : List (List ℕ) → Option Command
command_of words = option_and_then (λ found. command_at found.0 found.1) (command_in forms words)
