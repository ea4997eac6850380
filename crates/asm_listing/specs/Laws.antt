-- What a source of bytes says: the bytes, and of the bytes of another source that one's instructions.
use Rattle.std.specs.Prelude.{◌≡◌, ℕ, ◌+◌, ◌<◌, ◌≤◌, List, [], ◌∷◌, ◌++◌, length, Ok}
use Rattle.std.specs.List.{All, Contains}
use Rattle.guest_isa.specs.declared.instr.Instr.{Instr}
use Rattle.muen_num.specs.declared.limits.TheConstants.{COMPONENT_FILE_MOST}
use Rattle.asm_text.specs.Meaning.{SourceItem, instruction, data_of, zeros, assembled, bytes_of_item, bytes_of_items, source_items}
use Rattle.asm_listing.specs.Source.{source_of}

-- so many bytes as a source can say, each below 256
pub record AreBytes (bytes : List ℕ) : Type 0 where
  pub many : length bytes ≤ COMPONENT_FILE_MOST
  pub each : All (λ b. b < 256) bytes

-- **assembling what is printed of bytes gives them back**
abbrev pub SourcesAssemble : Type 0
SourcesAssemble = (bytes : List ℕ) → AreBytes bytes → assembled (source_of bytes) ≡ Ok bytes

-- the instruction of an item at this offset
abbrev pub instruction_at : ℕ → SourceItem → List (ℕ × Instr)
instruction_at offset (instruction i) = (offset, i) ∷ []
instruction_at offset (data_of size numbers) = []
instruction_at offset (zeros n) = []

-- the instructions among items, each with its offset; the first item has this one
unfoldable pub instructions_from : ℕ → List SourceItem → List (ℕ × Instr)
instructions_from offset [] = []
instructions_from offset (item ∷ items) =
    instruction_at offset item ++ instructions_from (offset + length (bytes_of_item item)) items

abbrev pub instructions_of : List SourceItem → List (ℕ × Instr)
instructions_of items = instructions_from 0 items

-- what is printed of the bytes of these items says their instructions, each at its offset
pub record SaysAgain (items : List SourceItem) : Type 0 where
  pub printed : List SourceItem
  pub says : source_items (source_of (bytes_of_items items)) ≡ Ok printed
  pub again : All (λ x. Contains (instructions_of printed) x) (instructions_of items)

-- **what is printed of the bytes of a source says the instructions that the source says**
abbrev pub SourcesSayAgain : Type 0
SourcesSayAgain = (text : List ℕ) (items : List SourceItem) → source_items text ≡ Ok items → SaysAgain items
