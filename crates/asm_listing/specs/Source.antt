-- A source of any bytes: of each eight the instruction that they spell, else data.
use Rattle.std.specs.Prelude.{ℕ, zero, suc, ◌==◌, ℤ, pos, negsuc, List, [], ◌∷◌, ◌++◌, length, codes, decimal, Option, Some, None, if◌then◌else◌}
use Rattle.std.specs.Fmt.{signed_decimal}
use Rattle.std.specs.List.{flat_map}
use Rattle.hex.specs.Hex.{encode_lower}
use Rattle.muen_num.specs.declared.access.AccessSize.{AccessSize}
use Rattle.muen_num.specs.declared.access.AccessSize.TheVariants.{One, Two, Four, Eight}
use Rattle.guest_isa.specs.GuestIsa.{decode_of, shape_of, word_of}
use Rattle.guest_isa.specs.declared.instr.Instr.{Instr}
use Rattle.asm_text.specs.Parts.{parts_of}
use Rattle.asm_text.specs.declared.part.Part.{Part}
use Rattle.asm_text.specs.declared.part.Part.TheVariants.{Rd, Rs, Imm, Displacement, Size, PortSize, Comma, At, To, Port}

-- ---- instructions

abbrev pub register_text : ℕ → List ℕ
register_text r = codes "r" ++ decimal r

abbrev pub size_text : AccessSize → List ℕ
size_text One = codes "1 byte"
size_text Two = codes "2 bytes"
size_text Four = codes "4 bytes"
size_text Eight = codes "8 bytes"

-- what is added to a register: nothing for 0
abbrev pub displacement_text : ℤ → List ℕ
displacement_text (pos zero) = []
displacement_text (pos (suc n)) = codes " + " ++ decimal (suc n)
displacement_text (negsuc n) = codes " - " ++ decimal (suc n)

-- a part of what stands behind a word
abbrev pub part_text : Instr → Part → List ℕ
part_text i Rd = codes " " ++ register_text i.rd
part_text i Rs = codes " " ++ register_text i.rs
part_text i Imm = codes " " ++ signed_decimal i.imm
part_text i Displacement = displacement_text i.imm
part_text i Size = codes " " ++ size_text i.size
part_text i PortSize = codes " " ++ size_text i.size
part_text i Comma = codes ","
part_text i At = codes " at"
part_text i To = codes " to"
part_text i Port = codes " port"

-- an instruction, as the table of guests prints it
unfoldable pub instruction_text : Instr → List ℕ
instruction_text i = word_of i.opcode ++ flat_map (part_text i) (parts_of (shape_of i.opcode))

-- ---- data

-- a byte in two digits
abbrev pub byte_text : ℕ → List ℕ
byte_text b = codes "0x" ++ encode_lower (b ∷ [])

-- bytes with commas between them
unfoldable pub data_text : List ℕ → List ℕ
data_text [] = []
data_text (b ∷ bs) = codes ".byte " ++ byte_text b ++ flat_map (λ b. codes ", " ++ byte_text b) bs

-- ---- lines

-- eight bytes each; the last may be fewer
unfoldable pub chunks_of : List ℕ → List (List ℕ)
chunks_of (a ∷ b ∷ c ∷ d ∷ e ∷ f ∷ g ∷ h ∷ more) = (a ∷ b ∷ c ∷ d ∷ e ∷ f ∷ g ∷ h ∷ []) ∷ chunks_of more
chunks_of [] = []
chunks_of fewer = fewer ∷ []

-- the instruction that a chunk spells, if it spells one
abbrev pub instruction_in : List ℕ → Option Instr
instruction_in chunk = if length chunk == 8 then decode_of chunk else None

abbrev pub text_by : List ℕ → Option Instr → List ℕ
text_by chunk (Some i) = instruction_text i
text_by chunk None = data_text chunk

abbrev pub chunk_text : List ℕ → List ℕ
chunk_text chunk = text_by chunk (instruction_in chunk)

-- **the source of bytes**: a line for each chunk
unfoldable pub source_of : List ℕ → List ℕ
source_of bytes = flat_map (λ chunk. chunk_text chunk ++ codes "\n") (chunks_of bytes)
