-- What a line's statement comes to, where each name is known.
use Rattle.std.specs.Prelude.{ℕ, ℤ, pos, negsuc, neg_ℤ, zero, suc, ◌+ℤ◌, ◌-ℤ◌, ◌+◌, ◌-◌, ◌*◌, ◌^◌, ◌&&◌, Bool, true, false, List, [], ◌∷◌, replicate, Option, Some, option_map, Result, Ok, int_le, int_lt}
use Rattle.std.specs.Int.{w8, w16, w32, w64, cast_signed, to_le_bytes}
use Rattle.std.specs.List.{flat_map}
use Rattle.muen_num.specs.AccessSize.{bytes_of}
use Rattle.muen_num.specs.declared.access.AccessSize.{AccessSize}
use Rattle.muen_num.specs.declared.access.AccessSize.TheVariants.{One, Two, Four, Eight}
use Rattle.guest_isa.specs.GuestIsa.{encoding_of, instruction_with, shape_of}
use Rattle.guest_isa.specs.declared.instr.Instr.{Instr}
use Rattle.guest_isa.specs.declared.opcode.Shape.{Shape}
use Rattle.guest_isa.specs.declared.opcode.Shape.TheVariants.{High, Jump, JumpIf, JumpBelow}
use Rattle.text_words.specs.Steps.{◌>>=◌}
use Rattle.text_words.specs.Parts.{lines_of}
use Rattle.asm_text.specs.Layout.{SymbolTable, meaning_of, layout_from, at_start, in_source_line}
use Rattle.asm_text.specs.Reading.{ok_or_wanted, wanted}
use Rattle.asm_text.specs.declared.fault.LineError.{LineError}
use Rattle.asm_text.specs.declared.fault.SourceFault.{SourceFault}
use Rattle.asm_text.specs.declared.fault.Want.{Want}
use Rattle.asm_text.specs.declared.fault.Want.TheVariants.{KnownName, Range, Near, Target}
use Rattle.asm_text.specs.declared.meaning.Sum.{Sum}
use Rattle.asm_text.specs.declared.statement.Atom.{Atom}
use Rattle.asm_text.specs.declared.statement.Atom.TheVariants.{Number as NumberAtom, Name as NameAtom}
use Rattle.asm_text.specs.declared.statement.Integer.{Integer}
use Rattle.asm_text.specs.declared.statement.Meaning.{Meaning}
use Rattle.asm_text.specs.declared.statement.Meaning.TheVariants.{Offset as OffsetMeaning, Number}
use Rattle.asm_text.specs.declared.statement.Operation.{Operation}
use Rattle.asm_text.specs.declared.statement.Placed.{Placed}
use Rattle.asm_text.specs.declared.statement.Statement.{Statement}
use Rattle.asm_text.specs.declared.statement.Statement.TheVariants.{Nothing, Definition, Offset, Data, Instruction}
use Rattle.asm_text.specs.declared.statement.Term.{Term}
use Rattle.asm_text.specs.declared.statement.Value.{Value}

-- ---- sums

abbrev pub signed : Bool → ℤ → ℤ
signed true z = neg_ℤ z
signed false z = z

abbrev pub integer_of : Integer → ℤ
integer_of i = signed i.minus (pos i.magnitude)

abbrev pub sum_of_meaning : Meaning → Sum
sum_of_meaning (OffsetMeaning offset) = record { number = pos offset; labels = pos 1 }
sum_of_meaning (Number number) = record { number = integer_of number; labels = pos 0 }

abbrev pub sum_of_atom : SymbolTable → Atom → Option Sum
sum_of_atom names (NumberAtom n) = Some (record { number = pos n; labels = pos 0 })
sum_of_atom names (NameAtom name) = option_map sum_of_meaning (meaning_of names name)

abbrev pub added_or_subtracted : Bool → Sum → Sum → Sum
added_or_subtracted minus a b = record { number = signed minus a.number +ℤ b.number; labels = signed minus a.labels +ℤ b.labels }

unfoldable pub sum_of : SymbolTable → List Term → Result Sum LineError
sum_of names [] = Ok (record { number = pos 0; labels = pos 0 })
sum_of names (term ∷ terms) = do
  first ← ok_or_wanted term.left KnownName (sum_of_atom names term.atom)
  others ← sum_of names terms
  Ok (added_or_subtracted term.minus first others)

-- ---- numbers in so many bits

abbrev pub is_within : ℤ → ℤ → ℤ → Bool
is_within low end z = int_le low z && int_lt z end

-- signed
abbrev pub fits_signed : ℕ → ℤ → Bool
fits_signed bits z = is_within (neg_ℤ (pos (2 ^ (bits - 1)))) (pos (2 ^ (bits - 1))) z

-- signed or unsigned
abbrev pub fits_in_bits : ℕ → ℤ → Bool
fits_in_bits bits z = is_within (neg_ℤ (pos (2 ^ (bits - 1)))) (pos (2 ^ bits)) z

-- a number that fits, modulo 2^bits
abbrev pub residue : ℕ → ℤ → ℕ
residue bits (pos n) = n
residue bits (negsuc n) = 2 ^ bits - (n + 1)

-- ---- instructions

-- from an instruction to a label where one remains, as it is said where none does
abbrev pub distance_by : ℤ → ℕ → ℕ → ℤ → Result ℤ LineError
distance_by (pos zero) here left n = Ok n
distance_by (pos (suc zero)) here left n = Ok (n -ℤ pos here)
distance_by (pos (suc (suc labels))) here left n = wanted left Target
distance_by (negsuc labels) here left n = wanted left Target

abbrev pub if_fits : {X : Type 0} → Bool → ℕ → Want → X → Result X LineError
if_fits true left want x = Ok x
if_fits false left want x = wanted left want

-- a jump has its distance for an immediate
abbrev pub jump_by : ℕ → ℕ → Sum → Result ℤ LineError
jump_by here left s = do
  d ← distance_by s.labels here left s.number
  if_fits (fits_signed 32 d) left Near d

-- the immediate of an instruction of this shape that begins here
abbrev pub immediate_by : Shape → ℕ → ℕ → Sum → Result ℤ LineError
immediate_by High here left s = if_fits (fits_in_bits 32 s.number) left Range (cast_signed w32 (residue 32 s.number))
immediate_by Jump here left s = jump_by here left s
immediate_by JumpIf here left s = jump_by here left s
immediate_by JumpBelow here left s = jump_by here left s
immediate_by _ here left s = if_fits (fits_signed 32 s.number) left Range s.number

unfoldable pub immediate_of : SymbolTable → ℕ → Operation → Result ℤ LineError
immediate_of names here o = do
  s ← sum_of names o.operands.value.terms
  immediate_by (shape_of o.opcode) here o.operands.value.left s

abbrev pub instruction_of : Operation → ℤ → Instr
instruction_of o imm = instruction_with o.opcode o.operands.rd o.operands.rs o.operands.size imm

-- ---- data

abbrev pub size_bits : AccessSize → ℕ
size_bits size = 8 * bytes_of size

abbrev pub number_of : SymbolTable → AccessSize → Value → Result ℕ LineError
number_of names size v = do
  s ← sum_of names v.terms
  if_fits (fits_in_bits (size_bits size) s.number) v.left Range (residue (size_bits size) s.number)

unfoldable pub numbers_of : SymbolTable → AccessSize → List Value → Result (List ℕ) LineError
numbers_of names size [] = Ok []
numbers_of names size (v ∷ vs) = do
  n ← number_of names size v
  ns ← numbers_of names size vs
  Ok (n ∷ ns)

-- lowest byte first
abbrev pub little_endian : AccessSize → ℕ → List ℕ
little_endian One n = to_le_bytes w8 n
little_endian Two n = to_le_bytes w16 n
little_endian Four n = to_le_bytes w32 n
little_endian Eight n = to_le_bytes w64 n

-- ---- what a source says

pub data SourceItem : Type 0 where
  instruction : Instr → SourceItem
  -- numbers of this size
  data_of : AccessSize → List ℕ → SourceItem
  zeros : ℕ → SourceItem

abbrev pub assembled_item_of : SymbolTable → ℕ → Statement → Result SourceItem LineError
assembled_item_of names here Nothing = Ok (zeros 0)
assembled_item_of names here (Definition left name number) = Ok (zeros 0)
assembled_item_of names here (Offset left offset) = Ok (zeros (offset - here))
assembled_item_of names here (Data left size values) = do
  ns ← numbers_of names size values
  Ok (data_of size ns)
assembled_item_of names here (Instruction o) = do
  imm ← immediate_of names here o
  Ok (instruction (instruction_of o imm))

unfoldable pub items_of : SymbolTable → List Placed → Result (List SourceItem) SourceFault
items_of names [] = Ok []
items_of names (line ∷ lines) = do
  item ← in_source_line line.number line.end (assembled_item_of names line.here line.statement)
  items ← items_of names lines
  Ok (item ∷ items)

-- the instructions, data and zeros of a text, in order; or its first fault: first of the lines as they are, then of
-- what names stand for
unfoldable pub source_items : List ℕ → Result (List SourceItem) SourceFault
source_items text = do
  layout ← layout_from at_start 1 (lines_of text)
  items_of layout.names layout.lines

abbrev pub bytes_of_item : SourceItem → List ℕ
bytes_of_item (instruction i) = encoding_of i
bytes_of_item (data_of size ns) = flat_map (little_endian size) ns
bytes_of_item (zeros n) = replicate n 0

abbrev pub bytes_of_items : List SourceItem → List ℕ
bytes_of_items items = flat_map bytes_of_item items

-- the bytes of a text
abbrev pub assembled : List ℕ → Result (List ℕ) SourceFault
assembled text = do
  items ← source_items text
  Ok (bytes_of_items items)
