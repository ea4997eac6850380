-- The instructions of the guests: this project's own table.
use Rattle.std.specs.Prelude.{◌≡◌, ℕ, ℤ, pos, ◌+◌, ◌-◌, ◌*◌, ◌/◌, ◌%◌, ◌^◌, ◌<◌, ◌==◌, ◌&&◌, ◌||◌, Bool, true, false, not, List, [], ◌∷◌, codes, map, slice_get, slice_index, slice_set, nat_le, nat_lt, bit_and, bit_or, bit_xor, Option, Some, None, option_and_then, option_map, if◌then◌else◌}
use Rattle.std.specs.Int.{w32, w64, from_le_bytes, to_le_bytes, cast_signed, cast_unsigned}
use Rattle.std.specs.List.{find}
use Rattle.std.specs.Ordering.{int_eq}
use Rattle.std.specs.Str.{bytes_eq}
use Rattle.muen_num.specs.AccessSize.{bytes_of}
use Rattle.muen_num.specs.declared.access.AccessSize.{AccessSize}
use Rattle.muen_num.specs.declared.access.AccessSize.TheVariants.{One, Two, Four, Eight}
use Rattle.state_page.specs.declared.state.SubjectState.{SubjectState}
use Rattle.guest_isa.specs.contracts.opcode.OpcodePartialEq.TheImpl.{eq-value as same_opcode}
use Rattle.guest_isa.specs.declared.opcode.Named.{Named}
use Rattle.guest_isa.specs.declared.opcode.Opcode.{Opcode}
use Rattle.guest_isa.specs.declared.opcode.Opcode.TheVariants.{Nop, Li, Lih, Mov, Add, Sub, And, Or, Xor, Shl, Shr, Load, Store, Jmp, Jz, Jnz, Jb, In, Out, Rdmsr, Wrmsr, Rdtsc, Vmcall, Hlt, Sti, Cli, Setv, Reti}
use Rattle.guest_isa.specs.declared.opcode.Row.{Row as CodeRow}
use Rattle.guest_isa.specs.declared.opcode.Shape.{Shape}
use Rattle.guest_isa.specs.declared.opcode.Shape.TheVariants.{Alone, Immediate, High, Pair, Memory, PortRead, PortWrite, Destination, Source, Jump, JumpIf, JumpBelow}
use Rattle.guest_isa.specs.declared.spelling.Fields.{Fields}
use Rattle.guest_isa.specs.declared.instr.Instr.{Instr}
use Rattle.guest_isa.specs.declared.instr.Wish.{Wish}
use Rattle.guest_isa.specs.declared.instr.Wish.TheVariants.{Nothing, Set as Sets, Load as Loads, Store as Stores, PortIn, PortOut, ReadMsr, WriteMsr, Tick, Call, Halt as Halts}
use Rattle.guest_isa.specs.declared.instr.Asked.{Asked}

-- ---- the table

-- a row: its number, what it does, its word in a source, and which fields its instructions have
pub record Row : Type 0 where
  pub number : ℕ
  pub opcode : Opcode
  pub word : List ℕ
  pub shape : Shape

abbrev pub row : ℕ → Opcode → List ℕ → Shape → Row
row number opcode word shape = record { number = number; opcode = opcode; word = word; shape = shape }

-- every instruction, by number (in the code hexadecimal, from 00 to 1B)
abbrev pub table : List Row
table =
    row 0 Nop (codes "NOP") Alone
    ∷ row 1 Li (codes "LI") Immediate
    ∷ row 2 Lih (codes "LIH") High
    ∷ row 3 Mov (codes "MOV") Pair
    ∷ row 4 Add (codes "ADD") Pair
    ∷ row 5 Sub (codes "SUB") Pair
    ∷ row 6 And (codes "AND") Pair
    ∷ row 7 Or (codes "OR") Pair
    ∷ row 8 Xor (codes "XOR") Pair
    ∷ row 9 Shl (codes "SHL") Pair
    ∷ row 10 Shr (codes "SHR") Pair
    ∷ row 11 Load (codes "LOAD") Memory
    ∷ row 12 Store (codes "STORE") Memory
    ∷ row 13 Jmp (codes "JMP") Jump
    ∷ row 14 Jz (codes "JZ") JumpIf
    ∷ row 15 Jnz (codes "JNZ") JumpIf
    ∷ row 16 Jb (codes "JB") JumpBelow
    ∷ row 17 In (codes "IN") PortRead
    ∷ row 18 Out (codes "OUT") PortWrite
    ∷ row 19 Rdmsr (codes "RDMSR") Pair
    ∷ row 20 Wrmsr (codes "WRMSR") Pair
    ∷ row 21 Rdtsc (codes "RDTSC") Destination
    ∷ row 22 Vmcall (codes "VMCALL") Source
    ∷ row 23 Hlt (codes "HLT") Alone
    ∷ row 24 Sti (codes "STI") Alone
    ∷ row 25 Cli (codes "CLI") Alone
    ∷ row 26 Setv (codes "SETV") Source
    ∷ row 27 Reti (codes "RETI") Alone
    ∷ []

-- a row of the code's own table
abbrev pub row_shown : CodeRow → Row
row_shown r = row r.number r.opcode r.word.now r.shape

-- rows of the code that are the table
abbrev pub AreRows : List CodeRow → Type 0
AreRows rows = map row_shown rows ≡ table

-- the row of an opcode among rows; without one, nothing
abbrev pub row_among : List Row → Opcode → Row
row_among [] o = row 0 o [] Alone
row_among (r ∷ rs) o = if same_opcode.it r.opcode o then r else row_among rs o

unfoldable pub row_of : Opcode → Row
row_of o = row_among table o

abbrev pub number_of : Opcode → ℕ
number_of o = (row_of o).number

abbrev pub word_of : Opcode → List ℕ
word_of o = (row_of o).word

abbrev pub shape_of : Opcode → Shape
shape_of o = (row_of o).shape

-- the opcode of a number
abbrev pub opcode_at : ℕ → Option Opcode
opcode_at number = option_map (λ r. r.opcode) (slice_get table number)

-- the opcode that a word is
abbrev pub opcode_with : List ℕ → Option Opcode
opcode_with word = option_map (λ r. r.opcode) (find (λ r. bytes_eq r.word word) table)

-- ---- fields

-- which fields a shape names: rd, rs, an immediate; and of how many bytes an access is at most, where there is none of one
abbrev pub names : Bool → Bool → Bool → ℕ → Named
names rd rs imm most = record { rd = rd; rs = rs; imm = imm; most = most }

abbrev pub named : Shape → Named
named Alone = names false false false 1
named Immediate = names true false true 1
named High = names true false true 1
named Pair = names true true false 1
named Memory = names true true true 8
named PortRead = names true true true 4
named PortWrite = names true true true 4
named Destination = names true false false 1
named Source = names false true false 1
named Jump = names false false true 1
named JumpIf = names true false true 1
named JumpBelow = names true true true 1

abbrev pub named_by : Opcode → Named
named_by o = named (shape_of o)

abbrev pub instr : Opcode → ℕ → ℕ → AccessSize → ℤ → Instr
instr opcode rd rs size imm = record { opcode = opcode; rd = rd; rs = rs; size = size; imm = imm }

-- every field that its row doesn't name is 0, and an access is of no more bytes
abbrev pub is_in_row : Instr → Bool
is_in_row i =
    ((named_by i.opcode).rd || (i.rd == 0)) && ((named_by i.opcode).rs || (i.rs == 0)) && ((named_by i.opcode).imm || int_eq i.imm (pos 0)) && nat_le (bytes_of i.size) (named_by i.opcode).most

-- what a caller can rely on: register numbers are below 16, and there is nothing that the row doesn't name
abbrev pub IsValid : Instr → Type 0
IsValid i = (i.rd < 16) × (i.rs < 16) × (is_in_row i ≡ true)

abbrev pub AreValid : Option Instr → Type 0
AreValid None = Unit {0}
AreValid (Some i) = IsValid i

-- the instruction with these fields, as far as they are named, or as its row names them; a size of more bytes is of one
abbrev pub instruction_named : Named → Opcode → ℕ → ℕ → AccessSize → ℤ → Instr
instruction_named n o rd rs size imm =
    instr o (if n.rd then rd else 0) (if n.rs then rs else 0) (if nat_le (bytes_of size) n.most then size else One) (if n.imm then imm else pos 0)

abbrev pub instruction_with : Opcode → ℕ → ℕ → AccessSize → ℤ → Instr
instruction_with o rd rs size imm = instruction_named (named_by o) o rd rs size imm

-- ---- the spelling

-- opcode; rd and rs, a nibble each; size code; zero; a little-endian immediate
abbrev pub fields_of : List ℕ → Fields
fields_of b = record {
  opcode = slice_index b 0;
  rd = slice_index b 1 / 16;
  rs = slice_index b 1 % 16;
  size = slice_index b 2;
  zero = slice_index b 3;
  imm = from_le_bytes w32 (slice_index b 4 ∷ slice_index b 5 ∷ slice_index b 6 ∷ slice_index b 7 ∷ []);
}

-- the size of an access, by its code
abbrev pub size_of : ℕ → Option AccessSize
size_of code =
    if code == 0 then Some One
    else (if code == 1 then Some Two
    else (if code == 2 then Some Four
    else (if code == 3 then Some Eight else None)))

-- the code of a size
abbrev pub code_of : AccessSize → ℕ
code_of One = 0
code_of Two = 1
code_of Four = 2
code_of Eight = 3

-- the instruction of this opcode and size
abbrev pub instruction_by : Fields → Opcode → AccessSize → Instr
instruction_by f o size = instr o f.rd f.rs size (cast_signed w32 f.imm)

-- .. where it has no field that its row doesn't name
abbrev pub in_row : Fields → Instr → Option Instr
in_row f i = if (f.zero == 0) && is_in_row i then Some i else None

abbrev pub instruction_of : Fields → Option Instr
instruction_of f =
    option_and_then (λ o. option_and_then (λ size. in_row f (instruction_by f o size)) (size_of f.size)) (opcode_at f.opcode)

-- the instruction that eight bytes spell, if they spell one
unfoldable pub decode_of : List ℕ → Option Instr
decode_of b = instruction_of (fields_of b)

-- the eight bytes of these fields
abbrev pub spelled : Fields → List ℕ
spelled f = f.opcode ∷ (f.rd * 16 + f.rs) ∷ f.size ∷ f.zero ∷ to_le_bytes w32 f.imm

-- the fields that spell an instruction
abbrev pub fields_for : Instr → Fields
fields_for i = record {
  opcode = number_of i.opcode;
  rd = i.rd;
  rs = i.rs;
  size = code_of i.size;
  zero = 0;
  imm = cast_unsigned w32 i.imm;
}

-- the eight bytes that spell an instruction
unfoldable pub encoding_of : Instr → List ℕ
encoding_of i = spelled (fields_for i)

-- these bytes are the spelling of the instruction, if there is one
abbrev pub AreSpelled : Option Instr → List ℕ → Type 0
AreSpelled None b = Unit {0}
AreSpelled (Some i) b = encoding_of i ≡ b

-- ---- wishes

-- at most four bytes
abbrev pub IsSmall : AccessSize → Type 0
IsSmall One = Unit {0}
IsSmall Two = Unit {0}
IsSmall Four = Unit {0}
IsSmall Eight = ⊥

-- a register to be loaded is below 16, and an access to a port is of at most four bytes
abbrev pub IsValidWish : Wish → Type 0
IsValidWish (Loads reg addr size) = reg < 16
IsValidWish (PortIn reg port size) = (reg < 16) × IsSmall size
IsValidWish (PortOut port size value) = IsSmall size
IsValidWish (ReadMsr reg index) = reg < 16
IsValidWish (Tick reg) = reg < 16
IsValidWish _ = Unit {0}

-- a wish that may end in an exit
abbrev pub CanExit : Wish → Type 0
CanExit Nothing = ⊥
CanExit (Sets reg value) = ⊥
CanExit (Tick reg) = ⊥
CanExit _ = Unit {0}

-- ---- the effect: exact numbers, reduced modulo 2^64

abbrev pub register : SubjectState → ℕ → ℕ
register s r = slice_index s.regs r

abbrev pub advanced : SubjectState → SubjectState
advanced s = record s { pc = (s.pc + 8) % 2 ^ 64 }

abbrev pub with_register : SubjectState → ℕ → ℕ → SubjectState
with_register s reg value = record s { regs = slice_set s.regs reg value }

-- an immediate, sign-extended, modulo 2^64
abbrev pub extended : ℤ → ℕ
extended imm = cast_unsigned w64 imm

-- the sum modulo 2^64 of a number and an immediate
abbrev pub offset_by : ℕ → ℤ → ℕ
offset_by n imm = (n + extended imm) % 2 ^ 64

-- the lowest bytes of a value, so many as an access has
abbrev pub low_bytes : AccessSize → ℕ → ℕ
low_bytes size value = value % 256 ^ bytes_of size

-- the port at the sum of a number and an immediate, modulo 65536
abbrev pub port_of : ℕ → ℤ → ℕ
port_of n imm = (n + extended imm) % 2 ^ 16

abbrev pub passed : SubjectState → Wish → Asked
passed s wish = record { after = advanced s; wish = wish }

abbrev pub set_register : SubjectState → ℕ → ℕ → Asked
set_register s reg value = record { after = advanced (with_register s reg value); wish = Sets reg value }

-- from the instruction's own address
abbrev pub jumped : SubjectState → ℤ → Asked
jumped s imm = record { after = record s { pc = offset_by s.pc imm }; wish = Nothing }

abbrev pub jumped_if : Bool → SubjectState → ℤ → Asked
jumped_if true s imm = jumped s imm
jumped_if false s imm = passed s Nothing

-- back from an event handler
abbrev pub resumed : SubjectState → Asked
resumed s = record { after = record s { pc = s.epc; interrupts = true }; wish = Nothing }

-- what an instruction of this opcode does: the state after it where its wish doesn't exit, and its wish
abbrev pub effect_by : Opcode → SubjectState → Instr → Asked
effect_by Nop s i = passed s Nothing
effect_by Li s i = set_register s i.rd (extended i.imm)
effect_by Lih s i = set_register s i.rd (register s i.rd % 2 ^ 32 + cast_unsigned w32 i.imm * 2 ^ 32)
effect_by Mov s i = set_register s i.rd (register s i.rs)
effect_by Add s i = set_register s i.rd ((register s i.rd + register s i.rs) % 2 ^ 64)
effect_by Sub s i = set_register s i.rd ((register s i.rd + 2 ^ 64 - register s i.rs) % 2 ^ 64)
effect_by And s i = set_register s i.rd (bit_and (register s i.rd) (register s i.rs))
effect_by Or s i = set_register s i.rd (bit_or (register s i.rd) (register s i.rs))
effect_by Xor s i = set_register s i.rd (bit_xor (register s i.rd) (register s i.rs))
effect_by Shl s i = set_register s i.rd ((register s i.rd * 2 ^ (register s i.rs % 64)) % 2 ^ 64)
effect_by Shr s i = set_register s i.rd (register s i.rd / 2 ^ (register s i.rs % 64))
effect_by Load s i = passed s (Loads i.rd (offset_by (register s i.rs) i.imm) i.size)
effect_by Store s i =
    passed s (Stores (offset_by (register s i.rs) i.imm) i.size (low_bytes i.size (register s i.rd)))
effect_by Jmp s i = jumped s i.imm
effect_by Jz s i = jumped_if (register s i.rd == 0) s i.imm
effect_by Jnz s i = jumped_if (not (register s i.rd == 0)) s i.imm
effect_by Jb s i = jumped_if (nat_lt (register s i.rd) (register s i.rs)) s i.imm
effect_by In s i = passed s (PortIn i.rd (port_of (register s i.rs) i.imm) i.size)
effect_by Out s i =
    passed s (PortOut (port_of (register s i.rs) i.imm) i.size (low_bytes i.size (register s i.rd)))
effect_by Rdmsr s i = passed s (ReadMsr i.rd (register s i.rs % 2 ^ 32))
effect_by Wrmsr s i = passed s (WriteMsr (register s i.rs % 2 ^ 32) (register s i.rd))
effect_by Rdtsc s i = passed s (Tick i.rd)
effect_by Vmcall s i = passed s (Call (register s i.rs))
effect_by Hlt s i = passed s Halts
effect_by Sti s i = passed (record s { interrupts = true }) Nothing
effect_by Cli s i = passed (record s { interrupts = false }) Nothing
effect_by Setv s i = passed (record s { vbase = register s i.rs }) Nothing
effect_by Reti s i = resumed s

abbrev pub effect_of : SubjectState → Instr → Asked
effect_of s i = effect_by i.opcode s i
