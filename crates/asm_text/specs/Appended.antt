-- Lines that can be made to bytes, and what a line appends.
use Rattle.std.specs.Prelude.{◌≡◌, ℕ, ℤ, ◌+◌, ◌*◌, ◌≤◌, ◌%◌, List, [], ◌∷◌, ◌++◌, length, Result, Ok, Err}
use Rattle.std.specs.List.{flat_map}
use Rattle.guest_isa.specs.GuestIsa.{IsValid}
use Rattle.muen_num.specs.AccessSize.{bytes_of}
use Rattle.muen_num.specs.declared.access.AccessSize.{AccessSize}
use Rattle.muen_num.specs.declared.limits.TheConstants.{COMPONENT_FILE_MOST}
use Rattle.asm_text.specs.Meaning.{SourceItem, bytes_of_item, instruction_of, little_endian}
use Rattle.asm_text.specs.declared.fault.LineError.{LineError}
use Rattle.asm_text.specs.declared.statement.Operation.{Operation}
use Rattle.asm_text.specs.declared.statement.Placed.{Placed}
use Rattle.asm_text.specs.declared.statement.Statement.{Statement}
use Rattle.asm_text.specs.declared.statement.Statement.TheVariants.{Nothing, Definition, Offset, Data, Instruction}

-- with any immediate it is an instruction
abbrev pub IsFit : Operation → Type 0
IsFit o = (imm : ℤ) → IsValid (instruction_of o imm)

-- what begins here can be made to bytes
abbrev pub IsFitAt : ℕ → Statement → Type 0
IsFitAt here Nothing = Unit {0}
IsFitAt here (Definition left name number) = Unit {0}
IsFitAt here (Offset left offset) = (here ≤ offset) × (offset ≤ COMPONENT_FILE_MOST)
IsFitAt here (Data left size values) = Unit {0}
IsFitAt here (Instruction o) = (here % 8 ≡ 0) × IsFit o

-- where what follows a statement begins
abbrev pub behind : ℕ → Statement → ℕ
behind here Nothing = here
behind here (Definition left name number) = here
behind here (Offset left offset) = offset
behind here (Data left size values) = here + length values * bytes_of size
behind here (Instruction o) = here + 8

-- the first of these lines begins here, and each other where the one before ends
abbrev pub FollowFrom : ℕ → List Placed → Type 0
FollowFrom here [] = Unit {0}
FollowFrom here (line ∷ lines) =
    (line.here ≡ here) × IsFitAt here line.statement × FollowFrom (behind here line.statement) lines

-- the bytes of an item, behind others
abbrev pub appended : List ℕ → Result SourceItem LineError → Result (List ℕ) LineError
appended bytes (Ok item) = Ok (bytes ++ bytes_of_item item)
appended bytes (Err e) = Err e

-- .. as far as a call has made them
abbrev pub bytes_if_ok : {E : Type 0} → Result (Unit {0}) E → List ℕ → Result (List ℕ) E
bytes_if_ok (Ok u) bytes = Ok bytes
bytes_if_ok (Err e) bytes = Err e

-- numbers of this size behind others
abbrev pub of_numbers : List ℕ → AccessSize → Result (List ℕ) LineError → Result (List ℕ) LineError
of_numbers bytes size (Ok ns) = Ok (bytes ++ flat_map (little_endian size) ns)
of_numbers bytes size (Err e) = Err e
