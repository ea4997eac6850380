-- What stands behind an instruction's word: parts, one behind another.
use Rattle.std.specs.Prelude.{List, [], ◌∷◌}
use Rattle.guest_isa.specs.declared.opcode.Shape.{Shape}
use Rattle.guest_isa.specs.declared.opcode.Shape.TheVariants.{Alone, Immediate, High, Pair, Memory, PortRead, PortWrite, Destination, Source, Jump, JumpIf, JumpBelow}
use Rattle.asm_text.specs.declared.part.Part.{Part}
use Rattle.asm_text.specs.declared.part.Part.TheVariants.{Rd, Rs, Imm, Displacement, Size, PortSize, Comma, At, To, Port}

abbrev pub parts_of : Shape → List Part
parts_of Alone = []
parts_of Immediate = Rd ∷ Comma ∷ Imm ∷ []
parts_of High = Rd ∷ Comma ∷ Imm ∷ []
parts_of Pair = Rd ∷ Comma ∷ Rs ∷ []
parts_of Memory = Rd ∷ Comma ∷ Size ∷ At ∷ Rs ∷ Displacement ∷ []
parts_of PortRead = Rd ∷ Comma ∷ PortSize ∷ At ∷ Port ∷ Rs ∷ Displacement ∷ []
parts_of PortWrite = Rd ∷ Comma ∷ PortSize ∷ To ∷ Port ∷ Rs ∷ Displacement ∷ []
parts_of Destination = Rd ∷ []
parts_of Source = Rs ∷ []
parts_of Jump = Imm ∷ []
parts_of JumpIf = Rd ∷ Comma ∷ Imm ∷ []
parts_of JumpBelow = Rd ∷ Comma ∷ Rs ∷ Comma ∷ Imm ∷ []
