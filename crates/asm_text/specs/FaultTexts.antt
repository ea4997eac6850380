-- The texts of a source's faults, as they are printed (this project's own).
use Rattle.std.specs.Prelude.{ℕ, List, ◌++◌, codes, decimal}
use Rattle.asm_text.specs.declared.fault.SourceFault.{SourceFault}
use Rattle.asm_text.specs.declared.fault.SourceFault.TheVariants.{At as AtPlace, NoMemory}
use Rattle.asm_text.specs.declared.fault.Want.{Want}
use Rattle.asm_text.specs.declared.fault.Want.TheVariants.{Mnemonic, Register, Size, Comma, At, To, Port, Number, Term, Name, End, NewName, Ahead, Room, Aligned, KnownName, Range, Near, Target}

unfoldable pub want_text : Want → List ℕ
want_text Mnemonic = codes "want an instruction, data, .at or a name"
want_text Register = codes "want a register"
want_text Size = codes "want a size of access"
want_text Comma = codes "want a comma"
want_text At = codes "want at"
want_text To = codes "want to"
want_text Port = codes "want port"
want_text Number = codes "want a number"
want_text Term = codes "want a number or a name"
want_text Name = codes "want a name"
want_text End = codes "want the end of the line"
want_text NewName = codes "the name stands before"
want_text Ahead = codes "the offset is behind"
want_text Room = codes "more than 64 MiB"
want_text Aligned = codes "an instruction off a multiple of 8"
want_text KnownName = codes "no such name"
want_text Range = codes "out of range"
want_text Near = codes "the jump is too far"
want_text Target = codes "want one label or a distance"

abbrev pub source_fault_text : SourceFault → List ℕ
source_fault_text (AtPlace line column want) =
    codes "line " ++ (decimal line ++ (codes ", column " ++ (decimal column ++ (codes ": " ++ want_text want))))
source_fault_text NoMemory = codes "out of memory"
