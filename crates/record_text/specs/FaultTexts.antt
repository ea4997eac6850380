-- The texts of a record's faults, as they are printed (this project's own).
use Rattle.std.specs.Prelude.{ℕ, List, ◌++◌, codes, decimal, Option, Some, None}
use Rattle.record_text.specs.declared.fault.LineWant.{LineWant}
use Rattle.record_text.specs.declared.fault.LineWant.TheVariants.{Word, Count, Number, Range, Hex, Order}
use Rattle.record_text.specs.declared.fault.RecordFault.{RecordFault}
use Rattle.record_text.specs.declared.fault.RecordFault.TheVariants.{NotAscii, TooMany, Line, Back, Unknown, NoEnd, NoMemory}

abbrev pub line_want_text : LineWant → List ℕ
line_want_text Word = codes "word"
line_want_text Count = codes "count"
line_want_text Number = codes "number"
line_want_text Range = codes "range"
line_want_text Hex = codes "hex"
line_want_text Order = codes "order"

unfoldable pub record_refused_at_line : List ℕ
record_refused_at_line = codes "record refused at line "

abbrev pub at_line : ℕ → List ℕ → List ℕ
at_line line why = record_refused_at_line ++ (decimal line ++ (codes ": " ++ why))

-- what is wrong in a line, or at no line
abbrev pub fault_place_text : Option ℕ → List ℕ → List ℕ
fault_place_text (Some line) why = at_line line why
fault_place_text None why = why

abbrev pub record_fault_text : RecordFault → List ℕ
record_fault_text (NotAscii line) = at_line line (codes "not ASCII")
record_fault_text (TooMany line) = at_line line (codes "after end")
record_fault_text (Line line want) = at_line line (line_want_text want)
record_fault_text (Back line) = at_line line (codes "back")
record_fault_text (Unknown line) = at_line line (codes "unknown")
record_fault_text (NoEnd line) = at_line line (codes "no end")
record_fault_text NoMemory = codes "out of memory"
