-- Where what each line says begins, and what each name stands for.
use Rattle.std.specs.Prelude.{ℕ, ◌+◌, ◌*◌, ◌-◌, ◌%◌, ◌==◌, List, [], ◌∷◌, length, nat_lt, Option, Some, None, is_some, Result, Ok, Err, if◌then◌else◌}
use Rattle.std.specs.BTreeMap.{insert_entry, is_at}
use Rattle.std.specs.Cmp.Lexicographic.{slice_cmp}
use Rattle.std.specs.Map.{lookup}
use Rattle.std.specs.Ordering.{nat_cmp}
use Rattle.muen_num.specs.AccessSize.{bytes_of}
use Rattle.muen_num.specs.declared.limits.TheConstants.{COMPONENT_FILE_MOST}
use Rattle.text_words.specs.Steps.{◌>>=◌}
use Rattle.asm_text.specs.Reading.{wanted, source_line_of}
use Rattle.asm_text.specs.Tokens.{tokens_of}
use Rattle.asm_text.specs.declared.fault.LineError.{LineError}
use Rattle.asm_text.specs.declared.fault.LineError.TheVariants.{Wanted, NoMemory as LineMemory}
use Rattle.asm_text.specs.declared.fault.SourceFault.{SourceFault}
use Rattle.asm_text.specs.declared.fault.SourceFault.TheVariants.{At, NoMemory}
use Rattle.asm_text.specs.declared.fault.Want.TheVariants.{NewName, Ahead, Room, Aligned}
use Rattle.asm_text.specs.declared.statement.Label.{Label}
use Rattle.asm_text.specs.declared.statement.Meaning.{Meaning}
use Rattle.asm_text.specs.declared.statement.Meaning.TheVariants.{Offset as OffsetMeaning, Number}
use Rattle.asm_text.specs.declared.statement.Placed.{Placed}
use Rattle.asm_text.specs.declared.statement.SourceLine.{SourceLine}
use Rattle.asm_text.specs.declared.statement.Statement.{Statement}
use Rattle.asm_text.specs.declared.statement.Statement.TheVariants.{Nothing, Definition, Offset, Data, Instruction}

-- ---- names: each with what it stands for, in their order

abbrev pub SymbolTable : Type 0
SymbolTable = List (List ℕ × Meaning)

abbrev pub meaning_of : SymbolTable → List ℕ → Option Meaning
meaning_of names name = lookup (is_at (slice_cmp nat_cmp name)) names

abbrev pub named : SymbolTable → List ℕ → Meaning → SymbolTable
named names name meaning = insert_entry (slice_cmp nat_cmp) names name meaning

-- ---- what the lines before one leave for it: where it begins, and the names

pub record LayoutState : Type 0 where
  pub here : ℕ
  pub names : SymbolTable

abbrev pub at_start : LayoutState
at_start = record { here = 0; names = [] }

-- a name that is new
abbrev pub with_name : ℕ → List ℕ → Meaning → LayoutState → Result LayoutState LineError
with_name left name meaning s =
    if is_some (meaning_of s.names name) then wanted left NewName
    else Ok (record { here = s.here; names = named s.names name meaning })

abbrev pub labelled : Option Label → LayoutState → Result LayoutState LineError
labelled None s = Ok s
labelled (Some l) s = with_name l.left l.name (OffsetMeaning s.here) s

-- what follows begins there
abbrev pub continued_at : ℕ → ℕ → LayoutState → Result LayoutState LineError
continued_at left to s = if nat_lt COMPONENT_FILE_MOST to then wanted left Room else Ok (record { here = to; names = s.names })

abbrev pub stated : Statement → LayoutState → Result LayoutState LineError
stated Nothing s = Ok s
stated (Definition left name number) s = with_name left name (Number number) s
stated (Offset left offset) s = if nat_lt offset s.here then wanted left Ahead else continued_at left offset s
stated (Data left size values) s = continued_at left (s.here + length values * bytes_of size) s
stated (Instruction o) s = if s.here % 8 == 0 then continued_at o.left (s.here + 8) s else wanted o.left Aligned

abbrev pub after_line : SourceLine → LayoutState → Result LayoutState LineError
after_line line s = do
  s ← labelled line.label s
  stated line.statement s

-- ---- whole sources

-- in line n, behind which this column comes: a column tells how many bytes of the line are left there
abbrev pub fault_in : ℕ → ℕ → LineError → SourceFault
fault_in n end (Wanted left want) = At n (end - left) want
fault_in n end LineMemory = NoMemory

abbrev pub in_source_line : {X : Type 0} → ℕ → ℕ → Result X LineError → Result X SourceFault
in_source_line n end (Ok x) = Ok x
in_source_line n end (Err e) = Err (fault_in n end e)

pub record Layout : Type 0 where
  pub lines : List Placed
  pub names : SymbolTable

abbrev pub with_line : Placed → Layout → Layout
with_line line layout = record { lines = line ∷ layout.lines; names = layout.names }

-- what line n says, where it begins, and what it leaves for the next
unfoldable pub source_line_at : LayoutState → ℕ → List ℕ → Result (Placed × LayoutState) SourceFault
source_line_at s n text = do
  line ← in_source_line n (length text + 1) (source_line_of (tokens_of text))
  next ← in_source_line n (length text + 1) (after_line line s)
  Ok (record { number = n; end = length text + 1; here = s.here; statement = line.statement }, next)

-- the lines from line n on
unfoldable pub layout_from : LayoutState → ℕ → List (List ℕ) → Result Layout SourceFault
layout_from s n [] = Ok (record { lines = []; names = s.names })
layout_from s n (text ∷ texts) = do
  (line, next) ← source_line_at s n text
  more ← layout_from next (n + 1) texts
  Ok (with_line line more)
