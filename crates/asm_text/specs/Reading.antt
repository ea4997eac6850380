-- What a line of a source says, or its first fault.
use Rattle.std.specs.Prelude.{ℕ, ◌+◌, zero, suc, Bool, true, false, List, [], ◌∷◌, codes, Option, Some, None, Result, Ok, Err, option_map, slice_index, if◌then◌else◌}
use Rattle.std.specs.Char.{is_ascii_digit}
use Rattle.std.specs.Str.{bytes_eq}
use Rattle.muen_num.specs.declared.access.AccessSize.{AccessSize}
use Rattle.muen_num.specs.declared.access.AccessSize.TheVariants.{One, Two, Four, Eight}
use Rattle.guest_isa.specs.GuestIsa.{opcode_with, shape_of}
use Rattle.guest_isa.specs.declared.opcode.Opcode.{Opcode}
use Rattle.guest_isa.specs.declared.opcode.Shape.{Shape}
use Rattle.text_words.specs.Steps.{◌>>=◌, ◌>>◌, mapped}
use Rattle.asm_text.specs.Parts.{parts_of}
use Rattle.asm_text.specs.Tokens.{Tokens, end_with, token}
use Rattle.asm_text.specs.Words.{register_of, number_in, symbol_of, data_size_of, size_of, size_unit}
use Rattle.asm_text.specs.declared.fault.LineError.{LineError}
use Rattle.asm_text.specs.declared.fault.LineError.TheVariants.{Wanted}
use Rattle.asm_text.specs.declared.fault.Want.{Want}
use Rattle.asm_text.specs.declared.fault.Want.TheVariants.{Mnemonic as MnemonicWant, Register, Size, Comma, At, To, Port, Number, Term as TermWant, Name as NameWant, End}
use Rattle.asm_text.specs.declared.part.Part.{Part}
use Rattle.asm_text.specs.declared.part.Part.TheVariants.{Rd, Rs, Imm, Displacement, Size as SizePart, PortSize, Comma as CommaPart, At as AtPart, To as ToPart, Port as PortPart}
use Rattle.asm_text.specs.declared.statement.Atom.{Atom}
use Rattle.asm_text.specs.declared.statement.Atom.TheVariants.{Number as NumberAtom, Name as NameAtom}
use Rattle.asm_text.specs.declared.statement.Term.{Term}
use Rattle.asm_text.specs.declared.statement.Value.{Value}
use Rattle.asm_text.specs.declared.statement.Operands.{Operands}
use Rattle.asm_text.specs.declared.statement.Integer.{Integer}
use Rattle.asm_text.specs.declared.statement.Label.{Label}
use Rattle.asm_text.specs.declared.statement.Statement.{Statement}
use Rattle.asm_text.specs.declared.statement.Statement.TheVariants.{Nothing, Definition, Offset, Data, Instruction}
use Rattle.asm_text.specs.declared.statement.SourceLine.{SourceLine}

abbrev pub line_bytes_left : Tokens → ℕ
line_bytes_left (end_with left) = left
line_bytes_left (token left word more) = left

-- what is wanted isn't there
abbrev pub wanted : {X : Type 0} → ℕ → Want → Result X LineError
wanted left want = Err (Wanted left want)

-- ---- tokens

abbrev pub found : {X : Type 0} → ℕ → Want → Tokens → Option X → Result (X × Tokens) LineError
found left want more None = wanted left want
found left want more (Some x) = Ok (x, more)

-- the next token, as a word is read
abbrev pub next : {X : Type 0} → (List ℕ → Option X) → Want → Tokens → Result (X × Tokens) LineError
next read want (end_with left) = wanted left want
next read want (token left word more) = found left want more (read word)

abbrev pub ok_or_wanted : {X : Type 0} → ℕ → Want → Option X → Result X LineError
ok_or_wanted left want None = wanted left want
ok_or_wanted left want (Some x) = Ok x

abbrev pub is_word : List ℕ → List ℕ → Option (Unit {0})
is_word text word = if bytes_eq word text then Some tt else None

-- this word or mark
unfoldable pub keyword : List ℕ → Want → Tokens → Result Tokens LineError
keyword text want ts = do
  (_, ts) ← next (is_word text) want ts
  Ok ts

unfoldable pub register_token : Tokens → Result (ℕ × Tokens) LineError
register_token ts = next register_of Register ts

-- the line ends
unfoldable pub at_end : Tokens → Result (Unit {0}) LineError
at_end (end_with left) = Ok tt
at_end (token left word more) = wanted left End

-- a number of bytes, with its unit
unfoldable pub size : Tokens → Result (AccessSize × Tokens) LineError
size ts = do
  (n, ts) ← next size_of Size ts
  ts ← keyword (size_unit n) Size ts
  Ok (n, ts)

-- at most four bytes
abbrev pub small : ℕ → AccessSize → Result (Unit {0}) LineError
small left One = Ok tt
small left Two = Ok tt
small left Four = Ok tt
small left Eight = wanted left Size

unfoldable pub port_size : Tokens → Result (AccessSize × Tokens) LineError
port_size ts = do
  (n, more) ← size ts
  small (line_bytes_left ts) n
  Ok (n, more)

-- ---- values

-- whether a word is a sign, and then whether it is `-`
abbrev pub sign_of : List ℕ → Option Bool
sign_of word =
    if bytes_eq word (codes "-") then Some true
    else if bytes_eq word (codes "+") then Some false
    else None

-- a number, which begins with a digit, or a name
abbrev pub atom_of : List ℕ → Option Atom
atom_of word =
    if is_ascii_digit (slice_index word 0) then option_map NumberAtom (number_in word) else option_map NameAtom (symbol_of word)

-- a term with its sign, and then others
abbrev pub with_term : ℕ → Bool → Option Atom → Result (List Term × Tokens) LineError → Result (List Term × Tokens) LineError
with_term left minus None others = wanted left TermWant
with_term left minus (Some atom) others = do
  (terms, ts) ← others
  Ok (record { left = left; minus = minus; atom = atom } ∷ terms, ts)

-- .. where a sign stands there
abbrev pub with_signed_term : Option Bool → Tokens → ℕ → Option Atom → Result (List Term × Tokens) LineError → Result (List Term × Tokens) LineError
with_signed_term None here left atom others = Ok ([], here)
with_signed_term (Some minus) here left atom others = with_term left minus atom others

abbrev pub without_term : Option Bool → Tokens → ℕ → Result (List Term × Tokens) LineError
without_term None here left = Ok ([], here)
without_term (Some minus) here left = wanted left TermWant

-- terms with a sign each, as many as there are
unfoldable pub signed_terms : Tokens → Result (List Term × Tokens) LineError
signed_terms (end_with left) = Ok ([], end_with left)
signed_terms (token left word (end_with last)) = without_term (sign_of word) (token left word (end_with last)) last
signed_terms (token left word (token at atom more)) =
    with_signed_term (sign_of word) (token left word (token at atom more)) at (atom_of atom) (signed_terms more)

abbrev pub as_term : ℕ → Bool → Tokens → Option Atom → Result (Term × Tokens) LineError
as_term left minus more None = wanted left TermWant
as_term left minus more (Some atom) = Ok (record { left = left; minus = minus; atom = atom }, more)

-- a number or a name behind its sign
abbrev pub term_of : Bool → Tokens → Result (Term × Tokens) LineError
term_of minus (end_with left) = wanted left TermWant
term_of minus (token left word more) = as_term left minus more (atom_of word)

-- a term that begins here, and those behind it
abbrev pub terms_of : Bool → Tokens → Result (List Term × Tokens) LineError
terms_of minus ts = do
  (first, ts) ← term_of minus ts
  mapped (λ r. (first ∷ r.0, r.1)) (signed_terms ts)

-- a sign, and what is behind it
abbrev pub sign_at : Tokens → Option (Bool × Tokens)
sign_at (end_with left) = None
sign_at (token left word more) = option_map (λ minus. (minus, more)) (sign_of word)

-- the first may have a sign
abbrev pub terms_behind : Option (Bool × Tokens) → Tokens → Result (List Term × Tokens) LineError
terms_behind None here = terms_of false here
terms_behind (Some s) here = terms_of s.0 s.1

abbrev pub terms : Tokens → Result (List Term × Tokens) LineError
terms ts = terms_behind (sign_at ts) ts

-- a sum
unfoldable pub value : Tokens → Result (Value × Tokens) LineError
value ts = do
  (sum, more) ← terms ts
  Ok (record { left = line_bytes_left ts; terms = sum }, more)

-- what is added to a register; nothing is 0
unfoldable pub displacement : Tokens → Result (Value × Tokens) LineError
displacement ts = do
  (sum, more) ← signed_terms ts
  Ok (record { left = line_bytes_left ts; terms = sum }, more)

abbrev pub comma : Tokens → Result Tokens LineError
comma ts = keyword (codes ",") Comma ts

abbrev pub token_count : Tokens → ℕ
token_count (end_with left) = 0
token_count (token left word more) = 1 + token_count more

-- a value, and behind a comma such others
abbrev pub with_others : Value → Tokens → (Tokens → Result (List Value) LineError) → Result (List Value) LineError
with_others first (end_with left) others = Ok (first ∷ [])
with_others first (token left word more) others = do
  ts ← comma (token left word more)
  vs ← others ts
  Ok (first ∷ vs)

-- values up to the end of the line with commas between them, at most so many
unfoldable pub values : ℕ → Tokens → Result (List Value) LineError
values zero ts = wanted (line_bytes_left ts) TermWant
values (suc n) ts = do
  (first, ts) ← value ts
  with_others first ts (values n)

-- ---- operands

abbrev pub no_value : Value
no_value = record { left = 0; terms = [] }

abbrev pub operands : ℕ → ℕ → AccessSize → Value → Operands
operands rd rs size value = record { rd = rd; rs = rs; size = size; value = value }

abbrev pub no_operands : Operands
no_operands = operands 0 0 One no_value

-- a word or mark, which says no operand
abbrev pub passed : List ℕ → Want → Operands → Tokens → Result (Operands × Tokens) LineError
passed text want o ts = do
  ts ← keyword text want ts
  Ok (o, ts)

-- one more part, behind which these operands are said
unfoldable pub read_part : Part → Operands → Tokens → Result (Operands × Tokens) LineError
read_part Rd o ts = do
  (rd, ts) ← register_token ts
  Ok (record o { rd = rd }, ts)
read_part Rs o ts = do
  (rs, ts) ← register_token ts
  Ok (record o { rs = rs }, ts)
read_part Imm o ts = do
  (imm, ts) ← value ts
  Ok (record o { value = imm }, ts)
read_part Displacement o ts = do
  (offset, ts) ← displacement ts
  Ok (record o { value = offset }, ts)
read_part SizePart o ts = do
  (n, ts) ← size ts
  Ok (record o { size = n }, ts)
read_part PortSize o ts = do
  (n, ts) ← port_size ts
  Ok (record o { size = n }, ts)
read_part CommaPart o ts = passed (codes ",") Comma o ts
read_part AtPart o ts = passed (codes "at") At o ts
read_part ToPart o ts = passed (codes "to") To o ts
read_part PortPart o ts = passed (codes "port") Port o ts

unfoldable pub read_parts : List Part → Operands → Tokens → Result (Operands × Tokens) LineError
read_parts [] o ts = Ok (o, ts)
read_parts (p ∷ ps) o ts = do
  (o, ts) ← read_part p o ts
  read_parts ps o ts

-- what stands behind a word of this shape
abbrev pub operands_of : Shape → Tokens → Result (Operands × Tokens) LineError
operands_of shape ts = read_parts (parts_of shape) no_operands ts

-- ---- statements

-- an instruction up to the end of the line
unfoldable pub instruction : ℕ → Opcode → Tokens → Result Statement LineError
instruction left opcode ts = do
  (with, ts) ← operands_of (shape_of opcode) ts
  at_end ts
  Ok (Instruction (record { left = left; opcode = opcode; operands = with }))

-- data up to the end of the line: no more values than tokens
unfoldable pub data_line : ℕ → AccessSize → Tokens → Result Statement LineError
data_line left n ts = do
  vs ← values (token_count ts) ts
  Ok (Data left n vs)

unfoldable pub number : Tokens → Result (ℕ × Tokens) LineError
number ts = next number_in Number ts

-- `.at` with a number up to the end of the line
unfoldable pub offset_line : ℕ → Tokens → Result Statement LineError
offset_line left ts = do
  (n, ts) ← number ts
  at_end ts
  Ok (Offset left n)

abbrev pub integer_with : Bool → Tokens → Result (Integer × Tokens) LineError
integer_with minus ts = do
  (n, ts) ← number ts
  Ok (record { minus = minus; magnitude = n }, ts)

-- a number, maybe with `-`
abbrev pub signed_number : Option (Bool × Tokens) → Tokens → Result (Integer × Tokens) LineError
signed_number None here = integer_with false here
signed_number (Some (false, more)) here = integer_with false here
signed_number (Some (true, more)) here = integer_with true more

abbrev pub integer : Tokens → Result (Integer × Tokens) LineError
integer ts = signed_number (sign_at ts) ts

abbrev pub name_or_wanted : ℕ → List ℕ → Result (List ℕ) LineError
name_or_wanted left word = ok_or_wanted left NameWant (symbol_of word)

-- NAME = NUMBER, where the name stands before these tokens
unfoldable pub definition : ℕ → List ℕ → Tokens → Result Statement LineError
definition left word ts = do
  name ← name_or_wanted left word
  (n, ts) ← integer ts
  at_end ts
  Ok (Definition left name n)

-- the word of a statement, and what stands behind it
abbrev pub directive : ℕ → List ℕ → Tokens → Option AccessSize → Option Opcode → Result Statement LineError
directive left word ts (Some n) opcode = data_line left n ts
directive left word ts None (Some opcode) = instruction left opcode ts
directive left word ts None None = wanted left MnemonicWant

abbrev pub worded : ℕ → List ℕ → Tokens → Result Statement LineError
worded left word ts =
    if bytes_eq word (codes ".at") then offset_line left ts else directive left word ts (data_size_of word) (opcode_with word)

-- a statement, or nothing
unfoldable pub statement : Tokens → Result Statement LineError
statement (end_with left) = Ok Nothing
statement (token left word (end_with last)) = worded left word (end_with last)
statement (token left word (token at mark more)) =
    if bytes_eq mark (codes "=") then definition left word more else worded left word (token at mark more)

abbrev pub named : ℕ → List ℕ → Tokens → Result (Option Label × Tokens) LineError
named left word ts = do
  name ← name_or_wanted left word
  Ok (Some (record { left = left; name = name }), ts)

-- a label, where one stands there
unfoldable pub label : Tokens → Result (Option Label × Tokens) LineError
label (end_with left) = Ok (None, end_with left)
label (token left word (end_with last)) = Ok (None, token left word (end_with last))
label (token left word (token at mark more)) =
    if bytes_eq mark (codes ":") then named left word more else Ok (None, token left word (token at mark more))

-- what a line says
unfoldable pub source_line_of : Tokens → Result SourceLine LineError
source_line_of ts = do
  (l, ts) ← label ts
  s ← statement ts
  Ok (record { label = l; statement = s })
