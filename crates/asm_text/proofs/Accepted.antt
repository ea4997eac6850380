-- What holds of a line that is read: registers are below 16.
use Rattle.std.proofs.Common.{◌≡◌, ℕ, ◌<◌, Bool, true, false, List, [], ◌∷◌, Option, Some, None, Result, Ok, Err, refl, arith}
use Rattle.std.specs.Prelude.{if◌then◌else◌, codes, nat_lt, option_and_then}
use Rattle.std.specs.Result.{result_ok}
use Rattle.std.specs.Str.{bytes_eq}
use Rattle.std.proofs.lemmas.Bool.{ltb-true}
use Rattle.muen_num.specs.declared.access.AccessSize.{AccessSize}
use Rattle.guest_isa.specs.GuestIsa.{opcode_with, shape_of}
use Rattle.text_words.specs.Numbers.{decimal}
use Rattle.text_words.specs.Steps.{◌>>=◌, ◌>>◌}
use Rattle.asm_text.specs.Parts.{parts_of}
use Rattle.asm_text.specs.Reading.{at_end, data_line, definition, directive, displacement, found, instruction, integer, keyword, label, source_line_of, name_or_wanted, no_operands, number, offset_line, operands_of, port_size, read_part, read_parts, register_token, size, statement, value, values, worded}
use Rattle.asm_text.specs.Tokens.{Tokens, end_with, token}
use Rattle.asm_text.specs.Words.{behind, if_below, data_size_of}
use Rattle.asm_text.specs.declared.fault.Want.TheVariants.{Register}
use Rattle.guest_isa.specs.declared.opcode.Opcode.{Opcode}
use Rattle.guest_isa.specs.declared.opcode.Shape.{Shape}
use Rattle.asm_text.specs.declared.part.Part.{Part}
use Rattle.asm_text.specs.declared.part.Part.TheVariants.{Rd, Rs, Imm, Displacement, Size, PortSize, Comma, At, To, Port}
use Rattle.asm_text.specs.declared.statement.Operands.{Operands}
use Rattle.asm_text.specs.declared.statement.SourceLine.{SourceLine}
use Rattle.asm_text.specs.declared.statement.Statement.{Statement}
use Rattle.asm_text.specs.declared.statement.Statement.TheVariants.{Instruction}

-- ---- where there is no fault

abbrev pub Holds : {A E : Type 0} → (A → Type 0) → Result A E → Type 0
Holds P (Ok x) = P x
Holds P (Err e) = Unit {0}

pub holds_then : {A B E : Type 0} (P : A → Type 0) (Q : B → Type 0) (r : Result A E) (f : A → Result B E) → Holds P r → ((x : A) → P x → Holds Q (f x)) → Holds Q (r >>= f)
holds_then P Q (Ok x) f h k = k x h
holds_then P Q (Err e) f h k = tt

abbrev pub Any : {A : Type 0} → A → Type 0
Any x = Unit {0}

pub any : {A E : Type 0} (r : Result A E) → Holds Any r
any (Ok x) = tt
any (Err e) = tt

pub after : {A B E : Type 0} (Q : B → Type 0) (r : Result A E) (f : A → Result B E) → ((x : A) → Holds Q (f x)) → Holds Q (r >>= f)
after Q r f k = holds_then Any Q r f (any r) (λ x _. k x)

pub after_test : {B E : Type 0} (Q : B → Type 0) (r : Result (Unit {0}) E) (s : Result B E) → Holds Q s → Holds Q (r >> s)
after_test Q (Ok u) s h = h
after_test Q (Err e) s h = tt

pub holds_at : {A E : Type 0} (P : A → Type 0) (r : Result A E) (x : A) → Holds P r → r ≡ Ok x → P x
holds_at P (Ok y) x h e = let same : y ≡ x = cc in rw (← same) h
holds_at P (Err y) x h e = absurd (cc)

either : {X : Type 0} (P : X → Type 0) (t : Bool) (x y : X) → P x → P y → P (if t then x else y)
either P true x y h k = h
either P false x y h k = k

-- ---- operands

-- registers are below 16
pub record AreFit (o : Operands) : Type 0 where
  pub rd : o.rd < 16
  pub rs : o.rs < 16

-- register 0 is one of them
pub zero_low : 0 < 16
zero_low = omega arith

module _ {X : Type 0} where
  abbrev LowFirst : ℕ × X → Type 0
  LowFirst x = x.0 < 16

found_low : (left : ℕ) (more : Tokens) (o : Option ℕ) → Holds LowFirst (found left Register more (option_and_then (if_below 16) o))
found_low left more None = tt
found_low left more (Some n) = by (nat_lt n 16) refl
  where
    by : (t : Bool) → nat_lt n 16 ≡ t → Holds LowFirst (found left Register more (if t then Some n else None))
    by true e = ltb-true n 16 e
    by false e = tt

register_low : (ts : Tokens) → Holds LowFirst (register_token ts)
unfolding register_token
register_low (end_with left) = tt
register_low (token left word more) = found_low left more (option_and_then (λ digits. result_ok (decimal digits)) (behind (codes "r") word))

abbrev FitFirst : Operands × Tokens → Type 0
FitFirst x = AreFit x.0

fit : {o : Operands} → o.rd < 16 → o.rs < 16 → AreFit o
fit h k = record { rd = h; rs = k }

part_fit : (p : Part) (o : Operands) (ts : Tokens) → AreFit o → Holds FitFirst (read_part p o ts)
unfolding read_part
part_fit Rd o ts f = holds_then LowFirst FitFirst (register_token ts) _ (register_low ts) λ x h. fit h f.rs
part_fit Rs o ts f = holds_then LowFirst FitFirst (register_token ts) _ (register_low ts) λ x h. fit f.rd h
part_fit Imm o ts f = after FitFirst (value ts) _ λ x. fit f.rd f.rs
part_fit Displacement o ts f = after FitFirst (displacement ts) _ λ x. fit f.rd f.rs
part_fit Size o ts f = after FitFirst (size ts) _ λ x. fit f.rd f.rs
part_fit PortSize o ts f = after FitFirst (port_size ts) _ λ x. fit f.rd f.rs
part_fit Comma o ts f = after FitFirst (keyword (codes ",") _ ts) _ λ x. f
part_fit At o ts f = after FitFirst (keyword (codes "at") _ ts) _ λ x. f
part_fit To o ts f = after FitFirst (keyword (codes "to") _ ts) _ λ x. f
part_fit Port o ts f = after FitFirst (keyword (codes "port") _ ts) _ λ x. f

parts_fit : (ps : List Part) (o : Operands) (ts : Tokens) → AreFit o → Holds FitFirst (read_parts ps o ts)
unfolding read_parts
parts_fit [] o ts f = f
parts_fit (p ∷ ps) o ts f =
    holds_then FitFirst FitFirst (read_part p o ts) _ (part_fit p o ts f) λ x g. parts_fit ps x.0 x.1 g

operands_fit : (shape : Shape) (ts : Tokens) → Holds FitFirst (operands_of shape ts)
operands_fit shape ts = parts_fit (parts_of shape) no_operands ts (fit zero_low zero_low)

-- ---- lines

-- what an instruction names is fit for it
abbrev pub IsFit : Statement → Type 0
IsFit (Instruction o) = AreFit o.operands
IsFit _ = Unit {0}

instruction_fit : (left : ℕ) (o : Opcode) (ts : Tokens) → Holds IsFit (instruction left o ts)
unfolding instruction
instruction_fit left o ts =
    holds_then FitFirst IsFit (operands_of (shape_of o) ts) _ (operands_fit (shape_of o) ts) λ x h.
    after_test IsFit (at_end x.1) _ h

directive_fit : (left : ℕ) (word : List ℕ) (ts : Tokens) (o : Option AccessSize) (p : Option Opcode) → Holds IsFit (directive left word ts o p)
unfolding data_line
directive_fit left word ts (Some n) p = after IsFit (values _ ts) _ λ vs. tt
directive_fit left word ts None (Some m) = instruction_fit left m ts
directive_fit left word ts None None = tt

offset_fit : (left : ℕ) (ts : Tokens) → Holds IsFit (offset_line left ts)
unfolding offset_line
offset_fit left ts = after IsFit (number ts) _ λ x. after_test IsFit (at_end x.1) _ tt

worded_fit : (left : ℕ) (word : List ℕ) (ts : Tokens) → Holds IsFit (worded left word ts)
worded_fit left word ts =
    either (Holds IsFit) (bytes_eq word (codes ".at")) (offset_line left ts) (directive left word ts (data_size_of word) (opcode_with word))
    (offset_fit left ts) (directive_fit left word ts (data_size_of word) (opcode_with word))

definition_fit : (left : ℕ) (word : List ℕ) (ts : Tokens) → Holds IsFit (definition left word ts)
unfolding definition
definition_fit left word ts = after IsFit (name_or_wanted left word) _ λ name. after IsFit (integer ts) _ λ n. after_test IsFit (at_end n.1) _ tt

statement_fit : (ts : Tokens) → Holds IsFit (statement ts)
unfolding statement
statement_fit (end_with left) = tt
statement_fit (token left word (end_with last)) = worded_fit left word (end_with last)
statement_fit (token left word (token at mark more)) =
    either (Holds IsFit) (bytes_eq mark (codes "=")) (definition left word more) (worded left word (token at mark more)) (definition_fit left word more) (worded_fit left word (token at mark more))

abbrev pub IsFitLine : SourceLine → Type 0
IsFitLine line = IsFit line.statement

pub line_fit : (ts : Tokens) → Holds IsFitLine (source_line_of ts)
unfolding source_line_of
line_fit ts =
    after IsFitLine (label ts) _ λ l.
    holds_then IsFit IsFitLine (statement l.1) _ (statement_fit l.1) λ s h. h
