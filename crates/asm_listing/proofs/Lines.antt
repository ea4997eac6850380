-- What a printed line says: the instruction, or the bytes of data.
use Rattle.std.proofs.Common.{◌≡◌, ℕ, ◌-◌, ◌^◌, true, false, ℤ, pos, negsuc, List, ◌++◌, length, Option, Some, None, Result, Ok, refl, ap, subst, ◌∙◌, w32, to_z-of_z, add-one, arith, zero, suc, ◌<◌, ◌≤◌, [], ◌∷◌, sym}
use Rattle.std.specs.Prelude.{◌&&◌, if◌then◌else◌, codes, nat_le, nat_lt}
use Rattle.std.specs.Int.{cast_signed, cast_unsigned}
use Rattle.std.specs.Int.RustNames.{FitsSigned}
use Rattle.std.specs.List.{list_all, All, flat_map}
use Rattle.std.specs.Str.{bytes_eq}
use Rattle.std.proofs.lemmas.Bool.{and_parts, le-leb, lt-ltb}
use Rattle.muen_num.specs.AccessSize.{bytes_of}
use Rattle.muen_num.specs.declared.access.AccessSize.TheVariants.{One}
use Rattle.guest_isa.specs.GuestIsa.{IsValid, instr, instruction_with, named, opcode_with, row_of, shape_of, word_of}
use Rattle.guest_isa.specs.declared.instr.Instr.{Instr}
use Rattle.guest_isa.specs.declared.opcode.Opcode.{Opcode}
use Rattle.guest_isa.specs.declared.opcode.Opcode.TheVariants.{Nop}
use Rattle.guest_isa.specs.declared.opcode.Shape.{Shape}
use Rattle.guest_isa.specs.declared.opcode.Shape.TheVariants.{High, Jump, JumpIf, JumpBelow}
use Rattle.guest_isa.proofs.Spelled.{own_fields}
use Rattle.text_words.specs.Steps.{◌>>=◌, ◌>>◌}
use Rattle.asm_text.specs.Layout.{SymbolTable}
use Rattle.asm_text.specs.Meaning.{instruction as instruction_item, fits_in_bits, fits_signed, if_fits, immediate_by, immediate_of, instruction_of, assembled_item_of, residue, size_bits, number_of, numbers_of}
use Rattle.asm_text.specs.Reading.{at_end, definition, directive, instruction, label, source_line_of, named as named_label, no_operands, offset_line, operands_of, statement, worded, token_count, data_line, keyword, values, with_others}
use Rattle.asm_text.specs.Parts.{parts_of}
use Rattle.asm_text.specs.Tokens.{Tokens, end_with, token, is_word_byte, tokens_of, word_goes_on}
use Rattle.asm_text.specs.Words.{data_size_of}
use Rattle.asm_text.specs.declared.fault.LineError.{LineError}
use Rattle.asm_text.specs.declared.fault.Want.TheVariants.{Near, Range}
use Rattle.asm_text.specs.declared.meaning.Sum.{Sum}
use Rattle.asm_text.specs.declared.statement.Label.{Label}
use Rattle.asm_text.specs.declared.statement.Operands.{Operands}
use Rattle.asm_text.specs.declared.statement.Operation.{Operation}
use Rattle.asm_text.specs.declared.statement.SourceLine.{SourceLine}
use Rattle.asm_text.specs.declared.statement.Statement.{Statement}
use Rattle.asm_text.specs.declared.statement.Statement.TheVariants.{Instruction, Data}
use Rattle.asm_listing.specs.Source.{instruction_text, byte_text, data_text}
use Rattle.asm_listing.proofs.Parts.{Says, nothing_said, parts_end, parts_read, parts_text, shape_readable, shape_said, shape_unmarked}
use Rattle.asm_listing.proofs.Values.{IsUnmarked, comma_ends, ended, number_term, number_value, one_value, plus_sum, unmarked_word}
use Rattle.asm_listing.proofs.Words.{word_by, word_parted, byte_atom, byte_word}
use Rattle.std.proofs.lemmas.List.Elements.{All-head, All-tail}
use Rattle.asm_text.specs.declared.statement.Value.{Value}

-- ---- words

-- the word of each row is one, its own, and neither an offset's nor that of data
record IsRowWord (o : Opcode) : Type 0 where
  bytes : (nat_lt 0 (length (word_of o)) && list_all is_word_byte (word_of o)) ≡ true
  own : opcode_with (word_of o) ≡ Some o
  offset : bytes_eq (word_of o) (codes ".at") ≡ false
  data_size : data_size_of (word_of o) ≡ None

word_is : (o : Opcode) → IsRowWord o
unfolding row_of
word_is Nop = record { bytes = refl; own = refl; offset = refl; data_size = refl }
word_is _ = record { bytes = refl; own = refl; offset = refl; data_size = refl }

-- ---- lines

-- a line without a label, that begins with this word
unlabelled : (left : ℕ) (word : List ℕ) (more : Tokens) → IsUnmarked more → label (token left word more) ≡ Ok (None, token left word more)
unfolding label
unlabelled left word (end_with last) h = refl
unlabelled left word (token at mark more) h =
    λ i. if h.0 i then named_label left word more else Ok (None, token left word (token at mark more))

stated_by_word : (left : ℕ) (word : List ℕ) (more : Tokens) → IsUnmarked more → statement (token left word more) ≡ worded left word more
unfolding statement
stated_by_word left word (end_with last) h = refl
stated_by_word left word (token at mark more) h =
    λ i. if h.1 i then definition left word more else worded left word (token at mark more)

abbrev pub as_line : Statement → SourceLine
as_line s = record { label = None; statement = s }

pub line_by : (left : ℕ) (word : List ℕ) (more : Tokens) (s : Statement) → IsUnmarked more → worded left word more ≡ Ok s → source_line_of (token left word more) ≡ Ok (as_line s)
unfolding source_line_of
line_by left word more s h e =
    ap (λ (r : Result (Option Label × Tokens) LineError). r >>= λ l. statement l.1 >>= λ s. Ok (record { label = l.0; statement = s })) (unlabelled left word more h)
    ∙ ap (λ (r : Result Statement LineError). r >>= λ s. Ok (as_line s)) (stated_by_word left word more h ∙ e)

abbrev operation : ℕ → Opcode → Operands → Operation
operation left o with = record { left = left; opcode = o; operands = with }

instruction_worded : (left : ℕ) (o : Opcode) (more : Tokens) (with : Operands) → operands_of (shape_of o) more ≡ Ok (with, end_with 0)
    → worded left (word_of o) more ≡ Ok (Instruction (operation left o with))
unfolding instruction at_end
instruction_worded left o more with e =
    (λ i. if (word_is o).offset i then offset_line left more else directive left (word_of o) more ((word_is o).data_size i) ((word_is o).own i))
    ∙ ap (λ (r : Result (Operands × Tokens) LineError). r >>= λ x. at_end x.1 >> Ok (Instruction (operation left o x.0))) e

-- ---- immediates

-- so many as 32 bits hold
fits_32 : (z : ℤ) → FitsSigned w32 z → fits_signed 32 z ≡ true
fits_32 (pos n) h = lt-ltb n (2 ^ 31) (omega (arith, h.sfits))
fits_32 (negsuc n) h = ap (λ b. b && true) (le-leb n (2 ^ 31 - 1) (omega (arith, h.sfits)))

fits_either : (z : ℤ) → FitsSigned w32 z → fits_in_bits 32 z ≡ true
fits_either (pos n) h = lt-ltb n (2 ^ 32) (omega (arith, h.sfits))
fits_either (negsuc n) h = ap (λ b. b && true) (le-leb n (2 ^ 31 - 1) (omega (arith, h.sfits)))

residue_is : (z : ℤ) → FitsSigned w32 z → cast_signed w32 (residue 32 z) ≡ z
residue_is z h = same z ∙ to_z-of_z h
  where
    same : (z : ℤ) → cast_signed w32 (residue 32 z) ≡ cast_signed w32 (cast_unsigned w32 z)
    same (pos n) = refl
    same (negsuc n) = ap (λ k. cast_signed w32 (2 ^ 32 - k)) (add-one n)

abbrev alone_sum : ℤ → Sum
alone_sum z = record { number = z; labels = pos 0 }

immediate_is : (shape : Shape) (here left : ℕ) (z : ℤ) → FitsSigned w32 z → immediate_by shape here left (alone_sum z) ≡ Ok z
immediate_is High here left z h = λ i. if_fits (fits_either z h i) left Range (residue_is z h i)
immediate_is Jump here left z h = λ i. if_fits (fits_32 z h i) left Near z
immediate_is JumpIf here left z h = λ i. if_fits (fits_32 z h i) left Near z
immediate_is JumpBelow here left z h = λ i. if_fits (fits_32 z h i) left Near z
immediate_is _ here left z h = λ i. if_fits (fits_32 z h i) left Range z

-- ---- instructions

-- the line says the instruction, wherever it stands and whatever names stand for
pub record InstructionRead (i : Instr) : Type 0 where
  pub operation : Operation
  pub line : source_line_of (tokens_of (instruction_text i)) ≡ Ok (as_line (Instruction operation))
  pub item : (names : SymbolTable) (here : ℕ) → assembled_item_of names here (Instruction operation) ≡ Ok (instruction_item i)

pub instruction_read : (i : Instr) → IsValid i → FitsSigned w32 i.imm → InstructionRead i
unfolding instruction_text immediate_of
instruction_read i v fits =
    let s = shape_of i.opcode in
    let most = (and_parts _ (nat_le (bytes_of i.size) (named s).most) v.2).1 in
    let r = parts_read i v fits (parts_of s) no_operands (instr i.opcode 0 0 One (pos 0)) (shape_readable i s most) (nothing_said i.opcode) in
    let says = subst (Says r.read) (shape_said i s most ∙ own_fields i v) r.says in
    let word = word_of i.opcode in
    let text = parts_text i (parts_of s) in
    let left = length (word ++ text) in
    let own : Operation = operation left i.opcode r.read in
    record {
      operation = own;
      line =
          ap source_line_of (word_parted word text (word_by word (word_is i.opcode).bytes) (parts_end i (parts_of s)))
          ∙ line_by left word (tokens_of text) (Instruction own) (shape_unmarked i v fits s) (instruction_worded left i.opcode (tokens_of text) r.read r.is);
      item = λ names here.
          ap (λ (r : Result Sum LineError). r >>= immediate_by s here own.operands.value.left >>= λ z. Ok (instruction_item (instruction_of own z))) (says.sum names)
          ∙ ap (λ (r : Result ℤ LineError). r >>= λ z. Ok (instruction_item (instruction_of own z))) (immediate_is s here own.operands.value.left i.imm fits)
          ∙ (λ j. Ok (instruction_item (instruction_with i.opcode (says.rd j) (says.rs j) (says.size j) i.imm)))
          ∙ ap (λ (x : Instr). Ok (instruction_item x)) (own_fields i v);
    }

abbrev others_text : List ℕ → List ℕ
others_text bs = flat_map (λ b. codes ", " ++ byte_text b) bs

-- ---- one byte

byte_number : (names : SymbolTable) (left b : ℕ) → b < 256 → number_of names One (one_value left (number_term left false b)) ≡ Ok b
byte_number names left b h =
    ap (λ (r : Result Sum LineError). r >>= λ s. if_fits (fits_in_bits (size_bits One) s.number) left Range (residue (size_bits One) s.number)) (plus_sum left b names)
    ∙ ap (λ t. if_fits t left Range b) (lt-ltb b 256 h)

-- ---- bytes with commas between them

record ValuesRead (n : ℕ) (ts : Tokens) (bytes : List ℕ) : Type 0 where
  read : List Value
  is : values n ts ≡ Ok read
  many : length read ≡ length bytes
  numbers : (names : SymbolTable) → numbers_of names One read ≡ Ok bytes

abbrev after_value : ℕ → Value × Tokens → Result (List Value) LineError
after_value n x = with_others x.0 x.1 (values n)

one_number : (names : SymbolTable) (left b : ℕ) (others : List Value) (bs : List ℕ) → b < 256 → numbers_of names One others ≡ Ok bs
    → numbers_of names One (one_value left (number_term left false b) ∷ others) ≡ Ok (b ∷ bs)
unfolding numbers_of
one_number names left b others bs h e =
    ap (λ (r : Result ℕ LineError). r >>= λ n. numbers_of names One others >>= λ ns. Ok (n ∷ ns)) (byte_number names left b h)
    ∙ ap (λ (r : Result (List ℕ) LineError). r >>= λ ns. Ok (b ∷ ns)) e

others_part : (bs : List ℕ) → word_goes_on (others_text bs) ≡ false
others_part [] = refl
others_part (b ∷ bs) = refl

last_value : (n left b : ℕ) → b < 256 → ValuesRead (suc n) (token left (byte_text b) (end_with 0)) (b ∷ [])
unfolding values numbers_of
last_value n left b h = record {
  read = one_value left (number_term left false b) ∷ [];
  is = ap (λ (r : Result (Value × Tokens) LineError). r >>= after_value n) (number_value left (byte_text b) b (end_with 0) (byte_word b h) (byte_atom b h) (ended 0));
  many = refl;
  numbers = λ names. one_number names left b [] [] h refl;
}

next_value : (n left at further b : ℕ) (word : List ℕ) (more : Tokens) (bs : List ℕ) → b < 256 → ValuesRead n (token further word more) bs
    → ValuesRead (suc n) (token left (byte_text b) (token at (codes ",") (token further word more))) (b ∷ bs)
unfolding values keyword
next_value n left at further b word more bs h v =
    let first = one_value left (number_term left false b) in
    record {
      read = first ∷ v.read;
      is =
          ap (λ (r : Result (Value × Tokens) LineError). r >>= after_value n)
          (number_value left (byte_text b) b (token at (codes ",") (token further word more)) (byte_word b h) (byte_atom b h) (comma_ends at further word more))
          ∙ ap (λ (r : Result (List Value) LineError). r >>= λ others. Ok (first ∷ others)) v.is;
      many = ap suc v.many;
      numbers = λ names. one_number names left b v.read bs h (v.numbers names);
    }

values_read : (n b : ℕ) (bs : List ℕ) → length bs < n → b < 256 → All (λ b. b < 256) bs
    → ValuesRead n (token (length (byte_text b ++ others_text bs)) (byte_text b) (tokens_of (others_text bs))) (b ∷ bs)
unfolding tokens_of
values_read zero b bs l h all = absurd (omega arith)
values_read (suc n) b [] l h all = last_value n (length (byte_text b ++ [])) b h
values_read (suc n) b (c ∷ cs) l h all =
    let rest = byte_text c ++ others_text cs in
    let low : c < 256 = All-head (λ b. b < 256) c cs all in
    let v = values_read n c cs (omega arith) low (All-tail (λ b. b < 256) c cs all) in
    subst (λ ts. ValuesRead (suc n) (token (length (byte_text b ++ others_text (c ∷ cs))) (byte_text b) (token (length (codes ", " ++ rest)) (codes ",") ts)) (b ∷ c ∷ cs))
    (sym (word_parted (byte_text c) (others_text cs) (byte_word c low) (others_part cs)))
    (next_value n (length (byte_text b ++ others_text (c ∷ cs))) (length (codes ", " ++ rest)) (length rest) b (byte_text c) (tokens_of (others_text cs)) (c ∷ cs) h v)

-- ---- the line

pub record DataRead (chunk : List ℕ) : Type 0 where
  pub left : ℕ
  pub read : List Value
  pub line : source_line_of (tokens_of (data_text chunk)) ≡ Ok (as_line (Data left One read))
  pub many : length read ≡ length chunk
  pub numbers : (names : SymbolTable) → numbers_of names One read ≡ Ok chunk

many_tokens : (bs : List ℕ) → All (λ b. b < 256) bs → length bs ≤ token_count (tokens_of (others_text bs))
unfolding tokens_of
many_tokens [] all = omega arith
many_tokens (b ∷ bs) all =
    let low : b < 256 = All-head (λ b. b < 256) b bs all in
    let e = ap token_count (word_parted (byte_text b) (others_text bs) (byte_word b low) (others_part bs)) in
    let rest = many_tokens bs (All-tail (λ b. b < 256) b bs all) in
    omega (arith, e, rest)

data_worded : (left : ℕ) (more : Tokens) (vs : List Value) → values (token_count more) more ≡ Ok vs → worded left (codes ".byte") more ≡ Ok (Data left One vs)
unfolding data_line
data_worded left more vs e = ap (λ (r : Result (List Value) LineError). r >>= λ vs. Ok (Data left One vs)) e

pub data_read : (chunk : List ℕ) → 0 < length chunk → All (λ b. b < 256) chunk → DataRead chunk
unfolding data_text tokens_of
data_read [] some all = absurd (omega arith)
data_read (b ∷ bs) some all =
    let low : b < 256 = All-head (λ b. b < 256) b bs all in
    let rest = byte_text b ++ others_text bs in
    let left = length (codes ".byte " ++ rest) in
    let more = token (length rest) (byte_text b) (tokens_of (others_text bs)) in
    let parted : tokens_of rest ≡ more = word_parted (byte_text b) (others_text bs) (byte_word b low) (others_part bs) in
    let last = All-tail (λ b. b < 256) b bs all in
    let enough : length bs < token_count more = omega (arith, many_tokens bs last) in
    let v = values_read (token_count more) b bs enough low last in
    record {
      left = left;
      read = v.read;
      line =
          ap (λ ts. source_line_of (token left (codes ".byte") ts)) parted
          ∙ line_by left (codes ".byte") more (Data left One v.read) (unmarked_word (length rest) (byte_text b) (tokens_of (others_text bs)) (byte_word b low)) (data_worded left more v.read v.is);
      many = v.many;
      numbers = v.numbers;
    }
