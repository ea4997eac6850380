-- The instruction of eight bytes is spelled by these bytes and no others, and what spells an instruction decodes to it.
use Rattle.std.proofs.Common.{◌≡◌, ◌∙◌, ℕ, zero, suc, ◌+◌, ◌-◌, ◌*◌, ◌/◌, ◌%◌, ◌^◌, ◌<◌, ◌==◌, Bool, true, false, ltb, List, [], ◌∷◌, length, get_or, Option, Some, None, ℤ, pos, negsuc, refl, sym, ap, w32, w64, to_z-of_z, arith}
use Rattle.std.specs.Prelude.{IfSome, ◌&&◌, ◌||◌, if◌then◌else◌, nat_le, option_and_then}
use Rattle.std.specs.Int.{bytes_low_first, byte_at, cast_signed, cast_unsigned, from_le_bytes, to_le_bytes}
use Rattle.std.specs.Int.RustNames.{FitsSigned}
use lib.Signed.{mag}
use mir.Val.{sel}
use Rattle.std.specs.List.{All}
use Rattle.std.specs.Ordering.{int_eq}
use Rattle.std.proofs.lemmas.Bool.{and_from, and_parts, eqb-true, ltb-false, ltb-true}
use Rattle.std.proofs.lemmas.Bool.Decides.{Decides-int_eq}
use Rattle.std.proofs.lemmas.Int.{of_z-to_z}
use Rattle.std.proofs.lemmas.List.Elements.{All-cons, All-nil}
use Rattle.std.proofs.lemmas.Option.{same_Some}
use Rattle.std.proofs.lemmas.Nat.{from_le_bytes-to_le_bytes_4, le_bytes_4}
use Rattle.muen_num.specs.AccessSize.{bytes_of}
use Rattle.muen_num.specs.declared.access.AccessSize.{AccessSize}
use Rattle.muen_num.specs.declared.access.AccessSize.TheVariants.{One, Two, Four, Eight}
use Rattle.muen_num.proofs.Numbers.{byte_low}
use Rattle.guest_isa.specs.declared.opcode.Opcode.{Opcode}
use Rattle.guest_isa.specs.declared.opcode.Shape.{Shape}
use Rattle.guest_isa.specs.declared.opcode.Shape.TheVariants.{Alone}
use Rattle.guest_isa.specs.declared.spelling.Fields.{Fields}
use Rattle.guest_isa.specs.declared.instr.Instr.{Instr}
use Rattle.guest_isa.specs.GuestIsa.{AreSpelled, IsValid, code_of, decode_of, encoding_of, fields_for, fields_of, in_row, instr, instruction_by, instruction_of, instruction_with, is_in_row, named, named_by, number_of, opcode_at, shape_of, size_of, spelled}
use Rattle.guest_isa.specs.Words.{IsByte}
use Rattle.guest_isa.proofs.Rows.{number_back, number_low, opcode_back}

-- ---- instructions with the fields that their rows name

kept_low : (t : Bool) (r : ℕ) → r < 16 → (if t then r else 0) < 16
kept_low true r h = h
kept_low false r h = omega arith

kept : (t : Bool) (r : ℕ) → (t || ((if t then r else 0) == 0)) ≡ true
kept true r = refl
kept false r = refl

kept_imm : (t : Bool) (z : ℤ) → (t || int_eq (if t then z else pos 0) (pos 0)) ≡ true
kept_imm true z = refl
kept_imm false z = refl

one_byte : (shape : Shape) → nat_le 1 (named shape).most ≡ true
one_byte Alone = refl
one_byte _ = refl

kept_size : (size : AccessSize) (most : ℕ) → nat_le 1 most ≡ true → nat_le (bytes_of (if nat_le (bytes_of size) most then size else One)) most ≡ true
kept_size size most one = by (nat_le (bytes_of size) most) refl
  where
    by : (t : Bool) → nat_le (bytes_of size) most ≡ t → nat_le (bytes_of (if t then size else One)) most ≡ true
    by true e = e
    by false e = one

pub valid_with : (o : Opcode) (rd rs : ℕ) (size : AccessSize) (z : ℤ) → rd < 16 → rs < 16 → IsValid (instruction_with o rd rs size z)
valid_with o rd rs size z h k =
    let n = named_by o in
    (kept_low n.rd rd h, kept_low n.rs rs k, and_from _ _ (and_from _ _ (and_from _ _ (kept n.rd rd) (kept n.rs rs)) (kept_imm n.imm z)) (kept_size size n.most (one_byte (shape_of o))))

own_register : (t : Bool) (r : ℕ) → (t || (r == 0)) ≡ true → (if t then r else 0) ≡ r
own_register true r e = refl
own_register false r e = sym (eqb-true r 0 e)

int_zero : (z : ℤ) → int_eq z (pos 0) ≡ true → z ≡ pos 0
int_zero z e = (Decides-int_eq z (pos 0)).0 e

own_imm : (t : Bool) (z : ℤ) → (t || int_eq z (pos 0)) ≡ true → (if t then z else pos 0) ≡ z
own_imm true z e = refl
own_imm false z e = sym (int_zero z e)

-- what an instruction of these fields names, so that they are all that it has
pub own_fields : (i : Instr) → IsValid i → instruction_with i.opcode i.rd i.rs i.size i.imm ≡ i
own_fields i v =
    let n = named_by i.opcode in
    let three = and_parts _ (nat_le (bytes_of i.size) n.most) v.2 in
    let two = and_parts _ (n.imm || int_eq i.imm (pos 0)) three.0 in
    let one = and_parts (n.rd || (i.rd == 0)) (n.rs || (i.rs == 0)) two.0 in
    λ j. instr i.opcode (own_register n.rd i.rd one.0 j) (own_register n.rs i.rs one.1 j) (if three.1 j then i.size else One) (own_imm n.imm i.imm two.1 j)

-- ---- bytes

-- the bytes of the word that four bytes make
pub word_bytes : (a b c d : ℕ) → a < 256 → b < 256 → c < 256 → d < 256 → to_le_bytes w32 (from_le_bytes w32 (a ∷ b ∷ c ∷ d ∷ [])) ≡ a ∷ b ∷ c ∷ d ∷ []
word_bytes a b c d p q r s = le_bytes_4 (a ∷ b ∷ c ∷ d ∷ []) _ refl below refl
  where
    below : (k : ℕ) → get_or (a ∷ b ∷ c ∷ d ∷ []) k 0 < 256
    below zero = p
    below (suc zero) = q
    below (suc (suc zero)) = r
    below (suc (suc (suc zero))) = s
    below (suc (suc (suc (suc k)))) = omega arith

-- eight bytes are the bytes of their fields
pub eight : (b : List ℕ) (imm : ℕ) → length b ≡ 8 → to_le_bytes w32 imm ≡ get_or b 4 0 ∷ get_or b 5 0 ∷ get_or b 6 0 ∷ get_or b 7 0 ∷ [] → spelled (record (fields_of b) { imm = imm }) ≡ b
eight (a ∷ n ∷ c ∷ d ∷ e ∷ f ∷ g ∷ h ∷ []) imm l word =
    let nibbles : n / 16 * 16 + n % 16 ≡ n = omega arith in
    λ i. a ∷ nibbles i ∷ c ∷ d ∷ word i
eight _ imm l word = absurd (omega arith)

-- ---- what fields decode to has these fields

code_back : (code : ℕ) (size : AccessSize) → size_of code ≡ Some size → code_of size ≡ code
code_back code size e = by (code == 0) (code == 1) (code == 2) (code == 3) refl refl refl refl e
  where
    of : (own : AccessSize) → Some own ≡ Some size → (code == code_of own) ≡ true → code_of size ≡ code
    of own e t = ap code_of (sym (same_Some own size e)) ∙ sym (eqb-true code (code_of own) t)

    by : (a b c d : Bool) → (code == 0) ≡ a → (code == 1) ≡ b → (code == 2) ≡ c → (code == 3) ≡ d
        → (if a then Some One else (if b then Some Two else (if c then Some Four else (if d then Some Eight else None)))) ≡ Some size → code_of size ≡ code
    by true b c d p q r s e = of One e p
    by false true c d p q r s e = of Two e q
    by false false true d p q r s e = of Four e r
    by false false false true p q r s e = of Eight e s
    by false false false false p q r s e = cc

-- whatever holds of each instruction of these fields that passes
pub by_fields : (P : Instr → Type 0) (f : Fields) → ((o : Opcode) (size : AccessSize) → opcode_at f.opcode ≡ Some o → size_of f.size ≡ Some size → ((f.zero == 0) && is_in_row (instruction_by f o size)) ≡ true → P (instruction_by f o size))
    → IfSome (instruction_of f) P
by_fields P f each = of_opcode (opcode_at f.opcode) refl
  where
    of_test : (o : Opcode) (size : AccessSize) (t : Bool) → (t ≡ true → P (instruction_by f o size)) → IfSome (if t then Some (instruction_by f o size) else None) P
    of_test o size true h = h refl
    of_test o size false h = tt

    of_size : (o : Opcode) (s : Option AccessSize) → opcode_at f.opcode ≡ Some o → size_of f.size ≡ s → IfSome (option_and_then (λ size. in_row f (instruction_by f o size)) s) P
    of_size o None at e = tt
    of_size o (Some size) at e = of_test o size ((f.zero == 0) && is_in_row (instruction_by f o size)) (each o size at e)

    of_opcode : (o : Option Opcode) → opcode_at f.opcode ≡ o → IfSome (option_and_then (λ o. option_and_then (λ size. in_row f (instruction_by f o size)) (size_of f.size)) o) P
    of_opcode None e = tt
    of_opcode (Some o) e = of_size o (size_of f.size) e refl

-- what fields decode to is spelled by their bytes
pub spelled_by : (b : List ℕ) (f : Fields) → f.imm < 2 ^ 32 → spelled f ≡ b → AreSpelled (instruction_of f) b
unfolding encoding_of
spelled_by b f low back = as_spelled (instruction_of f) (by_fields (λ i. fields_for i ≡ f) f same)
  where
    same : (o : Opcode) (size : AccessSize) → opcode_at f.opcode ≡ Some o → size_of f.size ≡ Some size → ((f.zero == 0) && is_in_row (instruction_by f o size)) ≡ true → fields_for (instruction_by f o size) ≡ f
    same o size at sized test =
        let number = number_back f.opcode o at in
        let code = code_back f.size size sized in
        let none : 0 ≡ f.zero = sym (eqb-true f.zero 0 (and_parts (f.zero == 0) _ test).0) in
        let word = of_z-to_z w32 f.imm low in
        λ i. record { opcode = number i; rd = f.rd; rs = f.rs; size = code i; zero = none i; imm = word i }

    as_spelled : (o : Option Instr) → IfSome o (λ i. fields_for i ≡ f) → AreSpelled o b
    as_spelled None h = tt
    as_spelled (Some i) h = ap spelled h ∙ back

-- ---- what spells an instruction decodes to it

pub unsigned_low : (z : ℤ) → FitsSigned w32 z → cast_unsigned w32 z < 2 ^ 32
unsigned_low (pos n) h = omega (arith, h.sfits)
unsigned_low (negsuc n) h = omega (arith, h.sfits)

fields_back : (i : Instr) → i.rd < 16 → i.rs < 16 → FitsSigned w32 i.imm → fields_of (spelled (fields_for i)) ≡ fields_for i
fields_back i h k fits =
    let high : (i.rd * 16 + i.rs) / 16 ≡ i.rd = omega arith in
    let low : (i.rd * 16 + i.rs) % 16 ≡ i.rs = omega arith in
    let word = from_le_bytes-to_le_bytes_4 (cast_unsigned w32 i.imm) (unsigned_low i.imm fits) in
    λ j. record { opcode = number_of i.opcode; rd = high j; rs = low j; size = code_of i.size; zero = 0; imm = word j }

size_back : (size : AccessSize) → size_of (code_of size) ≡ Some size
size_back One = refl
size_back Two = refl
size_back Four = refl
size_back Eight = refl

row_back : (i : Instr) → is_in_row i ≡ true → FitsSigned w32 i.imm → instruction_of (fields_for i) ≡ Some i
row_back i named fits =
    (λ j. option_and_then (λ o. option_and_then (λ size. in_row (fields_for i) (instr o i.rd i.rs size (word j))) (size_back i.size j)) (opcode_back i.opcode j))
    ∙ ap (λ t. if t then Some i else None) named
  where
    word : cast_signed w32 (cast_unsigned w32 i.imm) ≡ i.imm
    word = to_z-of_z fits

pub encoding_decodes : (i : Instr) → IsValid i → FitsSigned w32 i.imm → decode_of (encoding_of i) ≡ Some i
unfolding decode_of encoding_of
encoding_decodes i v fits = ap instruction_of (fields_back i v.0 v.1 fits) ∙ row_back i v.2 fits

-- the bytes of its fields
pub fields_decode : (i : Instr) (f : Fields) (bytes : List ℕ) → f ≡ fields_for i → bytes ≡ spelled f → IsValid i → FitsSigned w32 i.imm → decode_of bytes ≡ Some i
unfolding encoding_of
fields_decode i f bytes e h v fits = ap decode_of (h ∙ ap spelled e) ∙ encoding_decodes i v fits

-- ---- immediates

-- a number that is read as 32 signed bits
pub signed_fits : (n : ℕ) → FitsSigned w32 (cast_signed w32 n)
signed_fits n = record { sfits = by (ltb n (2 ^ 31)) refl }
  where
    by : (t : Bool) → ltb n (2 ^ 31) ≡ t → mag (sel t (pos n) (negsuc (2 ^ 32 - suc n))) < 2 ^ 31
    by true e = ltb-true n (2 ^ 31) e
    by false e = omega (arith, ltb-false n (2 ^ 31) e)

pub unsigned_word : (z : ℤ) → FitsSigned w32 z → cast_unsigned w64 z < 2 ^ 64
unsigned_word (pos n) h = omega (arith, h.sfits)
unsigned_word (negsuc n) h = omega (arith, h.sfits)

-- ---- an encoding is eight bytes

pub bytes_low : (i k n : ℕ) → All IsByte (bytes_low_first i k n)
bytes_low i zero n = All-nil IsByte
bytes_low i (suc k) n = All-cons IsByte (byte_at i n) (bytes_low_first (suc i) k n) (byte_low i n) (bytes_low (suc i) k n)

code_low : (size : AccessSize) → code_of size < 256
code_low One = omega arith
code_low Two = omega arith
code_low Four = omega arith
code_low Eight = omega arith

pub encoding_low : (i : Instr) → IsValid i → All IsByte (encoding_of i)
unfolding encoding_of
encoding_low i v =
    let two : i.rd * 16 + i.rs < 256 = omega (arith, v.0, v.1) in
    let none : 0 < 256 = omega arith in
    let word = to_le_bytes w32 (cast_unsigned w32 i.imm) in
    let number = number_of i.opcode in
    All-cons IsByte number ((i.rd * 16 + i.rs) ∷ code_of i.size ∷ 0 ∷ word) (number_low i.opcode)
    (All-cons IsByte (i.rd * 16 + i.rs) (code_of i.size ∷ 0 ∷ word) two
    (All-cons IsByte (code_of i.size) (0 ∷ word) (code_low i.size) (All-cons IsByte 0 word none (bytes_low 0 4 (cast_unsigned w32 i.imm)))))
