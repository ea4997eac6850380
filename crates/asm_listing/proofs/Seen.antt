-- A printed line has no line feed within, nor another control byte.
use Rattle.std.proofs.Common.{◌≡◌, ℕ, zero, suc, ◌^◌, ◌<◌, true, ℤ, pos, negsuc, List, [], ◌∷◌, ◌++◌, refl, ◌∙◌, w32, arith}
use Rattle.std.specs.Prelude.{codes, decimal}
use Rattle.std.specs.Char.{is_ascii_digit}
use Rattle.std.specs.Fmt.{signed_decimal}
use Rattle.std.specs.Int.RustNames.{FitsSigned}
use Rattle.std.specs.List.{All, flat_map, list_all}
use Rattle.std.proofs.lemmas.Bool.{and_from}
use Rattle.std.proofs.lemmas.Bool.Decides.{nat_tests}
use Rattle.std.proofs.lemmas.List.Elements.{All-head, All-tail}
use Rattle.std.proofs.lemmas.List.Folds.{list_all-append}
use Rattle.muen_num.specs.declared.access.AccessSize.{AccessSize}
use Rattle.muen_num.specs.declared.access.AccessSize.TheVariants.{One, Two, Four, Eight}
use Rattle.muen_num.proofs.Lists.{each_from}
use Rattle.guest_isa.specs.GuestIsa.{IsValid, row_of, shape_of, word_of}
use Rattle.guest_isa.specs.declared.instr.Instr.{Instr}
use Rattle.guest_isa.specs.declared.opcode.Opcode.{Opcode}
use Rattle.guest_isa.specs.declared.opcode.Opcode.TheVariants.{Nop}
use Rattle.asm_text.specs.Parts.{parts_of}
use Rattle.asm_text.specs.declared.part.Part.{Part}
use Rattle.asm_text.specs.declared.part.Part.TheVariants.{Rd, Rs, Imm, Displacement, Size, PortSize, Comma, At, To, Port}
use Rattle.asm_listing.specs.Source.{byte_text, data_text, displacement_text, instruction_text, part_text, register_text, size_text}
use Rattle.text_words.proofs.Numerals.{digits_alone}
use Rattle.asm_listing.proofs.Values.{below_zero, small}
use Rattle.asm_listing.proofs.Words.{byte_seen, is_seen}

abbrev pub Seen : List ℕ → Type 0
Seen text = list_all is_seen text ≡ true

joined : (a b : List ℕ) → Seen a → Seen b → Seen (a ++ b)
joined a b p q = list_all-append is_seen a b ∙ and_from (list_all is_seen a) (list_all is_seen b) p q

digit_seen : (c : ℕ) → is_ascii_digit c ≡ true → is_seen c ≡ true
digit_seen c h = grind (arith, nat_tests)

decimal_seen : (n : ℕ) → n < 2 ^ 64 → Seen (decimal n)
decimal_seen n h = each_from is_ascii_digit is_seen digit_seen (decimal n) (digits_alone n h)

register_seen : (r : ℕ) → r < 16 → Seen (register_text r)
register_seen r h = decimal_seen r (omega arith)

size_seen : (size : AccessSize) → Seen (size_text size)
size_seen One = refl
size_seen Two = refl
size_seen Four = refl
size_seen Eight = refl

signed_seen : (z : ℤ) → FitsSigned w32 z → Seen (signed_decimal z)
signed_seen (pos n) h = decimal_seen n (small (pos n) h n refl)
signed_seen (negsuc n) h = decimal_seen (suc n) (below_zero (negsuc n) h n refl)

displacement_seen : (z : ℤ) → FitsSigned w32 z → Seen (displacement_text z)
displacement_seen (pos zero) h = refl
displacement_seen (pos (suc n)) h = decimal_seen (suc n) (small (pos (suc n)) h (suc n) refl)
displacement_seen (negsuc n) h = decimal_seen (suc n) (below_zero (negsuc n) h n refl)

-- ---- instructions

module _ (p : Instr) (rd : p.rd < 16) (rs : p.rs < 16) (imm : FitsSigned w32 p.imm) where
  part_seen : (part : Part) → Seen (part_text p part)
  part_seen Rd = register_seen p.rd rd
  part_seen Rs = register_seen p.rs rs
  part_seen Imm = signed_seen p.imm imm
  part_seen Displacement = displacement_seen p.imm imm
  part_seen Size = size_seen p.size
  part_seen PortSize = size_seen p.size
  part_seen Comma = refl
  part_seen At = refl
  part_seen To = refl
  part_seen Port = refl

  parts_seen : (parts : List Part) → Seen (flat_map (part_text p) parts)
  parts_seen [] = refl
  parts_seen (part ∷ parts) = joined (part_text p part) (flat_map (part_text p) parts) (part_seen part) (parts_seen parts)

word_seen : (o : Opcode) → Seen (word_of o)
unfolding row_of
word_seen Nop = refl
word_seen _ = refl

pub instruction_seen : (i : Instr) → IsValid i → FitsSigned w32 i.imm → Seen (instruction_text i)
unfolding instruction_text
instruction_seen i valid fits =
    let parts = parts_of (shape_of i.opcode) in
    joined (word_of i.opcode) (flat_map (part_text i) parts) (word_seen i.opcode) (parts_seen i valid.0 valid.1 fits parts)

-- ---- data

others_seen : (bs : List ℕ) → All (λ b. b < 256) bs → Seen (flat_map (λ b. codes ", " ++ byte_text b) bs)
others_seen [] all = refl
others_seen (b ∷ bs) all =
    joined (codes ", " ++ byte_text b) (flat_map (λ b. codes ", " ++ byte_text b) bs)
    (joined (codes ", ") (byte_text b) refl (byte_seen b (All-head (λ b. b < 256) b bs all))) (others_seen bs (All-tail (λ b. b < 256) b bs all))

pub data_seen : (bs : List ℕ) → All (λ b. b < 256) bs → Seen (data_text bs)
unfolding data_text
data_seen [] all = refl
data_seen (b ∷ bs) all =
    joined (codes ".byte " ++ byte_text b) (flat_map (λ b. codes ", " ++ byte_text b) bs)
    (joined (codes ".byte ") (byte_text b) refl (byte_seen b (All-head (λ b. b < 256) b bs all))) (others_seen bs (All-tail (λ b. b < 256) b bs all))
