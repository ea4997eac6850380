-- Bytes in pieces of eight, and what such a piece spells.
use Rattle.std.proofs.Common.{◌≡◌, ℕ, ◌^◌, ◌<◌, List, [], ◌∷◌, ◌++◌, length, get_or, Option, Some, None, refl, w32, arith}
use Rattle.std.specs.Prelude.{◌==◌, IfSome}
use Rattle.std.specs.Int.{from_le_bytes, to_le_bytes}
use Rattle.std.specs.Int.RustNames.{FitsSigned}
use Rattle.std.specs.List.{All}
use Rattle.std.proofs.lemmas.Bool.{and_parts}
use Rattle.guest_isa.specs.declared.instr.Instr.{Instr}
use Rattle.guest_isa.specs.GuestIsa.{AreSpelled, IsValid, decode_of, encoding_of, fields_of, instruction_of}
use Rattle.guest_isa.proofs.Spelled.{by_fields, eight, signed_fits, spelled_by, word_bytes}
use Rattle.asm_listing.specs.Source.{chunks_of}

-- ---- pieces

pub chunks_by : (P : List ℕ → Type 0) → P [] → ((chunk : List ℕ) → 0 < length chunk → length chunk < 8 → P chunk)
    → ((chunk more : List ℕ) → length chunk ≡ 8 → P more → P (chunk ++ more)) → (bytes : List ℕ) → P bytes
chunks_by P empty fewer full (a ∷ b ∷ c ∷ d ∷ e ∷ f ∷ g ∷ h ∷ more) =
    full (a ∷ b ∷ c ∷ d ∷ e ∷ f ∷ g ∷ h ∷ []) more refl (chunks_by P empty fewer full more)
chunks_by P empty fewer full [] = empty
chunks_by P empty fewer full rest = fewer rest (omega arith) (omega arith)

pub one_chunk : (chunk : List ℕ) → 0 < length chunk → length chunk < 8 → chunks_of chunk ≡ chunk ∷ []
unfolding chunks_of
one_chunk (a ∷ b ∷ c ∷ d ∷ e ∷ f ∷ g ∷ h ∷ more) some few = absurd (omega arith)
one_chunk [] some few = absurd (omega arith)
one_chunk rest some few = refl

pub first_chunk : (chunk more : List ℕ) → length chunk ≡ 8 → chunks_of (chunk ++ more) ≡ chunk ∷ chunks_of more
unfolding chunks_of
first_chunk (a ∷ b ∷ c ∷ d ∷ e ∷ f ∷ g ∷ h ∷ []) more l = refl
first_chunk rest more l = absurd (omega arith)

pub no_chunk : chunks_of [] ≡ []
unfolding chunks_of
no_chunk = refl

-- ---- the instruction of eight bytes

-- what eight bytes may spell
pub record IsDecoded (b : List ℕ) (i : Instr) : Type 0 where
  pub valid : IsValid i
  pub fits : FitsSigned w32 i.imm
  pub spelled : encoding_of i ≡ b

word_low : (a b c d : ℕ) → a < 256 → b < 256 → c < 256 → d < 256 → from_le_bytes w32 (a ∷ b ∷ c ∷ d ∷ []) < 2 ^ 32
word_low a b c d p q r s = omega arith

-- an instruction of the table
pub record IsSound (i : Instr) : Type 0 where
  pub valid : IsValid i
  pub fits : FitsSigned w32 i.imm

module _ (b : List ℕ) (l : length b ≡ 8) (all : All (λ x. x < 256) b) where
  byte_low : (k : ℕ) → k < 8 → get_or b k 0 < 256
  byte_low k h = all k 0 (omega arith)

  imm_low : (fields_of b).imm < 2 ^ 32
  imm_low = word_low (get_or b 4 0) (get_or b 5 0) (get_or b 6 0) (get_or b 7 0) (byte_low 4 (omega arith)) (byte_low 5 (omega arith)) (byte_low 6 (omega arith)) (byte_low 7 (omega arith))

  imm_bytes : to_le_bytes w32 (fields_of b).imm ≡ get_or b 4 0 ∷ get_or b 5 0 ∷ get_or b 6 0 ∷ get_or b 7 0 ∷ []
  imm_bytes = word_bytes (get_or b 4 0) (get_or b 5 0) (get_or b 6 0) (get_or b 7 0) (byte_low 4 (omega arith)) (byte_low 5 (omega arith)) (byte_low 6 (omega arith)) (byte_low 7 (omega arith))

  rd_low : (fields_of b).rd < 16
  rd_low = let low : get_or b 1 0 < 256 = byte_low 1 (omega arith) in omega arith

  rs_low : (fields_of b).rs < 16
  rs_low = omega arith

  of_instruction : IfSome (instruction_of (fields_of b)) IsSound
  of_instruction =
      by_fields IsSound (fields_of b) λ o size at sized test.
      record { valid = (rd_low, rs_low, (and_parts ((fields_of b).zero == 0) _ test).1); fits = signed_fits (fields_of b).imm }

  -- what eight bytes decode to is an instruction of the table, and they are its spelling
  pub decoded : IfSome (decode_of b) (IsDecoded b)
  unfolding decode_of
  decoded = both (instruction_of (fields_of b)) of_instruction (spelled_by b (fields_of b) imm_low (eight b (fields_of b).imm l imm_bytes))
    where
      both : (o : Option Instr) → IfSome o IsSound → AreSpelled o b → IfSome o (IsDecoded b)
      both None read is = tt
      both (Some i) read is = record { valid = read.valid; fits = read.fits; spelled = is }
