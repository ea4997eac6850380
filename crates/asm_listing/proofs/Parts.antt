-- What stands behind an instruction's word reads as it was printed, part by part.
use Rattle.std.proofs.Common.{◌≡◌, ℕ, zero, suc, ◌<◌, true, false, ℤ, pos, negsuc, List, [], ◌∷◌, ◌++◌, length, Result, Ok, refl, ap, sym, subst, ◌∙◌, w32}
use Rattle.std.specs.Prelude.{codes, nat_le}
use Rattle.std.specs.Int.RustNames.{FitsSigned}
use Rattle.std.specs.List.{flat_map}
use Rattle.std.proofs.lemmas.Bool.{false≢true}
use Rattle.muen_num.specs.AccessSize.{bytes_of}
use Rattle.muen_num.specs.declared.access.AccessSize.{AccessSize}
use Rattle.muen_num.specs.declared.access.AccessSize.TheVariants.{One, Two, Four, Eight}
use Rattle.guest_isa.specs.GuestIsa.{IsSmall, IsValid, instr, instruction_named, named}
use Rattle.guest_isa.specs.declared.instr.Instr.{Instr}
use Rattle.guest_isa.specs.declared.opcode.Opcode.{Opcode}
use Rattle.guest_isa.specs.declared.opcode.Shape.{Shape}
use Rattle.guest_isa.specs.declared.opcode.Shape.TheVariants.{Alone, Immediate, High, Pair, Memory, PortRead, PortWrite, Destination, Source, Jump, JumpIf, JumpBelow}
use Rattle.text_words.specs.Steps.{◌>>=◌, ◌>>◌}
use Rattle.asm_text.specs.Layout.{SymbolTable}
use Rattle.asm_text.specs.Meaning.{sum_of}
use Rattle.asm_text.specs.Parts.{parts_of}
use Rattle.asm_text.specs.Reading.{keyword, line_bytes_left, no_operands, passed, port_size, read_part, read_parts, register_token, signed_terms, size, small}
use Rattle.asm_text.specs.Tokens.{Tokens, end_with, word_goes_on, tokens_of}
use Rattle.asm_text.specs.declared.fault.LineError.{LineError}
use Rattle.asm_text.specs.declared.fault.Want.TheVariants.{Comma as CommaWant, At as AtWant, To as ToWant, Port as PortWant, Size as SizeWant}
use Rattle.asm_text.specs.declared.part.Part.{Part}
use Rattle.asm_text.specs.declared.part.Part.TheVariants.{Rd, Rs, Imm, Displacement, Size, PortSize, Comma, At, To, Port}
use Rattle.asm_text.specs.declared.statement.Operands.{Operands}
use Rattle.asm_text.specs.declared.statement.Value.{Value}
use Rattle.asm_text.proofs.TokenLaws.{mark_first}
use Rattle.asm_listing.specs.Source.{displacement_text, part_text, register_text, size_text}
use Rattle.asm_listing.proofs.Values.{IsLast, IsUnmarked, displacement_read, register_read, signed_read, signed_unmarked, unmarked_text}
use Rattle.asm_listing.proofs.Words.{register_word, word_by, word_parted}

abbrev pub parts_text : Instr → List Part → List ℕ
parts_text i ps = flat_map (part_text i) ps

-- ---- what parts say of an instruction

abbrev said : Instr → Part → Instr → Instr
said i Rd x = record x { rd = i.rd }
said i Rs x = record x { rs = i.rs }
said i Imm x = record x { imm = i.imm }
said i Displacement x = record x { imm = i.imm }
said i Size x = record x { size = i.size }
said i PortSize x = record x { size = i.size }
said i _ x = x

abbrev pub all_said : Instr → List Part → Instr → Instr
all_said i [] x = x
all_said i (p ∷ ps) x = all_said i ps (said i p x)

said_by : (size : AccessSize) (s : Shape) (o : Opcode) (rd rs : ℕ) (imm : ℤ) → nat_le (bytes_of size) (named s).most ≡ true
    → all_said (instr o rd rs size imm) (parts_of s) (instr o 0 0 One (pos 0)) ≡ instruction_named (named s) o rd rs size imm
said_by One Alone o rd rs imm h = refl
said_by One _ o rd rs imm h = refl
said_by Two Alone o rd rs imm h = refl
said_by Two _ o rd rs imm h = refl
said_by Four Alone o rd rs imm h = refl
said_by Four _ o rd rs imm h = refl
said_by Eight PortRead o rd rs imm h = absurd (false≢true h)
said_by Eight PortWrite o rd rs imm h = absurd (false≢true h)
said_by Eight _ o rd rs imm h = refl

-- the parts of a shape say the fields that it names
pub shape_said : (i : Instr) (s : Shape) → nat_le (bytes_of i.size) (named s).most ≡ true
    → all_said i (parts_of s) (instr i.opcode 0 0 One (pos 0)) ≡ instruction_named (named s) i.opcode i.rd i.rs i.size i.imm
shape_said i s h = said_by i.size s i.opcode i.rd i.rs i.imm h

-- ---- parts that read as they were printed: a number stands last, and an access of a port is small

abbrev IsReadable : Instr → Part → List Part → Type 0
IsReadable i Imm ps = ps ≡ []
IsReadable i Displacement ps = ps ≡ []
IsReadable i PortSize ps = IsSmall i.size
IsReadable i _ ps = Unit {0}

abbrev AreReadable : Instr → List Part → Type 0
AreReadable i [] = Unit {0}
AreReadable i (p ∷ ps) = IsReadable i p ps × AreReadable i ps

few_bytes : (size : AccessSize) → nat_le (bytes_of size) 4 ≡ true → IsSmall size
few_bytes One h = tt
few_bytes Two h = tt
few_bytes Four h = tt
few_bytes Eight h = absurd (false≢true h)

pub shape_readable : (i : Instr) (s : Shape) → nat_le (bytes_of i.size) (named s).most ≡ true → AreReadable i (parts_of s)
shape_readable i Alone h = tt
shape_readable i Immediate h = (tt, (tt, (refl, tt)))
shape_readable i High h = (tt, (tt, (refl, tt)))
shape_readable i Pair h = (tt, (tt, (tt, tt)))
shape_readable i Memory h = (tt, (tt, (tt, (tt, (tt, (refl, tt))))))
shape_readable i PortRead h = (tt, (tt, (few_bytes i.size h, (tt, (tt, (tt, (refl, tt)))))))
shape_readable i PortWrite h = (tt, (tt, (few_bytes i.size h, (tt, (tt, (tt, (refl, tt)))))))
shape_readable i Destination h = (tt, tt)
shape_readable i Source h = (tt, tt)
shape_readable i Jump h = (refl, tt)
shape_readable i JumpIf h = (tt, (tt, (refl, tt)))
shape_readable i JumpBelow h = (tt, (tt, (tt, (tt, (refl, tt)))))

-- ---- sizes

size_read : (n : AccessSize) (rest : List ℕ) → word_goes_on rest ≡ false → size (tokens_of (size_text n ++ rest)) ≡ Ok (n, tokens_of rest)
unfolding tokens_of size keyword
size_read One rest ends = ap (λ ts. keyword (codes "byte") SizeWant ts >>= λ ts. Ok (One, ts)) (word_parted (codes "byte") rest (word_by (codes "byte") refl) ends)
size_read Two rest ends = ap (λ ts. keyword (codes "bytes") SizeWant ts >>= λ ts. Ok (Two, ts)) (word_parted (codes "bytes") rest (word_by (codes "bytes") refl) ends)
size_read Four rest ends = ap (λ ts. keyword (codes "bytes") SizeWant ts >>= λ ts. Ok (Four, ts)) (word_parted (codes "bytes") rest (word_by (codes "bytes") refl) ends)
size_read Eight rest ends = ap (λ ts. keyword (codes "bytes") SizeWant ts >>= λ ts. Ok (Eight, ts)) (word_parted (codes "bytes") rest (word_by (codes "bytes") refl) ends)

small_passed : {B : Type 0} (left : ℕ) (n : AccessSize) (r : Result B LineError) → IsSmall n → (small left n >> r) ≡ r
small_passed left One r h = refl
small_passed left Two r h = refl
small_passed left Four r h = refl
small_passed left Eight r h = absurd h

port_size_read : (n : AccessSize) (rest : List ℕ) → IsSmall n → word_goes_on rest ≡ false → port_size (tokens_of (size_text n ++ rest)) ≡ Ok (n, tokens_of rest)
unfolding port_size
port_size_read n rest few ends =
    let left = line_bytes_left (tokens_of (size_text n ++ rest)) in
    ap (λ (r : Result (AccessSize × Tokens) LineError). r >>= λ x. small left x.0 >> Ok (x.0, x.1)) (size_read n rest ends)
    ∙ small_passed left n (Ok (n, tokens_of rest)) few

-- ---- one part behind another

-- operands that say what an instruction says
pub record Says (o : Operands) (x : Instr) : Type 0 where
  pub rd : o.rd ≡ x.rd
  pub rs : o.rs ≡ x.rs
  pub size : o.size ≡ x.size
  pub sum : (names : SymbolTable) → sum_of names o.value.terms ≡ Ok (record { number = x.imm; labels = pos 0 })

pub nothing_said : (o : Opcode) → Says no_operands (instr o 0 0 One (pos 0))
unfolding sum_of
nothing_said o = record { rd = refl; rs = refl; size = refl; sum = λ names. refl }

displacement_ends : (z : ℤ) (rest : List ℕ) → word_goes_on rest ≡ false → word_goes_on (displacement_text z ++ rest) ≡ false
displacement_ends (pos zero) rest h = h
displacement_ends (pos (suc n)) rest h = refl
displacement_ends (negsuc n) rest h = refl

-- no word goes on in a part
pub parts_end : (i : Instr) (ps : List Part) → word_goes_on (parts_text i ps) ≡ false
parts_end i [] = refl
parts_end i (Displacement ∷ ps) = displacement_ends i.imm (parts_text i ps) (parts_end i ps)
parts_end i (_ ∷ ps) = refl

nothing_follows : IsLast (tokens_of [])
unfolding tokens_of signed_terms
nothing_follows = refl

-- a part reads as it was printed, and says its field
record PartRead (i : Instr) (p : Part) (ps : List Part) (o : Operands) (x : Instr) : Type 0 where
  read : Operands
  is : read_part p o (tokens_of (part_text i p ++ parts_text i ps)) ≡ Ok (read, tokens_of (parts_text i ps))
  says : Says read (said i p x)

-- all parts, up to the end of the line
pub record PartsRead (i : Instr) (ps : List Part) (o : Operands) (x : Instr) : Type 0 where
  pub read : Operands
  pub is : read_parts ps o (tokens_of (parts_text i ps)) ≡ Ok (read, end_with 0)
  pub says : Says read (all_said i ps x)

module _ (i : Instr) (v : IsValid i) (fits : FitsSigned w32 i.imm) where
  last_of : (ps : List Part) → ps ≡ [] → IsLast (tokens_of (parts_text i ps))
  last_of ps e = subst (λ ps. IsLast (tokens_of (parts_text i ps))) (sym e) nothing_follows

  register_parted : (r : ℕ) (rest : List ℕ) → r < 16 → word_goes_on rest ≡ false → register_token (tokens_of (register_text r ++ rest)) ≡ Ok (r, tokens_of rest)
  register_parted r rest h ends =
      ap register_token (word_parted (register_text r) rest (register_word r h) ends) ∙ register_read (length (register_text r ++ rest)) r (tokens_of rest) h

  part_read : (p : Part) (ps : List Part) (o : Operands) (x : Instr) → IsReadable i p ps → Says o x → PartRead i p ps o x
  unfolding tokens_of read_part keyword
  part_read Rd ps o x h s = record {
    read = record o { rd = i.rd };
    is = ap (λ (r : Result (ℕ × Tokens) LineError). r >>= λ y. Ok (record o { rd = y.0 }, y.1)) (register_parted i.rd (parts_text i ps) v.0 (parts_end i ps));
    says = record { rd = refl; rs = s.rs; size = s.size; sum = s.sum };
  }
  part_read Rs ps o x h s = record {
    read = record o { rs = i.rs };
    is = ap (λ (r : Result (ℕ × Tokens) LineError). r >>= λ y. Ok (record o { rs = y.0 }, y.1)) (register_parted i.rs (parts_text i ps) v.1 (parts_end i ps));
    says = record { rd = s.rd; rs = refl; size = s.size; sum = s.sum };
  }
  part_read Imm ps o x h s =
      let r = signed_read (parts_text i ps) (parts_end i ps) (last_of ps h) i.imm fits in
      record {
        read = record o { value = r.read };
        is = ap (λ (y : Result (Value × Tokens) LineError). y >>= λ y. Ok (record o { value = y.0 }, y.1)) r.is;
        says = record { rd = s.rd; rs = s.rs; size = s.size; sum = r.sum };
      }
  part_read Displacement ps o x h s =
      let r = displacement_read (parts_text i ps) (parts_end i ps) (last_of ps h) i.imm fits in
      record {
        read = record o { value = r.read };
        is = ap (λ (y : Result (Value × Tokens) LineError). y >>= λ y. Ok (record o { value = y.0 }, y.1)) r.is;
        says = record { rd = s.rd; rs = s.rs; size = s.size; sum = r.sum };
      }
  part_read Size ps o x h s = record {
    read = record o { size = i.size };
    is = ap (λ (y : Result (AccessSize × Tokens) LineError). y >>= λ y. Ok (record o { size = y.0 }, y.1)) (size_read i.size (parts_text i ps) (parts_end i ps));
    says = record { rd = s.rd; rs = s.rs; size = refl; sum = s.sum };
  }
  part_read PortSize ps o x h s = record {
    read = record o { size = i.size };
    is = ap (λ (y : Result (AccessSize × Tokens) LineError). y >>= λ y. Ok (record o { size = y.0 }, y.1)) (port_size_read i.size (parts_text i ps) h (parts_end i ps));
    says = record { rd = s.rd; rs = s.rs; size = refl; sum = s.sum };
  }
  part_read Comma ps o x h s = record { read = o; is = ap (passed (codes ",") CommaWant o) (mark_first 44 (parts_text i ps) refl refl refl); says = s }
  part_read At ps o x h s = record { read = o; is = ap (passed (codes "at") AtWant o) (word_parted (codes "at") (parts_text i ps) (word_by (codes "at") refl) (parts_end i ps)); says = s }
  part_read To ps o x h s = record { read = o; is = ap (passed (codes "to") ToWant o) (word_parted (codes "to") (parts_text i ps) (word_by (codes "to") refl) (parts_end i ps)); says = s }
  part_read Port ps o x h s = record { read = o; is = ap (passed (codes "port") PortWant o) (word_parted (codes "port") (parts_text i ps) (word_by (codes "port") refl) (parts_end i ps)); says = s }

  pub parts_read : (ps : List Part) (o : Operands) (x : Instr) → AreReadable i ps → Says o x → PartsRead i ps o x
  unfolding tokens_of read_parts
  parts_read [] o x h s = record { read = o; is = refl; says = s }
  parts_read (p ∷ ps) o x h s =
      let first = part_read p ps o x h.0 s in
      let others = parts_read ps first.read (said i p x) h.1 first.says in
      record {
        read = others.read;
        is = ap (λ (r : Result (Operands × Tokens) LineError). r >>= λ y. read_parts ps y.0 y.1) first.is ∙ others.is;
        says = others.says;
      }

  rd_first : (ps : List Part) → IsUnmarked (tokens_of (parts_text i (Rd ∷ ps)))
  unfolding tokens_of
  rd_first ps = unmarked_text (register_text i.rd) (parts_text i ps) (register_word i.rd v.0) (parts_end i ps)

  -- neither a label nor a name for a number begins with an instruction's word
  pub shape_unmarked : (s : Shape) → IsUnmarked (tokens_of (parts_text i (parts_of s)))
  unfolding tokens_of
  shape_unmarked Alone = tt
  shape_unmarked Source = unmarked_text (register_text i.rs) [] (register_word i.rs v.1) refl
  shape_unmarked Jump = signed_unmarked [] refl nothing_follows i.imm fits
  shape_unmarked Pair = rd_first (Comma ∷ Rs ∷ [])
  shape_unmarked Memory = rd_first (Comma ∷ Size ∷ At ∷ Rs ∷ Displacement ∷ [])
  shape_unmarked PortRead = rd_first (Comma ∷ PortSize ∷ At ∷ Port ∷ Rs ∷ Displacement ∷ [])
  shape_unmarked PortWrite = rd_first (Comma ∷ PortSize ∷ To ∷ Port ∷ Rs ∷ Displacement ∷ [])
  shape_unmarked Destination = rd_first []
  shape_unmarked JumpBelow = rd_first (Comma ∷ Rs ∷ Comma ∷ Imm ∷ [])
  shape_unmarked _ = rd_first (Comma ∷ Imm ∷ [])
