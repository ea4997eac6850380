-- A step keeps words, it stores where it looked, and it writes MSRs that may be written.
use Rattle.std.proofs.Common.{◌≡◌, ◌∙◌, ℕ, ◌+◌, ◌*◌, ◌/◌, ◌%◌, ◌^◌, ◌<◌, ◌==◌, Bool, true, false, List, Option, Some, None, refl, subst, arith, length-set, w32, w64}
use Rattle.std.specs.Prelude.{ℤ, IfSome, not, nat_lt}
use Rattle.std.specs.Int.{cast_unsigned, to_le_bytes}
use Rattle.std.specs.Int.RustNames.{FitsSigned}
use Rattle.std.specs.Int.Bits.{and_lt}
use Rattle.std.proofs.lemmas.List.Elements.{All-set}
use Rattle.std.proofs.lemmas.Nat.{or_lt, xor_lt}
use Rattle.std.proofs.Math.Nat.{div-le_self}
use Rattle.muen_num.specs.AccessSize.{bytes_of as count}
use Rattle.muen_num.specs.declared.access.AccessKind.TheVariants.{Read, Write, Fetch}
use Rattle.muen_num.specs.declared.access.AccessSize.{AccessSize}
use Rattle.muen_num.specs.declared.limits.TheConstants.{GUEST_END}
use Rattle.state_page.specs.Memory.{le_bytes}
use Rattle.state_page.specs.declared.state.SubjectState.{SubjectState}
use Rattle.guest_isa.specs.GuestIsa.{fields_of, decode_of, register, advanced, with_register, extended, passed, set_register, jumped, jumped_if, effect_by, effect_of}
use Rattle.guest_isa.specs.declared.instr.Asked.{Asked}
use Rattle.guest_isa.specs.declared.instr.Instr.{Instr}
use Rattle.guest_isa.specs.declared.opcode.Opcode.{Opcode}
use Rattle.guest_isa.specs.declared.opcode.Opcode.TheVariants.{Li, Lih, Mov, Add, Sub, And, Or, Xor, Shl, Shr, Jmp, Jz, Jnz, Jb, Wrmsr, Sti, Cli, Setv, Reti}
use Rattle.guest_isa.specs.declared.instr.Wish.{Wish}
use Rattle.guest_isa.specs.declared.instr.Wish.TheVariants.{Nothing, Set as Sets, Load as Loads, Store as Stores, PortIn, PortOut, ReadMsr, WriteMsr, Tick, Call as Calls, Halt as Halts}
use Rattle.guest_isa.specs.Step.{World, Stored, MsrWrite, Answer, went_on, exits, sets, reach_of, word_at, loaded, stored_to, port_read, port_written, msr_read, msr_written, performed, executed, fetched, step}
use Rattle.guest_isa.specs.declared.end.Change.{Change}
use Rattle.guest_isa.specs.declared.reach.Reach.{Reach}
use Rattle.guest_isa.specs.declared.reach.Reach.TheVariants.{Reached, Refused}
use Rattle.guest_isa.specs.Words.{IsWord, FitsState}
use Rattle.guest_isa.proofs.Spelled.{by_fields, signed_fits, unsigned_low, unsigned_word}
use Rattle.guest_isa.proofs.Alike.{reach_both}
use Rattle.guest_isa.proofs.StateLaws.{word_below}

-- what the world tells are words
pub record FitsWorld {X : Type 0} (w : World X) : Type 0 where
  pub tick : IsWord w.tick
  pub msr : (index v : ℕ) → w.msr index ≡ Some v → IsWord v
  pub input : (port : ℕ) (size : AccessSize) (v : ℕ) → w.input port (count size) ≡ Some v → IsWord v

-- what is stored was looked up: an aligned access of this size, at an address of the guest
pub record IsStored {X : Type 0} (w : World X) (st : Stored X) : Type 0 where
  pub addr : ℕ
  pub size : AccessSize
  pub value : ℕ
  pub below : addr < GUEST_END
  pub aligned : addr % count size ≡ 0
  pub looked : w.look Write addr ≡ Reached st.target st.offset
  pub bytes : st.bytes ≡ le_bytes (count size) value

-- an MSR that is written may be written, and its value is a word
pub record IsWritten {X : Type 0} (w : World X) (m : MsrWrite) : Type 0 where
  pub allowed : w.sets_msr m.index ≡ true
  pub word : IsWord m.value

-- the immediate of what is decoded has 32 bits
decoded : (b : List ℕ) → IfSome (decode_of b) (λ i. FitsSigned w32 i.imm)
unfolding decode_of
decoded b = let f = fields_of b in by_fields (λ i. FitsSigned w32 i.imm) f λ o size at sized test. signed_fits f.imm

-- ---- effects

abbrev FitsWish : Wish → Type 0
FitsWish (WriteMsr index value) = IsWord value
FitsWish _ = Unit {0}

-- a state after an instruction and its wish have words
record FitsAsked (a : Asked) : Type 0 where
  pub after : FitsState a.after
  pub wish : FitsWish a.wish

register_fits : (s : SubjectState) (r : ℕ) → FitsState s → IsWord (register s r)
register_fits s r f = word_below s.regs r f.regs

with_register_fits : (s : SubjectState) (reg value : ℕ) → IsWord value → FitsState s → FitsState (with_register s reg value)
with_register_fits s reg value v f = record {
  many = length-set s.regs reg value ∙ f.many;
  regs = All-set IsWord s.regs reg value v f.regs;
  pc = f.pc;
  epc = f.epc;
  vbase = f.vbase;
}

advanced_fits : (s : SubjectState) → FitsState s → FitsState (advanced s)
advanced_fits s f = record { many = f.many; regs = f.regs; pc = omega arith; epc = f.epc; vbase = f.vbase }

exited_fits : (s : SubjectState) (exited : Bool) → FitsState s → FitsState (record s { exited = exited })
exited_fits s exited f = record { many = f.many; regs = f.regs; pc = f.pc; epc = f.epc; vbase = f.vbase }

interrupts_fit : (s : SubjectState) (interrupts : Bool) → FitsState s → FitsState (record s { interrupts = interrupts })
interrupts_fit s interrupts f = record { many = f.many; regs = f.regs; pc = f.pc; epc = f.epc; vbase = f.vbase }

passed_fits : (s : SubjectState) (wish : Wish) → FitsState s → FitsWish wish → FitsAsked (passed s wish)
passed_fits s wish f g = record { after = advanced_fits s f; wish = g }

set_fits : (s : SubjectState) (reg value : ℕ) → IsWord value → FitsState s → FitsAsked (set_register s reg value)
set_fits s reg value v f = record { after = advanced_fits (with_register s reg value) (with_register_fits s reg value v f); wish = tt }

jumped_fits : (s : SubjectState) (imm : ℤ) → FitsState s → FitsAsked (jumped s imm)
jumped_fits s imm f =
    record { after = record { many = f.many; regs = f.regs; pc = omega arith; epc = f.epc; vbase = f.vbase }; wish = tt }

jumped_if_fits : (c : Bool) (s : SubjectState) (imm : ℤ) → FitsState s → FitsAsked (jumped_if c s imm)
jumped_if_fits true s imm f = jumped_fits s imm f
jumped_if_fits false s imm f = passed_fits s Nothing f tt

joined_word : (low high : ℕ) → high < 2 ^ 32 → IsWord (low % 2 ^ 32 + high * 2 ^ 32)
joined_word low high h = omega (arith, h)

shifted_word : (n m : ℕ) → IsWord n → IsWord (n / m)
shifted_word n m h = omega (arith, h, div-le_self n m)

effect_fits : (o : Opcode) (s : SubjectState) (i : Instr) → FitsSigned w32 i.imm → FitsState s → FitsAsked (effect_by o s i)
effect_fits Li s i h f = set_fits s i.rd (extended i.imm) (unsigned_word i.imm h) f
effect_fits Lih s i h f = set_fits s i.rd _ (joined_word (register s i.rd) (cast_unsigned w32 i.imm) (unsigned_low i.imm h)) f
effect_fits Mov s i h f = set_fits s i.rd (register s i.rs) (register_fits s i.rs f) f
effect_fits Add s i h f = set_fits s i.rd _ (omega arith) f
effect_fits Sub s i h f = set_fits s i.rd _ (omega arith) f
effect_fits And s i h f = set_fits s i.rd _ (and_lt 64 (register s i.rd) (register s i.rs) (register_fits s i.rd f) (register_fits s i.rs f)) f
effect_fits Or s i h f = set_fits s i.rd _ (or_lt 64 (register s i.rd) (register s i.rs) (register_fits s i.rd f) (register_fits s i.rs f)) f
effect_fits Xor s i h f = set_fits s i.rd _ (xor_lt 64 (register s i.rd) (register s i.rs) (register_fits s i.rd f) (register_fits s i.rs f)) f
effect_fits Shl s i h f = set_fits s i.rd _ (omega arith) f
effect_fits Shr s i h f = set_fits s i.rd _ (shifted_word (register s i.rd) (2 ^ (register s i.rs % 64)) (register_fits s i.rd f)) f
effect_fits Jmp s i h f = jumped_fits s i.imm f
effect_fits Jz s i h f = jumped_if_fits (register s i.rd == 0) s i.imm f
effect_fits Jnz s i h f = jumped_if_fits (not (register s i.rd == 0)) s i.imm f
effect_fits Jb s i h f = jumped_if_fits (nat_lt (register s i.rd) (register s i.rs)) s i.imm f
effect_fits Wrmsr s i h f =
    passed_fits s (WriteMsr (register s i.rs % 2 ^ 32) (register s i.rd)) f (register_fits s i.rd f)
effect_fits Sti s i h f = passed_fits (record s { interrupts = true }) Nothing (interrupts_fit s true f) tt
effect_fits Cli s i h f = passed_fits (record s { interrupts = false }) Nothing (interrupts_fit s false f) tt
effect_fits Setv s i h f =
    passed_fits (record s { vbase = register s i.rs }) Nothing (record { many = f.many; regs = f.regs; pc = f.pc; epc = f.epc; vbase = register_fits s i.rs f }) tt
effect_fits Reti s i h f =
    record { after = record { many = f.many; regs = f.regs; pc = f.epc; epc = f.epc; vbase = f.vbase }; wish = tt }
-- the others write no word in it
effect_fits _ s i h f = passed_fits s _ f tt

-- ---- answers

module _ {X : Type 0} (w : World X) where
  -- the answer of a step from this state
  record IsAnswer (s : SubjectState) (a : Answer X) : Type 0 where
    pub state : FitsWorld w → FitsState s → FitsState a.state
    pub stored : IfSome a.stored (IsStored w)
    pub msr : FitsState s → IfSome a.msr (IsWritten w)

  is_plain : (s after : SubjectState) (change : Change) → (FitsWorld w → FitsState s → FitsState after) → IsAnswer s (went_on after change)
  is_plain s after change h = record { state = λ v f. exited_fits after false (h v f); stored = tt; msr = λ f. tt }

  is_exit : (s : SubjectState) (reason qualification addr call : ℕ) → IsAnswer s (exits s reason qualification addr call)
  is_exit s reason qualification addr call = record { state = λ v f. exited_fits s true f; stored = tt; msr = λ f. tt }

  is_set : (s after : SubjectState) (reg value : ℕ) → (FitsState s → FitsState after) → (FitsWorld w → IsWord value) → IsAnswer s (sets after reg value)
  is_set s after reg value h g =
      is_plain s (with_register after reg value) _ (λ v f. with_register_fits after reg value (g v) (h f))

  is_loaded : (s after : SubjectState) (reg n : ℕ) (c : Reach X) → (FitsState s → FitsState after) → IsAnswer s (loaded w.bytes s after reg n c)
  is_loaded s after reg n (Reached target offset) h = is_set s after reg (word_at n (w.bytes target) offset) h (λ v. omega arith)
  is_loaded s after reg n (Refused reason qualification addr) h = is_exit s reason qualification addr 0

  -- what an access for a store reaches
  abbrev Looked : AccessSize → ℕ → Reach X → Type 0
  Looked size addr (Reached target offset) =
      (addr < GUEST_END) × (addr % count size ≡ 0) × (w.look Write addr ≡ Reached target offset)
  Looked size addr (Refused reason qualification guest) = Unit {0}

  looked_of : (size : AccessSize) (addr : ℕ) (c : Reach X) → addr < GUEST_END → addr % count size ≡ 0 → w.look Write addr ≡ c → Looked size addr c
  looked_of size addr (Reached target offset) l a e = (l, a, e)
  looked_of size addr (Refused reason qualification guest) l a e = tt

  looked : (size : AccessSize) (addr : ℕ) → Looked size addr (reach_of w.look Write (count size) addr)
  looked size addr =
      reach_both (λ c d. Looked size addr c) w.look w.look Write (count size) addr (λ reason qualification at. tt)
      (λ aligned below. looked_of size addr (w.look Write addr) below aligned refl)

  is_stored : (s after : SubjectState) (addr : ℕ) (size : AccessSize) (value : ℕ) (c : Reach X) → Looked size addr c → (FitsState s → FitsState after) → IsAnswer s (stored_to s after addr size value c)
  is_stored s after addr size value (Reached target offset) l h = record {
    state = λ v f. exited_fits after false (h f);
    stored = record { addr = addr; size = size; value = value; below = l.0; aligned = l.1; looked = l.2; bytes = refl };
    msr = λ f. tt;
  }
  is_stored s after addr size value (Refused reason qualification guest) l h = is_exit s reason qualification guest 0

  is_port_read : (s after : SubjectState) (reg port : ℕ) (size : AccessSize) (o : Option ℕ) → (FitsWorld w → (v : ℕ) → o ≡ Some v → IsWord v) → (FitsState s → FitsState after) → IsAnswer s (port_read s after reg port size o)
  is_port_read s after reg port size (Some value) g h = is_set s after reg value h (λ v. g v value refl)
  is_port_read s after reg port size None g h = is_exit s _ _ 0 0

  is_port_written : (allowed : Bool) (s after : SubjectState) (port : ℕ) (size : AccessSize) (value : ℕ) → (FitsState s → FitsState after) → IsAnswer s (port_written allowed s after port size value)
  is_port_written true s after port size value h = is_plain s after _ (λ v f. h f)
  is_port_written false s after port size value h = is_exit s _ _ 0 0

  is_msr_read : (s after : SubjectState) (reg : ℕ) (o : Option ℕ) → (FitsWorld w → (v : ℕ) → o ≡ Some v → IsWord v) → (FitsState s → FitsState after) → IsAnswer s (msr_read s after reg o)
  is_msr_read s after reg (Some value) g h = is_set s after reg value h (λ v. g v value refl)
  is_msr_read s after reg None g h = is_exit s _ 0 0 0

  is_msr_written : (allowed : Bool) (s after : SubjectState) (index value : ℕ) → w.sets_msr index ≡ allowed → (FitsState s → IsWord value) → (FitsState s → FitsState after) → IsAnswer s (msr_written allowed s after index value)
  is_msr_written true s after index value e g h = record {
    state = λ v f. exited_fits after false (h f);
    stored = tt;
    msr = λ f. record { allowed = e; word = g f };
  }
  is_msr_written false s after index value e g h = is_exit s _ 0 0 0

  is_performed : (s after : SubjectState) (wish : Wish) → (FitsState s → FitsState after) → (FitsState s → FitsWish wish) → IsAnswer s (performed w s after wish)
  is_performed s after Nothing h g = is_plain s after _ (λ v f. h f)
  is_performed s after (Sets reg value) h g = is_plain s after _ (λ v f. h f)
  is_performed s after (Loads reg addr size) h g =
      is_loaded s after reg (count size) (reach_of w.look Read (count size) addr) h
  is_performed s after (Stores addr size value) h g =
      is_stored s after addr size value (reach_of w.look Write (count size) addr) (looked size addr) h
  is_performed s after (PortIn reg port size) h g =
      is_port_read s after reg port size (w.input port (count size)) (λ v. v.input port size) h
  is_performed s after (PortOut port size value) h g = is_port_written (w.output port (count size)) s after port size value h
  is_performed s after (ReadMsr reg index) h g = is_msr_read s after reg (w.msr index) (λ v. v.msr index) h
  is_performed s after (WriteMsr index value) h g = is_msr_written (w.sets_msr index) s after index value refl g h
  is_performed s after (Tick reg) h g = is_set s after reg w.tick h (λ v. v.tick)
  is_performed s after (Calls number) h g = is_exit s _ 0 0 number
  is_performed s after Halts h g = is_exit s _ 0 0 0

  is_executed : (s : SubjectState) (o : Option Instr) → IfSome o (λ i. FitsSigned w32 i.imm) → IsAnswer s (executed w s o)
  is_executed s None d = is_exit s _ 0 0 0
  is_executed s (Some i) d =
      is_performed s (effect_of s i).after (effect_of s i).wish (λ f. (effect_fits i.opcode s i d f).after) (λ f. (effect_fits i.opcode s i d f).wish)

  is_fetched : (s : SubjectState) (c : Reach X) → IsAnswer s (fetched w s c)
  is_fetched s (Reached target offset) =
      is_executed s (decode_of (to_le_bytes w64 (word_at 8 (w.bytes target) offset))) (decoded (to_le_bytes w64 (word_at 8 (w.bytes target) offset)))
  is_fetched s (Refused reason qualification addr) = is_exit s reason qualification addr 0

  is_answer : (s : SubjectState) → IsAnswer s (step w s)
  is_answer s = is_fetched s (reach_of w.look Fetch 8 s.pc)

  -- a step keeps words
  pub step_fits : (s : SubjectState) → FitsWorld w → FitsState s → FitsState (step w s).state
  step_fits s v f = (is_answer s).state v f

  -- what a step stores was looked up
  pub step_stored : (s : SubjectState) (st : Stored X) → (step w s).stored ≡ Some st → IsStored w st
  step_stored s st e = subst (λ o. IfSome o (IsStored w)) e (is_answer s).stored

  -- an MSR that a step writes may be written
  pub step_msr : (s : SubjectState) (m : MsrWrite) → FitsState s → (step w s).msr ≡ Some m → IsWritten w m
  step_msr s m f e = subst (λ o. IfSome o (IsWritten w)) e ((is_answer s).msr f)
