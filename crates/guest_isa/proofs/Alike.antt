-- Worlds that are the same but for names step alike.
use Rattle.std.proofs.Common.{◌≡◌, ℕ, ◌%◌, ◌<◌, ◌==◌, true, false, Bool, Option, Some, None, refl, ap, ◌∙◌}
use Rattle.std.specs.Prelude.{if◌then◌else◌, nat_le}
use Rattle.std.specs.Int.{w64, to_le_bytes}
use Rattle.std.proofs.lemmas.Bool.{eqb-true, leb-false}
use Rattle.muen_num.specs.AccessSize.{bytes_of as count}
use Rattle.muen_num.specs.Access.{kind_bit}
use Rattle.muen_num.specs.declared.access.AccessKind.{AccessKind}
use Rattle.muen_num.specs.declared.access.AccessKind.TheVariants.{Read, Write, Fetch}
use Rattle.muen_num.specs.declared.access.AccessSize.{AccessSize}
use Rattle.muen_num.specs.declared.access.AccessSize.TheVariants.{Eight}
use Rattle.muen_num.specs.declared.limits.TheConstants.{EXIT_EPT_VIOLATION, EXIT_EXCEPTION, GUEST_END}
use Rattle.state_page.specs.declared.state.SubjectState.{SubjectState}
use Rattle.guest_isa.specs.GuestIsa.{decode_of, effect_of}
use Rattle.guest_isa.specs.declared.instr.Instr.{Instr}
use Rattle.guest_isa.specs.declared.instr.Wish.{Wish}
use Rattle.guest_isa.specs.declared.instr.Wish.TheVariants.{Load as Loads, Store as Stores, PortIn, PortOut, ReadMsr, WriteMsr, Tick}
use Rattle.guest_isa.specs.Named.{AreAlike, renamed_reach, renamed}
use Rattle.guest_isa.specs.Step.{World, reach_of, word_at, loaded, stored_to, port_read, port_written, msr_read, msr_written, performed, executed, fetched, step}
use Rattle.guest_isa.specs.declared.reach.Reach.{Reach}
use Rattle.guest_isa.specs.declared.reach.Reach.TheVariants.{Reached, Refused}

-- where an access leads by two looks: what relates their answers, and faults, relates the two
pub reach_both : {X Y : Type 0} (R : Reach X → Reach Y → Type 0) (a : AccessKind → ℕ → Reach X) (b : AccessKind → ℕ → Reach Y) (kind : AccessKind) (size addr : ℕ)
    → ((reason qualification at : ℕ) → R (Refused reason qualification at) (Refused reason qualification at))
    → (addr % size ≡ 0 → addr < GUEST_END → R (a kind addr) (b kind addr)) → R (reach_of a kind size addr) (reach_of b kind size addr)
reach_both R a b kind size addr refused led = by (addr % size == 0) (nat_le GUEST_END addr) refl refl
  where
    by : (fine high : Bool) → (addr % size == 0) ≡ fine → nat_le GUEST_END addr ≡ high
        → R (if fine then (if high then Refused EXIT_EPT_VIOLATION (kind_bit kind) addr else a kind addr) else Refused EXIT_EXCEPTION 0 0)
        (if fine then (if high then Refused EXIT_EPT_VIOLATION (kind_bit kind) addr else b kind addr) else Refused EXIT_EXCEPTION 0 0)
    by true true e l = refused EXIT_EPT_VIOLATION (kind_bit kind) addr
    by true false e l = led (eqb-true (addr % size) 0 e) (leb-false GUEST_END addr l)
    by false high e l = refused EXIT_EXCEPTION 0 0

module _ {X Y : Type 0} (f : X → ℕ → Y × ℕ) (a : World X) (b : World Y) (r : AreAlike f a b) where
  -- what an access reaches reads the same
  abbrev Reads : ℕ → Reach X → Type 0
  Reads n (Reached target offset) = word_at n (b.bytes (f target offset).0) (f target offset).1 ≡ word_at n (a.bytes target) offset
  Reads n (Refused reason qualification addr) = Unit {0}

  reads_of : (kind : AccessKind) (size : AccessSize) (addr : ℕ) → addr < GUEST_END → addr % count size ≡ 0 → (c : Reach X) → a.look kind addr ≡ c → Reads (count size) c
  reads_of kind size addr l h (Reached target offset) e = r.word kind addr size target offset l h e
  reads_of kind size addr l h (Refused reason qualification guest) e = tt

  abbrev IsAlike : ℕ → Reach X → Reach Y → Type 0
  IsAlike n c d = (d ≡ renamed_reach f c) × Reads n c

  reach_alike : (kind : AccessKind) (size : AccessSize) (addr : ℕ) → IsAlike (count size) (reach_of a.look kind (count size) addr) (reach_of b.look kind (count size) addr)
  reach_alike kind size addr =
      reach_both (IsAlike (count size)) a.look b.look kind (count size) addr (λ reason qualification at. (refl, tt))
      (λ aligned below. (r.look kind addr below, reads_of kind size addr below aligned (a.look kind addr) refl))

  loaded_alike : (s after : SubjectState) (reg n : ℕ) (c : Reach X) → Reads n c → loaded b.bytes s after reg n (renamed_reach f c) ≡ renamed f (loaded a.bytes s after reg n c)
  loaded_alike s after reg n (Reached target offset) e = rw e refl
  loaded_alike s after reg n (Refused reason qualification addr) e = refl

  stored_alike : (s after : SubjectState) (addr : ℕ) (size : AccessSize) (value : ℕ) (c : Reach X) → stored_to s after addr size value (renamed_reach f c) ≡ renamed f (stored_to s after addr size value c)
  stored_alike s after addr size value (Reached target offset) = refl
  stored_alike s after addr size value (Refused reason qualification guest) = refl

  port_read_alike : (s after : SubjectState) (reg port : ℕ) (size : AccessSize) (o : Option ℕ) → port_read s after reg port size o ≡ renamed f (port_read s after reg port size o)
  port_read_alike s after reg port size (Some value) = refl
  port_read_alike s after reg port size None = refl

  port_written_alike : (t : Bool) (s after : SubjectState) (port : ℕ) (size : AccessSize) (value : ℕ) → port_written t s after port size value ≡ renamed f (port_written t s after port size value)
  port_written_alike true s after port size value = refl
  port_written_alike false s after port size value = refl

  msr_read_alike : (s after : SubjectState) (reg : ℕ) (o : Option ℕ) → msr_read s after reg o ≡ renamed f (msr_read s after reg o)
  msr_read_alike s after reg (Some value) = refl
  msr_read_alike s after reg None = refl

  msr_written_alike : (t : Bool) (s after : SubjectState) (index value : ℕ) → msr_written t s after index value ≡ renamed f (msr_written t s after index value)
  msr_written_alike true s after index value = refl
  msr_written_alike false s after index value = refl

  performed_alike : (s after : SubjectState) (wish : Wish) → performed b s after wish ≡ renamed f (performed a s after wish)
  performed_alike s after (Loads reg addr size) =
      rw (reach_alike Read size addr).0 (loaded_alike s after reg (count size) (reach_of a.look Read (count size) addr) (reach_alike Read size addr).1)
  performed_alike s after (Stores addr size value) =
      rw (reach_alike Write size addr).0 (stored_alike s after addr size value (reach_of a.look Write (count size) addr))
  performed_alike s after (PortIn reg port size) =
      rw (r.input port (count size)) (port_read_alike s after reg port size (a.input port (count size)))
  performed_alike s after (PortOut port size value) =
      rw (r.output port (count size)) (port_written_alike (a.output port (count size)) s after port size value)
  performed_alike s after (ReadMsr reg index) = rw (r.msr index) (msr_read_alike s after reg (a.msr index))
  performed_alike s after (WriteMsr index value) =
      rw (r.sets_msr index) (msr_written_alike (a.sets_msr index) s after index value)
  performed_alike s after (Tick reg) = rw r.tick refl
  performed_alike s after _ = refl

  executed_alike : (s : SubjectState) (i : Option Instr) → executed b s i ≡ renamed f (executed a s i)
  executed_alike s None = refl
  executed_alike s (Some i) = performed_alike s (effect_of s i).after (effect_of s i).wish

  fetched_alike : (s : SubjectState) (c : Reach X) → Reads 8 c → fetched b s (renamed_reach f c) ≡ renamed f (fetched a s c)
  fetched_alike s (Reached target offset) e =
      ap (λ n. executed b s (decode_of (to_le_bytes w64 n))) e ∙ executed_alike s (decode_of (to_le_bytes w64 (word_at 8 (a.bytes target) offset)))
  fetched_alike s (Refused reason qualification addr) e = refl

  pub step_alike : (s : SubjectState) → step b s ≡ renamed f (step a s)
  step_alike s =
      rw (reach_alike Fetch Eight s.pc).0 (fetched_alike s (reach_of a.look Fetch 8 s.pc) (reach_alike Fetch Eight s.pc).1)
