-- One step of a subject in any world: the faults of a turn in their order, and what an instruction does where it has none (this
-- project's own machine; reasons and qualifications of exits as in Intel SDM volume 3, "Basic VM-Exit Information"). A step
-- answers what changes, and changes nothing.
use Rattle.std.specs.Prelude.{ℕ, ◌+◌, ◌-◌, ◌*◌, ◌%◌, ◌^◌, ◌==◌, Bool, true, false, nat_le, if◌then◌else◌, List, take, drop, Option, Some, None}
use Rattle.std.specs.Int.{w64, to_le_bytes}
use Rattle.muen_num.specs.Access.{kind_bit}
use Rattle.muen_num.specs.AccessSize.{bytes_of as count}
use Rattle.muen_num.specs.declared.limits.TheConstants.{EXIT_EPT_VIOLATION, EXIT_EXCEPTION, EXIT_HLT, EXIT_IO, EXIT_RDMSR, EXIT_VMCALL, EXIT_WRMSR, GUEST_END}
use Rattle.muen_num.specs.declared.access.AccessKind.{AccessKind}
use Rattle.muen_num.specs.declared.access.AccessKind.TheVariants.{Read, Write, Fetch}
use Rattle.muen_num.specs.declared.access.AccessSize.{AccessSize}
use Rattle.state_page.specs.Memory.{le_number, le_bytes}
use Rattle.state_page.specs.declared.state.SubjectState.{SubjectState}
use Rattle.guest_isa.specs.GuestIsa.{decode_of, effect_of, with_register}
use Rattle.guest_isa.specs.declared.instr.Instr.{Instr}
use Rattle.guest_isa.specs.declared.instr.Wish.{Wish}
use Rattle.guest_isa.specs.declared.instr.Wish.TheVariants.{Nothing, Set as Sets, Load as Loads, Store as Stores, PortIn, PortOut, ReadMsr, WriteMsr, Tick, Call as Calls, Halt as Halts}
use Rattle.guest_isa.specs.declared.reach.Reach.{Reach}
use Rattle.guest_isa.specs.declared.reach.Reach.TheVariants.{Reached, Refused}
use Rattle.guest_isa.specs.declared.end.Change.{Change}
use Rattle.guest_isa.specs.declared.end.Change.TheVariants.{Plain, Set, Stored as Wrote, Out, WroteMsr}
use Rattle.guest_isa.specs.declared.end.StepEnd.{StepEnd}
use Rattle.guest_isa.specs.declared.end.StepEnd.TheVariants.{Ran, Exit}

-- ---- what a step asks of the world, whatever targets are called there

pub record World (X : Type 0) : Type 0 where
  -- where an access of this kind leads at a guest address below the end of guest addresses
  pub look : AccessKind → ℕ → Reach X
  -- the bytes of a target
  pub bytes : X → List ℕ
  -- what is read of so many ports from this one on, unless that exits
  pub input : ℕ → ℕ → Option ℕ
  -- whether so many ports from this one on may be written
  pub output : ℕ → ℕ → Bool
  -- the MSR of this index, unless reading it exits
  pub msr : ℕ → Option ℕ
  -- whether the MSR of this index may be written
  pub sets_msr : ℕ → Bool
  pub tick : ℕ

-- ---- what a step answers

-- bytes that are written over those of a target from an offset on
pub record Stored (X : Type 0) : Type 0 where
  pub target : X
  pub offset : ℕ
  pub bytes : List ℕ

-- an MSR that is written, and its value
pub record MsrWrite : Type 0 where
  pub index : ℕ
  pub value : ℕ

-- the state, how the step ended, and what is written in memory and to MSRs
pub record Answer (X : Type 0) : Type 0 where
  pub state : SubjectState
  pub end : StepEnd
  pub stored : Option (Stored X)
  pub msr : Option MsrWrite

-- without an exit
abbrev pub went_on : {X : Type 0} → SubjectState → Change → Answer X
went_on after change = record { state = record after { exited = false }; end = Ran change; stored = None; msr = None }

-- with an exit: `pc` stays, and the kernel acts
abbrev pub exits : {X : Type 0} → SubjectState → ℕ → ℕ → ℕ → ℕ → Answer X
exits s reason qualification addr call =
    record { state = record s { exited = true }; end = Exit reason qualification addr call; stored = None; msr = None }

abbrev pub faulted : {X : Type 0} → SubjectState → ℕ → ℕ → ℕ → Answer X
faulted s reason qualification addr = exits s reason qualification addr 0

-- a register is loaded with this value
abbrev pub sets : {X : Type 0} → SubjectState → ℕ → ℕ → Answer X
sets after reg value = went_on (with_register after reg value) (Set reg value)

-- ---- memory

-- the faults of an access in their order: an address that is no multiple of the size, one from the end of guest addresses up,
-- and what the world says of it
abbrev pub reach_of : {X : Type 0} → (AccessKind → ℕ → Reach X) → AccessKind → ℕ → ℕ → Reach X
reach_of look kind size addr =
    if addr % size == 0
    then (if nat_le GUEST_END addr then Refused EXIT_EPT_VIOLATION (kind_bit kind) addr else look kind addr)
    else Refused EXIT_EXCEPTION 0 0

-- the number of so many bytes from an offset on, the lowest first, as a word of 64 bits
abbrev pub word_at : ℕ → List ℕ → ℕ → ℕ
word_at n bytes offset = le_number (take n (drop offset bytes)) % 2 ^ 64

abbrev pub loaded : {X : Type 0} → (X → List ℕ) → SubjectState → SubjectState → ℕ → ℕ → Reach X → Answer X
loaded bytes s after reg size (Reached target offset) = sets after reg (word_at size (bytes target) offset)
loaded bytes s after reg size (Refused reason qualification addr) = faulted s reason qualification addr

abbrev pub stored_to : {X : Type 0} → SubjectState → SubjectState → ℕ → AccessSize → ℕ → Reach X → Answer X
stored_to s after addr size value (Reached target offset) = record {
  state = record after { exited = false };
  end = Ran (Wrote size addr value);
  stored = Some (record { target = target; offset = offset; bytes = le_bytes (count size) value });
  msr = None;
}
stored_to s after addr size value (Refused reason qualification guest) = faulted s reason qualification guest

-- ---- ports

-- the qualification of a port access: the size less one, bit 3 for input, the port from bit 16 on
abbrev pub port_qualification : AccessSize → Bool → ℕ → ℕ
port_qualification size input port = (count size - 1) + (if input then 8 else 0) + 65536 * port

abbrev pub port_read : {X : Type 0} → SubjectState → SubjectState → ℕ → ℕ → AccessSize → Option ℕ → Answer X
port_read s after reg port size (Some value) = sets after reg value
port_read s after reg port size None = faulted s EXIT_IO (port_qualification size true port) 0

abbrev pub port_written : {X : Type 0} → Bool → SubjectState → SubjectState → ℕ → AccessSize → ℕ → Answer X
port_written allowed s after port size value =
    if allowed then went_on after (Out size port value) else faulted s EXIT_IO (port_qualification size false port) 0

-- ---- MSRs

abbrev pub msr_read : {X : Type 0} → SubjectState → SubjectState → ℕ → Option ℕ → Answer X
msr_read s after reg (Some value) = sets after reg value
msr_read s after reg None = faulted s EXIT_RDMSR 0 0

abbrev pub msr_written : {X : Type 0} → Bool → SubjectState → SubjectState → ℕ → ℕ → Answer X
msr_written allowed s after index value =
    if allowed
    then record {
      state = record after { exited = false };
      end = Ran (WroteMsr index value);
      stored = None;
      msr = Some (record { index = index; value = value });
    }
    else faulted s EXIT_WRMSR 0 0

-- ---- one instruction

-- its wish is met, or it exits
abbrev pub performed : {X : Type 0} → World X → SubjectState → SubjectState → Wish → Answer X
performed w s after Nothing = went_on after Plain
performed w s after (Sets reg value) = went_on after (Set reg value)
performed w s after (Loads reg addr size) = loaded w.bytes s after reg (count size) (reach_of w.look Read (count size) addr)
performed w s after (Stores addr size value) = stored_to s after addr size value (reach_of w.look Write (count size) addr)
performed w s after (PortIn reg port size) = port_read s after reg port size (w.input port (count size))
performed w s after (PortOut port size value) = port_written (w.output port (count size)) s after port size value
performed w s after (ReadMsr reg index) = msr_read s after reg (w.msr index)
performed w s after (WriteMsr index value) = msr_written (w.sets_msr index) s after index value
performed w s after (Tick reg) = sets after reg w.tick
performed w s after (Calls number) = exits s EXIT_VMCALL 0 0 number
performed w s after Halts = faulted s EXIT_HLT 0 0

-- bytes outside the table of instructions are an exception
abbrev pub executed : {X : Type 0} → World X → SubjectState → Option Instr → Answer X
executed w s None = faulted s EXIT_EXCEPTION 0 0
executed w s (Some i) = performed w s (effect_of s i).after (effect_of s i).wish

abbrev pub fetched : {X : Type 0} → World X → SubjectState → Reach X → Answer X
fetched w s (Reached target offset) = executed w s (decode_of (to_le_bytes w64 (word_at 8 (w.bytes target) offset)))
fetched w s (Refused reason qualification addr) = faulted s reason qualification addr

-- **a step**: the eight bytes at `pc` are fetched and done
abbrev pub step : {X : Type 0} → World X → SubjectState → Answer X
step w s = fetched w s (reach_of w.look Fetch 8 s.pc)
