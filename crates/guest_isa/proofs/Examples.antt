-- The instruction table at work, against answers that were worked out by hand.
use Rattle.std.proofs.Common.{◌≡◌, ℕ, true, false, List, [], ◌∷◌, map, Option, Some, None, refl}
use Rattle.std.specs.Prelude.{if◌then◌else◌, nat_lt, negsuc, pos}
use Rattle.muen_num.specs.Access.{kind_bit}
use Rattle.muen_num.specs.declared.access.AccessSize.TheVariants.{One, Two, Four, Eight}
use Rattle.state_page.specs.declared.state.SubjectState.{SubjectState}
use Rattle.guest_isa.specs.GuestIsa.{decode_of, encoding_of, effect_of, instr, row_of}
use Rattle.guest_isa.specs.Step.{Answer, Stored, World, step}
use Rattle.guest_isa.specs.declared.end.Change.TheVariants.{Set as Changed, Stored as Wrote}
use Rattle.guest_isa.specs.declared.end.StepEnd.TheVariants.{Exit, Ran}
use Rattle.guest_isa.specs.declared.reach.Reach.TheVariants.{Reached, Refused}
use Rattle.guest_isa.specs.declared.opcode.Opcode.TheVariants.{Li, Lih, Sub, Shl, Shr, Load, Store, Jb, Jmp, In, Out, Rdmsr, Wrmsr, Rdtsc, Vmcall, Sti, Cli, Setv, Reti}
use Rattle.guest_isa.specs.declared.instr.Asked.{Asked}
use Rattle.guest_isa.specs.declared.instr.Instr.{Instr}
use Rattle.guest_isa.specs.declared.instr.Wish.{Wish}
use Rattle.guest_isa.specs.declared.instr.Wish.TheVariants.{Nothing, Set, Load as Loads, Store as Stores, PortIn, PortOut, ReadMsr, WriteMsr, Tick, Call}

-- ---- the spelling: bytes, and the instruction that they spell, if they spell one

bytes : List (List ℕ × Option Instr)
bytes =
    (1 ∷ 48 ∷ 0 ∷ 0 ∷ 254 ∷ 255 ∷ 255 ∷ 255 ∷ [], Some (instr Li 3 0 One (negsuc 1)))
    ∷ (11 ∷ 18 ∷ 3 ∷ 0 ∷ 16 ∷ 0 ∷ 0 ∷ 0 ∷ [], Some (instr Load 1 2 Eight (pos 16)))
    ∷ (17 ∷ 18 ∷ 2 ∷ 0 ∷ 248 ∷ 3 ∷ 0 ∷ 0 ∷ [], Some (instr In 1 2 Four (pos 1016)))
    ∷ (22 ∷ 2 ∷ 0 ∷ 0 ∷ 0 ∷ 0 ∷ 0 ∷ 0 ∷ [], Some (instr Vmcall 0 2 One (pos 0)))
    ∷ (27 ∷ 0 ∷ 0 ∷ 0 ∷ 0 ∷ 0 ∷ 0 ∷ 0 ∷ [], Some (instr Reti 0 0 One (pos 0)))
    -- a field that is set though the row doesn't name it
    ∷ (0 ∷ 1 ∷ 0 ∷ 0 ∷ 0 ∷ 0 ∷ 0 ∷ 0 ∷ [], None)
    -- a size of 16 bytes, and one of eight at a port
    ∷ (12 ∷ 18 ∷ 4 ∷ 0 ∷ 0 ∷ 0 ∷ 0 ∷ 0 ∷ [], None)
    ∷ (17 ∷ 18 ∷ 3 ∷ 0 ∷ 248 ∷ 3 ∷ 0 ∷ 0 ∷ [], None)
    -- a call names no register but the one that has its number
    ∷ (22 ∷ 18 ∷ 0 ∷ 0 ∷ 0 ∷ 0 ∷ 0 ∷ 0 ∷ [], None)
    -- past the table
    ∷ (255 ∷ 0 ∷ 0 ∷ 0 ∷ 0 ∷ 0 ∷ 0 ∷ 0 ∷ [], None)
    ∷ []

bytes_decode : map (λ (e : List ℕ × Option Instr). decode_of e.0) bytes ≡ map (λ (e : List ℕ × Option Instr). e.1) bytes
unfolding bytes decode_of row_of
bytes_decode = refl

output_spelled : encoding_of (instr Out 1 2 Two (negsuc 1)) ≡ 18 ∷ 18 ∷ 1 ∷ 0 ∷ 254 ∷ 255 ∷ 255 ∷ 255 ∷ []
unfolding encoding_of row_of
output_spelled = refl

handlers_spelled : encoding_of (instr Setv 0 15 One (pos 0)) ≡ 26 ∷ 15 ∷ 0 ∷ 0 ∷ 0 ∷ 0 ∷ 0 ∷ 0 ∷ []
unfolding encoding_of row_of
handlers_spelled = refl

-- ---- the effect: on a state with 5 in register 1, 67 in register 2 and 2^64 - 1 in register 3

state : List ℕ → ℕ → SubjectState
state front pc = record {
  regs = front;
  pc = pc;
  epc = 0;
  vbase = 0;
  interrupts = false;
  halted = false;
  stopped = false;
  exited = false;
}

before : SubjectState
before = state (0 ∷ 5 ∷ 67 ∷ 18446744073709551615 ∷ []) 4096

-- registers 1 and 3 after it, and where it goes on
after : ℕ → ℕ → ℕ → Wish → Asked
after one three pc wish = record { after = state (0 ∷ one ∷ 67 ∷ three ∷ []) pc; wish = wish }

-- nothing is changed, and this is asked for
asks : Wish → Asked
asks wish = after 5 18446744073709551615 4104 wish

effects : List (Instr × Asked)
effects =
    -- 5 - 67 wraps
    (instr Sub 1 2 One (pos 0), after 18446744073709551554 18446744073709551615 4104 (Set 1 18446744073709551554))
    -- by 67 modulo 64, which is 3
    ∷ (instr Shl 1 2 One (pos 0), after 40 18446744073709551615 4104 (Set 1 40))
    ∷ (instr Shr 3 2 One (pos 0), after 5 2305843009213693951 4104 (Set 3 2305843009213693951))
    -- the low half stays, the high half is the immediate's 32 bits
    ∷ (instr Lih 1 0 One (negsuc 0), after 18446744069414584325 18446744073709551615 4104 (Set 1 18446744069414584325))
    -- 67 - 3
    ∷ (instr Load 1 2 Two (negsuc 2), asks (Loads 1 64 Two))
    -- the two low bytes of 2^64 - 1, at an address that wraps to 1
    ∷ (instr Store 3 3 Two (pos 2), asks (Stores 1 Two 65535))
    -- unsigned: 5 is below 2^64 - 1, which isn't below 5
    ∷ (instr Jb 1 3 One (negsuc 7), after 5 18446744073709551615 4088 Nothing)
    ∷ (instr Jb 3 1 One (negsuc 7), asks Nothing)
    -- 67 - 68 is the last port
    ∷ (instr In 0 2 One (negsuc 67), asks (PortIn 0 65535 One))
    -- 2^64 - 1 + 1017 is port 1016, and two bytes of 2^64 - 1 go there
    ∷ (instr Out 3 3 Two (pos 1017), asks (PortOut 1016 Two 65535))
    -- the low 32 bits of 2^64 - 1
    ∷ (instr Rdmsr 1 3 One (pos 0), asks (ReadMsr 1 4294967295))
    ∷ (instr Wrmsr 3 2 One (pos 0), asks (WriteMsr 67 18446744073709551615))
    ∷ (instr Rdtsc 2 0 One (pos 0), asks (Tick 2))
    ∷ (instr Vmcall 0 3 One (pos 0), asks (Call 18446744073709551615))
    ∷ []

effects_are : map (λ (e : Instr × Asked). effect_of before e.0) effects ≡ map (λ (e : Instr × Asked). e.1) effects
unfolding effects before after asks state
effects_are = refl

-- a jump wraps below 0
jmp_wraps : effect_of (state [] 0) (instr Jmp 0 0 One (negsuc 7)) ≡ record { after = state [] 18446744073709551608; wish = Nothing }
unfolding state
jmp_wraps = refl

-- interrupted at 512, where the state above is the handler's
handled : SubjectState
handled = record before { epc = 512 }

-- on events, and the state after it; nothing is asked for
on_events : List (SubjectState × Instr × SubjectState)
on_events =
    (handled, instr Sti 0 0 One (pos 0), record handled { pc = 4104; interrupts = true })
    ∷ (record handled { interrupts = true }, instr Cli 0 0 One (pos 0), record handled { pc = 4104 })
    ∷ (handled, instr Setv 0 2 One (pos 0), record handled { pc = 4104; vbase = 67 })
    -- not to the next eight bytes
    ∷ (handled, instr Reti 0 0 One (pos 0), record handled { pc = 512; interrupts = true })
    ∷ []

on_events_are : map (λ (e : SubjectState × Instr × SubjectState). effect_of e.0 e.1) on_events
    ≡ map (λ (e : SubjectState × Instr × SubjectState). record { after = e.2; wish = Nothing }) on_events
unfolding on_events handled before state
on_events_are = refl

-- ---- steps: the order of their faults, and what stays. Addresses below 24 lead to three instructions, others nowhere: a load of eight
-- bytes at register 2, bytes outside the table, and a store of eight bytes of register 1 at register 2

code : List ℕ
code = 11 ∷ 18 ∷ 3 ∷ 0 ∷ 0 ∷ 0 ∷ 0 ∷ 0 ∷ 255 ∷ 1 ∷ 0 ∷ 0 ∷ 0 ∷ 0 ∷ 0 ∷ 0 ∷ 12 ∷ 18 ∷ 3 ∷ 0 ∷ 0 ∷ 0 ∷ 0 ∷ 0 ∷ []

world : World ℕ
world = record {
  look = λ kind addr. if nat_lt addr 24 then Reached 5 addr else Refused 48 (kind_bit kind) addr;
  bytes = λ target. code;
  input = λ port size. None;
  output = λ port size. false;
  msr = λ index. None;
  sets_msr = λ index. false;
  tick = 7;
}

with_two : ℕ → ℕ → SubjectState
with_two two pc = state (0 ∷ 513 ∷ two ∷ []) pc

refused : SubjectState → ℕ → ℕ → ℕ → Answer ℕ
refused s reason qualification addr =
    record { state = record s { exited = true }; end = Exit reason qualification addr 0; stored = None; msr = None }

written : Stored ℕ
written = record { target = 5; offset = 8; bytes = 1 ∷ 2 ∷ 0 ∷ 0 ∷ 0 ∷ 0 ∷ 0 ∷ 0 ∷ [] }

steps : List (SubjectState × Answer ℕ)
steps =
    -- a fetch that leads nowhere: what the bytes spell isn't asked
    (with_two 8 32, refused (with_two 8 32) 48 4 32)
    -- where a fetch leads is asked only at a multiple of eight
    ∷ (with_two 8 33, refused (with_two 8 33) 0 0 0)
    -- bytes outside the table
    ∷ (with_two 8 8, refused (with_two 8 8) 0 0 0)
    -- 255 + 256, and on
    ∷ (with_two 8 0, record { state = state (0 ∷ 511 ∷ 8 ∷ []) 8; end = Ran (Changed 1 511); stored = None; msr = None })
    -- `pc` and the register stay; a load's bit is 1
    ∷ (with_two 32 0, refused (with_two 32 0) 48 1 32)
    ∷ (with_two 33 0, refused (with_two 33 0) 0 0 0)
    -- 513 is 1 + 2 * 256
    ∷ (with_two 8 16, record { state = with_two 8 24; end = Ran (Wrote Eight 8 513); stored = Some written; msr = None })
    -- nothing is stored; a store's bit is 2
    ∷ (with_two 32 16, refused (with_two 32 16) 48 2 32)
    ∷ []

steps_are : map (λ (e : SubjectState × Answer ℕ). step world e.0) steps ≡ map (λ (e : SubjectState × Answer ℕ). e.1) steps
unfolding steps written world code with_two state refused decode_of row_of
steps_are = refl

-- addresses end at 2^48: a fetch there leads nowhere, whatever the world says
past_the_end : step (record world { look = λ kind addr. Reached 5 0 }) (with_two 8 281474976710656) ≡ refused (with_two 8 281474976710656) 48 4 281474976710656
unfolding world code with_two state refused decode_of row_of
past_the_end = refl
