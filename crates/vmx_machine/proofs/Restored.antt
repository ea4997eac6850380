-- An instruction whose wish exits is taken back.
use Rattle.std.proofs.Common.{◌≡◌, ◌∙◌, ℕ, List, refl, ap}
use Rattle.machine_layout.specs.Memory.{Page}
use Rattle.state_page.specs.declared.state.SubjectState.{SubjectState}
use Rattle.guest_isa.specs.GuestIsa.{advanced, effect_of, CanExit}
use Rattle.guest_isa.specs.Step.{World, performed}
use Rattle.guest_isa.specs.declared.instr.Instr.{Instr}
use Rattle.guest_isa.specs.declared.instr.Wish.{Wish}
use Rattle.guest_isa.specs.declared.instr.Wish.TheVariants.{Nothing, Set as Sets, Load as Loads, Store as Stores, PortIn, PortOut, ReadMsr, WriteMsr, Tick, Call as Calls, Halt as Halts}
use Rattle.vmx_machine.specs.Machine.{machine_world, executed_on, performed_at}
use Rattle.vmx_machine.specs.declared.cpu.Entered.{Entered}

module _ (w : World ℕ) (before after : SubjectState) where
  by_exit : (wish : Wish) → after ≡ advanced before → performed w (record after { pc = before.pc }) after wish ≡ performed w before after wish
  by_exit wish h = ap (λ (s : SubjectState). performed w (record s { pc = before.pc }) after wish) h

  -- `pc` is all that has to be put back, where the wish can exit; where it can't, the state before isn't asked for
  restored : (wish : Wish) → (CanExit wish → after ≡ advanced before) → performed w (record after { pc = before.pc }) after wish ≡ performed w before after wish
  restored Nothing h = refl
  restored (Sets reg value) h = refl
  restored (Tick reg) h = refl
  restored (Loads reg addr size) h = by_exit (Loads reg addr size) (h tt)
  restored (Stores addr size value) h = by_exit (Stores addr size value) (h tt)
  restored (PortIn reg port size) h = by_exit (PortIn reg port size) (h tt)
  restored (PortOut port size value) h = by_exit (PortOut port size value) (h tt)
  restored (ReadMsr reg index) h = by_exit (ReadMsr reg index) (h tt)
  restored (WriteMsr index value) h = by_exit (WriteMsr index value) (h tt)
  restored (Calls number) h = by_exit (Calls number) (h tt)
  restored Halts h = by_exit Halts (h tt)

-- an instruction that is done in place, and its wish then
pub executed_in_place : (pages : List Page) (file ports : List ℕ) (tick : ℕ) (e : Entered) (i : Instr) (after : SubjectState) (wish : Wish) → after ≡ (effect_of e.state i).after → wish ≡ (effect_of e.state i).wish → (CanExit wish → after ≡ advanced e.state) → performed_at pages file ports tick e.state.pc (record e { state = after }) wish ≡ executed_on pages file ports tick e i
executed_in_place pages file ports tick e i after wish is asked passed =
    let w = machine_world pages e.control file ports tick in
    restored w e.state after wish passed
    ∙ (ap (λ (s : SubjectState). performed w e.state s wish) is
    ∙ ap (λ (v : Wish). performed w e.state (effect_of e.state i).after v) asked)
