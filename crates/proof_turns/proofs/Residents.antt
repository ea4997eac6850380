-- Whose turns a CPU takes, and who is on it.
use Rattle.std.proofs.Common.{◌≡◌, ℕ, Some}
use Rattle.std.specs.Prelude.{slice_get}
use Rattle.kernel_core.specs.Kernel.{Live}
use Rattle.vmx_machine.specs.declared.cpu.Cpu.{Cpu}
use Rattle.vmx_machine.specs.declared.cpu.Entered.{Entered}
use Rattle.proof_turns.specs.Ground.{Ground, IsSubject}

-- a subject of the CPU
pub record Resident (g : Ground) (cpu : ℕ) : Type 0 where
  pub number : ℕ
  pub is : IsSubject g number
  pub its : is.part.cpu ≡ cpu

-- one that is on it, by the kernel and by the machine
pub record Present (g : Ground) (k : Live) (cpu : ℕ) : Type 0 where
  pub who : Resident g cpu
  pub on : slice_get k.on cpu ≡ Some (Some who.number)
  pub unit : Cpu
  pub at : slice_get k.machine.cpus cpu ≡ Some unit
  pub entry : Entered
  pub entered : unit.entered ≡ Some entry
