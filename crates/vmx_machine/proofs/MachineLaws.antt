-- As many CPUs as before.
use Rattle.std.proofs.Common.{◌≡◌, ℕ, List, length, Option, Some, None, refl}
use Rattle.machine_layout.specs.Memory.{Page}
use Rattle.vmx_machine.specs.Machine.{left_by, step_on, cpu_step, put_off_by}
use Rattle.vmx_machine.specs.declared.cpu.Cpu.{Cpu}
use Rattle.muen_num.proofs.ChangeLaws.{length_stays}

pub left_length : (cpu : ℕ) (pages : List Page) (cpus : List Cpu) (o : Option Cpu) → length (left_by cpu pages cpus o).cpus ≡ length cpus
left_length cpu pages cpus None = refl
left_length cpu pages cpus (Some u) = length_stays cpu (λ u. (put_off_by pages u u.entered).cpu) cpus

pub step_length : (cpu : ℕ) (ports : List ℕ) (tick : ℕ) (pages : List Page) (cpus : List Cpu) (o : Option Cpu) → length (step_on cpu ports tick pages cpus o).machine.cpus ≡ length cpus
step_length cpu ports tick pages cpus None = refl
step_length cpu ports tick pages cpus (Some u) = length_stays cpu (λ u. (cpu_step ports tick pages u).cpu) cpus
