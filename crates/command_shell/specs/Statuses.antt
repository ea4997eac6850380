-- The number of each status, where those of a program's own have these numbers.
use Rattle.std.specs.Prelude.{ℕ}
use Rattle.command_shell.specs.declared.status.Status.{Status}
use Rattle.command_shell.specs.declared.status.Status.TheVariants.{Done, Usage, FileMissing, FileFault, OutputFault, NoMemory, Own}

abbrev pub code_of : {O : Type 0} → (O → ℕ) → Status O → ℕ
code_of number Done = 0
code_of number Usage = 1
code_of number FileMissing = 3
code_of number FileFault = 4
code_of number OutputFault = 7
code_of number NoMemory = 8
code_of number (Own status) = number status
