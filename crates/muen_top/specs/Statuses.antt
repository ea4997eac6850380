-- The number of each status, with which the program exits.
use Rattle.std.specs.Prelude.{ℕ}
use Rattle.muen_top.specs.declared.status.Status.{Status}
use Rattle.muen_top.specs.declared.status.Status.TheVariants.{Done, Usage, PolicyRefused, FileMissing, FileFault, ImageRefused, RecordRefused, OutputFault, NoMemory, NotSound, DmaRefused}

abbrev pub code_of : Status → ℕ
code_of Done = 0
code_of Usage = 1
code_of PolicyRefused = 2
code_of FileMissing = 3
code_of FileFault = 4
code_of ImageRefused = 5
code_of RecordRefused = 6
code_of OutputFault = 7
code_of NoMemory = 8
code_of NotSound = 9
code_of DmaRefused = 10
