-- The number of each status of the assembler's own.
use Rattle.std.specs.Prelude.{ℕ}
use Rattle.asm_top.specs.declared.status.AssemblerStatus.{AssemblerStatus}
use Rattle.asm_top.specs.declared.status.AssemblerStatus.TheVariants.{SourceRefused}

abbrev pub number_of : AssemblerStatus → ℕ
number_of SourceRefused = 2
