-- The number of each status of the program's own.
use Rattle.std.specs.Prelude.{ℕ}
use Rattle.dma_top.specs.declared.status.DmaStatus.{DmaStatus}
use Rattle.dma_top.specs.declared.status.DmaStatus.TheVariants.{PolicyRefused, ImageRefused, RecordRefused, NotSound, TablesRefused}

abbrev pub number_of : DmaStatus → ℕ
number_of PolicyRefused = 2
number_of ImageRefused = 5
number_of RecordRefused = 6
number_of NotSound = 9
number_of TablesRefused = 10
