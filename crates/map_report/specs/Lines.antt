-- The word of a line.
use Rattle.std.specs.Prelude.{ℕ, List, codes}
use Rattle.map_report.specs.declared.lines.Laid.{Laid}
use Rattle.map_report.specs.declared.lines.Laid.TheVariants.{Region, Device}

abbrev pub laid_word : Laid → List ℕ
laid_word Region = codes "region"
laid_word Device = codes "device"
