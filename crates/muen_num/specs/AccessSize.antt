-- Sizes of access.
use Rattle.std.specs.Prelude.{ℕ}
use Rattle.muen_num.specs.declared.access.AccessSize.{AccessSize}
use Rattle.muen_num.specs.declared.access.AccessSize.TheVariants.{One, Two, Four, Eight}

-- the number of bytes
abbrev pub bytes_of : AccessSize → ℕ
bytes_of One = 1
bytes_of Two = 2
bytes_of Four = 4
bytes_of Eight = 8
