-- Accesses of memory and the bits of the rights that they need.
use Rattle.std.specs.Prelude.{ℕ}
use Rattle.muen_num.specs.declared.access.AccessKind.{AccessKind}
use Rattle.muen_num.specs.declared.access.AccessKind.TheVariants.{Read, Write, Fetch}

-- the bit of the right that a kind of access needs (Intel SDM volume 3, EPT entries)
abbrev pub kind_bit : AccessKind → ℕ
kind_bit Read = 1
kind_bit Write = 2
kind_bit Fetch = 4
