-- What rights of a window allow, and their bits (Intel SDM volume 3, EPT entries).
use Rattle.std.specs.Prelude.{ℕ, ◌&&◌, ◌||◌, Bool, true, false, not, Option, Some, None}
use Rattle.muen_num.specs.declared.access.AccessKind.{AccessKind}
use Rattle.muen_num.specs.declared.access.AccessKind.TheVariants.{Read, Write, Fetch}
use Rattle.policy_types.specs.declared.rights.Rights.{Rights}
use Rattle.policy_types.specs.declared.rights.Rights.TheVariants.{R, Rw, Rx, Rwx}

abbrev pub may_write : Rights → Bool
may_write R = false
may_write Rw = true
may_write Rx = false
may_write Rwx = true

abbrev pub may_execute : Rights → Bool
may_execute R = false
may_execute Rw = false
may_execute Rx = true
may_execute Rwx = true

-- the first have each right of the others
abbrev pub includes : Rights → Rights → Bool
includes rights others = (may_write rights || not (may_write others)) && (may_execute rights || not (may_execute others))

-- these rights have the one that the access needs; each may read
abbrev pub allows : Rights → AccessKind → Bool
allows rights Read = true
allows rights Write = may_write rights
allows rights Fetch = may_execute rights

-- the low three bits of an EPT entry: 1 to read, 2 to write, 4 to execute
abbrev pub rights_bits : Rights → ℕ
rights_bits R = 1
rights_bits Rw = 3
rights_bits Rx = 5
rights_bits Rwx = 7

-- the rights that were found; none are no bits
abbrev pub found_bits : Option Rights → ℕ
found_bits None = 0
found_bits (Some rights) = rights_bits rights
