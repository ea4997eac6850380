-- The memory that no region has, as gaps, and the least address of one.
use Rattle.std.specs.Prelude.{◌≡◌, ℕ, ◌+◌, ◌%◌, ◌<◌, ◌==◌, ◌&&◌, Bool, true, false, List, [], ◌∷◌, ◌++◌, min, max, nat_le, nat_lt, Option, Some, None, if◌then◌else◌}
use Rattle.std.specs.List.{list_any}
use Rattle.expand_kernel.specs.thing.Region.{Region}
use Rattle.policy_lawful.specs.source.Block.{Block}
use Rattle.region_alloc.specs.Placement.{suits}
use Rattle.region_alloc.specs.declared.gaps.Gap.{Gap}
use Rattle.region_alloc.specs.declared.spot.Spot.{Spot}

-- ---- gaps

-- so many bytes from the address on lie in the gap
abbrev pub holds : Gap → ℕ → ℕ → Bool
holds g address size = nat_le g.start address && nat_le (address + size) g.end

-- a whole block
abbrev pub gap_of : Block → Gap
gap_of b = record { start = b.physical_address; end = b.physical_address + b.size }

-- the bytes from start on before end, if there are any
abbrev pub some_gap : ℕ → ℕ → List Gap
some_gap start end = if nat_lt start end then record { start = start; end = end } ∷ [] else []

-- what a region that is placed leaves of a gap, on its left and on its right
abbrev pub remaining_of : Spot → Gap → List Gap
remaining_of q g = some_gap g.start (min g.end q.address) ++ some_gap (max g.start (q.address + q.size)) g.end

-- ---- the least number

-- the number passes and none below it does, or none does
abbrev pub IsLeast : (ℕ → Bool) → Option ℕ → Type 0
IsLeast p None = (a : ℕ) → p a ≡ false
IsLeast p (Some a) = (p a ≡ true) × ((b : ℕ) → b < a → p b ≡ false)

-- a multiple of the alignment, from which on so many bytes lie in the gap
abbrev pub fits_in_gap : ℕ → ℕ → Gap → ℕ → Bool
fits_in_gap alignment size g address = (address % alignment == 0) && holds g address size

-- the region may be at this address, where these gaps are free
abbrev pub has_room : List Gap → Region → ℕ → Bool
has_room gaps r address = suits r r.fixed address && list_any (λ g. holds g address r.size) gaps

-- the lower of two that may be missing
abbrev pub lower : Option ℕ → Option ℕ → Option ℕ
lower None b = b
lower (Some a) None = Some a
lower (Some a) (Some b) = Some (min a b)
