-- Where the regions of a policy are placed in its memory blocks (Muen system policy: physical addresses and alignments; the
-- order and the choice are this project's own).
use Rattle.std.specs.Prelude.{ℕ, zero, suc, ◌+◌, ◌%◌, ◌==◌, ◌&&◌, Bool, true, false, not, List, [], ◌∷◌, ◌++◌, map, filter, length, nat_le, Option, Some, None, Result, Ok, Err, if◌then◌else◌}
use Rattle.std.specs.Option.{option_map_or, option_or}
use Rattle.std.specs.List.{enumerate_from, find, list_all}
use Rattle.expand_kernel.specs.Ordered.{in_order}
use Rattle.expand_kernel.specs.Regions.{regions_of}
use Rattle.expand_kernel.specs.thing.Region.{Region}
use Rattle.muen_num.specs.Range.{numbers_below}
use Rattle.muen_num.specs.declared.limits.TheConstants.{PHYSICAL_END}
use Rattle.policy_lawful.specs.Ranges.{in_a_block, share_none}
use Rattle.policy_lawful.specs.refusal.Refusal.{Refusal}
use Rattle.policy_lawful.specs.refusal.Refusal.TheVariants.{NoRoom}
use Rattle.policy_lawful.specs.source.Block.{Block}
use Rattle.policy_lawful.specs.source.Source.{Source}
use Rattle.region_alloc.specs.declared.spot.Spot.{Spot}

-- ---- the order

abbrev pub has_fixed_address : Region → Bool
has_fixed_address r = option_map_or (λ address. true) r.fixed false

-- regions with their numbers, by size downwards; of the same size the earlier stays first
abbrev pub by_size : List (ℕ × Region) → List (ℕ × Region)
by_size regions = in_order (λ x y. nat_le y.1.size x.1.size) regions

-- those with an address of their own by number, then the others by size downwards and then by number; each with its number
unfoldable pub in_turn : List Region → List (ℕ × Region)
in_turn regions =
    filter (λ x. has_fixed_address x.1) (enumerate_from 0 regions)
    ++ by_size (filter (λ x. not (has_fixed_address x.1)) (enumerate_from 0 regions))

-- ---- one region

-- they share none with what is placed
abbrev pub is_apart : List Spot → ℕ → ℕ → Bool
is_apart spots address size = list_all (λ q. share_none address (address + size) q.address (q.address + q.size)) spots

-- the address is the region's own, where it has one, and else a multiple of its alignment
abbrev pub suits : Region → Option ℕ → ℕ → Bool
suits r (Some own) address = address == own
suits r None address = address % r.alignment == 0

-- the region may be at this address, beside what is placed
unfoldable pub is_room : List Block → List Spot → Region → ℕ → Bool
is_room blocks spots r address = suits r r.fixed address && in_a_block blocks address r.size && is_apart spots address r.size

-- the least number below n that passes
unfoldable pub least_below : (ℕ → Bool) → ℕ → Option ℕ
least_below p zero = None
least_below p (suc n) = option_or (least_below p n) (if p n then Some n else None)

-- the lowest address where the region may be
unfoldable pub lowest : List Block → List Spot → Region → Option ℕ
lowest blocks spots r = least_below (is_room blocks spots r) PHYSICAL_END

-- ---- all regions

abbrev pub spot : ℕ → Region → ℕ → Spot
spot number r address = record { number = number; address = address; size = r.size }

-- what follows where the region is placed; it has no address else
abbrev pub if_placed : Region → Option ℕ → (ℕ → Result (List Spot) Region) → Result (List Spot) Region
if_placed r None next = Err r
if_placed r (Some address) next = next address

-- these regions, one after another beside what is placed: all that is placed then, or the first that has no address
unfoldable pub placed_after : List Block → List (ℕ × Region) → List Spot → Result (List Spot) Region
placed_after blocks [] spots = Ok spots
placed_after blocks (x ∷ rest) spots =
    if_placed x.1 (lowest blocks spots x.1) (λ address. placed_after blocks rest (spots ++ spot x.0 x.1 address ∷ []))

-- the address of the region of this number
abbrev pub address_in : List Spot → ℕ → ℕ
address_in spots number = option_map_or (λ q. q.address) (find (λ q. q.number == number) spots) 0

abbrev pub addresses_by_number : ℕ → Result (List Spot) Region → Result (List ℕ) Region
addresses_by_number many (Ok spots) = Ok (map (address_in spots) (numbers_below many))
addresses_by_number many (Err r) = Err r

-- the addresses of these regions by number, or the first in turn that has none
unfoldable pub placement_in : List Block → List Region → Result (List ℕ) Region
placement_in blocks regions = addresses_by_number (length regions) (placed_after blocks (in_turn regions) [])

-- the addresses of a policy's regions by number, or the first that has none
unfoldable pub placement_of : Source → Result (List ℕ) Region
placement_of p = placement_in p.memory_blocks (regions_of p)

-- ---- the refusal

abbrev pub no_room_for : {X : Type 0} → Result X Region → Option Refusal
no_room_for (Ok addresses) = None
no_room_for (Err r) = Some (NoRoom r.tag r.size)

-- the region for which there is no room, if there is one
unfoldable pub no_room : Source → Option Refusal
no_room p = no_room_for (placement_of p)
