-- A policy whose regions are placed.
use Rattle.std.specs.Prelude.{◌≡◌, ◌⊎◌, ◌+◌, ◌≤◌, ℕ, ◌<◌, List, ◌++◌, length, map, slice_get, slice_index, take, unwrap_or, Some, Ok, true}
use Rattle.std.specs.List.{AllZip}
use Rattle.expand_kernel.specs.ByIndex.{kernel_first}
use Rattle.expand_kernel.specs.Expansion.{Expansion, IsExpansion}
use Rattle.expand_kernel.specs.thing.Region.{Region}
use Rattle.policy_lawful.specs.Lawful.{IsLawful}
use Rattle.policy_lawful.specs.Ranges.{in_a_block}
use Rattle.policy_lawful.specs.Resolution.{IsResolved, Resolution, source_of}
use Rattle.policy_lawful.specs.Things.{device_things, placed_things, things_by_number}
use Rattle.policy_lawful.specs.declared.thing.ThingIndex.{ThingIndex}
use Rattle.policy_lawful.specs.declared.thing.ThingIndex.TheVariants.{Declared, State as StatePage}
use Rattle.policy_lawful.specs.source.Block.{Block}
use Rattle.region_alloc.specs.Placement.{placement_of}

pub record Placement : Type 0 where
  pub expanded : Expansion
  -- by the regions' numbers
  pub addresses : List ℕ

abbrev pub IsPlacement : Placement → Type 0
IsPlacement x = placement_of (source_of x.expanded.lawful) ≡ Ok x.addresses

-- each region lies inside one block
abbrev pub AreInside : List Block → List Region → List ℕ → Type 0
AreInside blocks regions addresses = AllZip (λ r address. in_a_block blocks address r.size ≡ true) regions addresses

-- two of these regions share no address
abbrev pub AreDisjoint : List Region → List ℕ → Type 0
AreDisjoint regions addresses =
    (i j : ℕ) (a b : Region) → i < j → j < length addresses → slice_get regions i ≡ Some a → slice_get regions j ≡ Some b
    → (slice_index addresses i + a.size ≤ slice_index addresses j) ⊎ (slice_index addresses j + b.size ≤ slice_index addresses i)

-- what its type promises
pub record IsPlaced (x : Placement) : Type 0 where
  pub resolved : IsResolved x.expanded.lawful
  pub lawful : IsLawful (source_of x.expanded.lawful)
  pub expansion : IsExpansion x.expanded
  pub placement : IsPlacement x
  pub inside : AreInside x.expanded.lawful.memory_blocks x.expanded.regions x.addresses
  pub disjoint : AreDisjoint x.expanded.regions x.addresses

-- ---- addresses by number

-- where things lie: those that are placed, then the devices' memory
abbrev pub thing_addresses : Placement → List ℕ
thing_addresses x =
    take (length (placed_things x.expanded.lawful)) x.addresses
    ++ map (λ t. unwrap_or t.fixed 0) (device_things x.expanded.lawful)

-- where what has this number lies
abbrev pub address_of : Placement → ThingIndex → ℕ
address_of x (Declared n) = slice_index (thing_addresses x) n
address_of x (StatePage k) = slice_index x.addresses (kernel_first x.expanded.lawful k)

-- it is there
abbrev pub IsThere : Resolution → ThingIndex → Type 0
IsThere r (Declared n) = n < length (things_by_number r)
IsThere r (StatePage k) = k < length r.subjects
