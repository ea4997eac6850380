-- The regions of a placed policy by the numbers of its things; those of its memory have the numbers of that.
use Rattle.std.proofs.Common.{◌≡◌, ℕ, ◌+◌, ◌<◌, ◌≤◌, ◌++◌, true, length, map, Some, ap, ◌∙◌, arith}
use Rattle.std.specs.Prelude.{option_map, slice_get}
use Rattle.std.specs.List.{enumerate_from, flat_map}
use Rattle.std.proofs.lemmas.Option.{slice_get-map}
use Rattle.std.proofs.lemmas.Slice.Zip.{AllZip-long}
use Rattle.expand_kernel.proofs.Numbering.{region_at as thing_at, regions_many}
use Rattle.expand_kernel.specs.ByIndex.{kernel_first}
use Rattle.expand_kernel.specs.Regions.{region_of}
use Rattle.expand_kernel.specs.thing.Region.{Region}
use Rattle.expand_kernel.specs.thing.Thing.{Thing}
use Rattle.muen_num.proofs.Lists.{at_left, numbered_at}
use Rattle.policy_lawful.specs.Ranges.{in_a_block}
use Rattle.policy_lawful.specs.Resolution.{Resolution}
use Rattle.policy_lawful.specs.Thing.{region_item}
use Rattle.policy_lawful.specs.Things.{brought_things, channel_thing, own_thing, placed_things, region_of_thing}
use Rattle.policy_lawful.specs.source.Region.{Region as SourceRegion}
use Rattle.region_alloc.specs.Placed.{IsPlaced, Placement}

-- a region of memory has its own number among the things
pub own_at : (r : Resolution) (n : ℕ) (m : SourceRegion) → slice_get r.memory n ≡ Some m → slice_get (placed_things r) n ≡ Some (own_thing (n, m))
unfolding placed_things
own_at r n m e =
    let own = map own_thing (enumerate_from 0 r.memory) in
    let channels = map channel_thing r.channels in
    let first : 0 + n ≡ n = omega arith in
    at_left (own ++ channels) (flat_map (brought_things r.components) r.subjects) n (own_thing (n, m))
    (at_left own channels n (own_thing (n, m))
    (slice_get-map own_thing (enumerate_from 0 r.memory) n ∙ ap (option_map own_thing) (numbered_at 0 r.memory n m e ∙ ap (λ k. Some (k, m)) first)))

module _ (x : Placement) (placed : IsPlaced x) where
  -- a thing that is placed
  pub region_there : (n : ℕ) (t : Thing) → slice_get (placed_things x.expanded.lawful) n ≡ Some t → slice_get x.expanded.regions n ≡ Some (region_of_thing t)
  region_there = thing_at x.expanded.lawful placed.resolved x.expanded.grants placed.expansion.grants x.expanded.regions placed.expansion.regions

  -- a region of memory
  pub region_at : (n : ℕ) (m : SourceRegion) → slice_get x.expanded.lawful.memory n ≡ Some m → slice_get x.expanded.regions n ≡ Some (region_of (region_item m))
  region_at n m e = region_there n (own_thing (n, m)) (own_at x.expanded.lawful n m e)

  -- there are as many addresses as regions
  pub addresses_many : length x.addresses ≡ length x.expanded.regions
  addresses_many = AllZip-long (λ (y : Region) address. in_a_block x.expanded.lawful.memory_blocks address y.size ≡ true) x.expanded.regions x.addresses placed.inside

  regions_are : length x.addresses ≡ kernel_first x.expanded.lawful (length x.expanded.lawful.subjects)
  regions_are = addresses_many ∙ regions_many x.expanded.lawful placed.resolved x.expanded.grants placed.expansion.grants x.expanded.regions placed.expansion.regions

  pub placed_within : length (placed_things x.expanded.lawful) ≤ length x.addresses
  placed_within = omega (arith, regions_are)

  pub kernel_within : (k : ℕ) → k < length x.expanded.lawful.subjects → kernel_first x.expanded.lawful k < length x.addresses
  kernel_within k within = omega (arith, regions_are, within)
