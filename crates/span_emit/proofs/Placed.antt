-- What is known of a placed policy's blocks, devices, regions and addresses.
use Rattle.std.proofs.Common.{◌≡◌, ℕ, ◌+◌, ◌/◌, ◌%◌, ◌<◌, ◌≤◌, ◌^◌, true, All, List, [], ◌∷◌, ◌++◌, length, sym, ap, ◌∙◌, subst, arith}
use Rattle.std.specs.Prelude.{Ok}
use Rattle.std.specs.List.{AllZip, sum_by}
use Rattle.std.proofs.lemmas.List.Elements.{All-cons, All-head, All-nil, All-tail, All-weaker}
use Rattle.expand_kernel.specs.Expansion.{Expansion}
use Rattle.expand_kernel.specs.Regions.{regions_of}
use Rattle.expand_kernel.specs.thing.Region.{Region}
use Rattle.image_pack.specs.declared.parts.SpanPart.{SpanPart}
use Rattle.muen_num.specs.declared.limits.TheConstants.{MOST_BLOCK_BYTES, MOST_DEVICE_BYTES, MOST_DEVICE_WINDOWS, MOST_REGIONS, PAGE}
use Rattle.policy_lawful.specs.Lawful.{IsLawful}
use Rattle.policy_lawful.specs.Resolution.{Resolution, source_of}
use Rattle.policy_lawful.specs.source.Block.{Block}
use Rattle.policy_lawful.specs.source.Device.{Device}
use Rattle.policy_lawful.specs.source.DeviceMemory.{DeviceMemory}
use Rattle.region_alloc.proofs.Apart.{policy_each}
use Rattle.region_alloc.proofs.Lowest.{block_end, ends_well}
use Rattle.region_alloc.proofs.Placing.{IsSized}
use Rattle.region_alloc.proofs.Sized.{blocks_end, regions_sized}
use Rattle.region_alloc.specs.Placed.{AreDisjoint, AreInside, Placement}
use Rattle.region_alloc.specs.Placement.{placement_of, suits}
use Rattle.span_emit.specs.Spans.{device_spans, region_spans}
use Rattle.policy_lawful.specs.ByIndex.{memories_of}
use Rattle.span_emit.specs.SpansOf.{spans_of}
use Rattle.policy_lawful.proofs.KeptAddresses.{IsPhysical}
use Rattle.policy_lawful.proofs.KeptRules.{rules_of}
use Rattle.span_emit.proofs.KeptDevices.{AreApart, devices_apart, devices_physical}
use Rattle.span_emit.proofs.KeptRegions.{IsWhole, regions_whole}
use Rattle.span_emit.proofs.KeptSums.{sums_kept}
use Rattle.span_emit.proofs.RegionSpans.{as_many, many_spans}

pub record IsPlaced (blocks : List Block) (devices : List Device) (regions : List Region) (addresses : List ℕ) : Type 0 where
  pub whole : All IsWhole regions
  pub sized : All IsSized regions
  pub aligned : All (λ a. a % PAGE ≡ 0) addresses
  pub inside : AreInside blocks regions addresses
  pub disjoint : AreDisjoint regions addresses
  pub ends : All ends_well blocks
  pub physical : All (λ x. IsPhysical x.1) (memories_of devices)
  pub apart : AreApart blocks (memories_of devices)
  pub few : length regions ≤ MOST_REGIONS
  pub block_bytes : sum_by (λ b. b.size) blocks ≤ MOST_BLOCK_BYTES
  pub windows : length (memories_of devices) ≤ MOST_DEVICE_WINDOWS
  pub device_bytes : sum_by (λ x. x.1.size) (memories_of devices) ≤ MOST_DEVICE_BYTES

-- regions of whole pages are placed where a page begins
aligned_each : (regions : List Region) (addresses : List ℕ) → AllZip (λ r a. suits r r.fixed a ≡ true) regions addresses → All IsWhole regions → All (λ a. a % PAGE ≡ 0) addresses
aligned_each [] [] h whole = All-nil (λ a. a % PAGE ≡ 0)
aligned_each [] (p ∷ ps) h whole = absurd h
aligned_each (r ∷ rs) [] h whole = absurd h
aligned_each (r ∷ rs) (p ∷ ps) h whole =
    All-cons (λ a. a % PAGE ≡ 0) p ps ((All-head IsWhole r rs whole).placed p h.0) (aligned_each rs ps h.1 (All-tail IsWhole r rs whole))

pub is_placed : (r : Resolution) (regions : List Region) (addresses : List ℕ) → IsLawful (source_of r) → regions ≡ regions_of (source_of r) → placement_of (source_of r) ≡ Ok addresses
    → AreInside r.memory_blocks regions addresses → AreDisjoint regions addresses → IsPlaced r.memory_blocks r.devices regions addresses
unfolding source_of
is_placed r regions addresses lawful all e inside disjoint =
    let whole = subst (All IsWhole) (sym all) (regions_whole (source_of r) (rules_of lawful).rule_4) in
    let sums = sums_kept (source_of r) (rules_of lawful).rule_20 in
    record {
      whole = whole;
      sized = subst (All IsSized) (sym all) (regions_sized (source_of r) (rules_of lawful).rule_4);
      aligned = aligned_each regions addresses (policy_each r regions addresses all e (λ r a. suits r r.fixed a ≡ true) (λ r a there. there.0)) whole;
      inside = inside;
      disjoint = disjoint;
      ends = blocks_end r lawful;
      physical = devices_physical (source_of r) (rules_of lawful).rule_4;
      apart = devices_apart (source_of r) (rules_of lawful).rule_18;
      few = subst (λ (rs : List Region). length rs ≤ MOST_REGIONS) (sym all) sums.regions;
      block_bytes = sums.block_bytes;
      windows = sums.windows;
      device_bytes = sums.device_bytes;
    }

-- from what the calls that lend the parts of a placed policy tell
pub from_calls : (x : Placement) (expanded : Expansion) (lawful resolved : Resolution) (devices : List Device) (regions : List Region) (addresses : List ℕ)
    → expanded ≡ x.expanded → lawful ≡ expanded.lawful → resolved ≡ lawful → IsLawful (source_of lawful) → devices ≡ resolved.devices → regions ≡ expanded.regions → regions ≡ regions_of (source_of expanded.lawful)
    → placement_of (source_of x.expanded.lawful) ≡ Ok addresses → AreInside x.expanded.lawful.memory_blocks x.expanded.regions addresses → AreDisjoint x.expanded.regions addresses
    → IsPlaced x.expanded.lawful.memory_blocks devices regions addresses
from_calls x expanded lawful resolved devices regions addresses is is_lawful is_resolved keeps are_devices are_regions all address inside disjoint =
    let blocks = x.expanded.lawful.memory_blocks in
    let here : lawful ≡ x.expanded.lawful = is_lawful ∙ ap (λ p. p.lawful) is in
    let those : regions ≡ x.expanded.regions = are_regions ∙ ap (λ p. p.regions) is in
    let these : devices ≡ x.expanded.lawful.devices = are_devices ∙ ap (λ r. r.devices) (is_resolved ∙ here) in
    let whole : x.expanded.regions ≡ regions_of (source_of x.expanded.lawful) = sym those ∙ all ∙ ap (λ p. regions_of (source_of p.lawful)) is in
    subst (λ (ds : List Device). IsPlaced blocks ds regions addresses) (sym these)
    (subst (λ (rs : List Region). IsPlaced blocks x.expanded.lawful.devices rs addresses) (sym those)
    (is_placed x.expanded.lawful x.expanded.regions addresses (subst (λ (r : Resolution). IsLawful (source_of r)) here keeps) whole address inside disjoint))

-- ---- that the numbers fit

small_regions : (blocks : List Block) (rs : List Region) (ps : List ℕ) → All ends_well blocks → AreInside blocks rs ps → All (λ r. r.size / PAGE < 2 ^ 32) rs
small_regions blocks [] ps ends h = All-nil (λ (r : Region). r.size / PAGE < 2 ^ 32)
small_regions blocks (r ∷ rs) [] ends h = absurd h
small_regions blocks (r ∷ rs) (p ∷ ps) ends h =
    let end = block_end blocks p r.size ends h.0 in
    All-cons (λ (r : Region). r.size / PAGE < 2 ^ 32) r rs (omega arith) (small_regions blocks rs ps ends h.1)

module _ (blocks : List Block) (devices : List Device) (regions : List Region) (addresses : List ℕ) (h : IsPlaced blocks devices regions addresses) where
  pub few_regions : length regions ≤ 2 ^ 16
  few_regions = let few = h.few in omega arith

  pub regions_small : All (λ r. r.size / PAGE < 2 ^ 32) regions
  regions_small = small_regions blocks regions addresses h.ends h.inside

  pub memories_small : All (λ x. x.1.size / PAGE < 2 ^ 32) (memories_of devices)
  memories_small =
      All-weaker (λ (x : List ℕ × DeviceMemory). IsPhysical x.1) (λ (x : List ℕ × DeviceMemory). x.1.size / PAGE < 2 ^ 32)
      (λ x is. let low = is.low in omega arith) (memories_of devices) h.physical

  pub few_spans : (rs : List SpanPart) → rs ≡ region_spans regions addresses → length rs + length (memories_of devices) ≤ 2 ^ 16
  few_spans rs is =
      let e = ap length is in
      let many = many_spans regions addresses (as_many blocks regions addresses h.inside) in
      let few = h.few in
      let windows = h.windows in
      omega arith

  -- all of them
  pub all_spans : (x : Placement) (rs ss : List SpanPart) → regions ≡ x.expanded.regions → addresses ≡ x.addresses → devices ≡ x.expanded.lawful.devices → rs ≡ region_spans regions addresses → ss ≡ rs ++ device_spans (length rs) devices → ss ≡ spans_of x
  unfolding spans_of
  all_spans x rs ss are_regions are_addresses are_devices first all =
      let e : length rs ≡ length regions = ap length first ∙ many_spans regions addresses (as_many blocks regions addresses h.inside) in
      all
      ∙ ap (λ n. rs ++ device_spans n devices) e
      ∙ ap (λ xs. xs ++ device_spans (length regions) devices) first
      ∙ (λ i. region_spans (are_regions i) (are_addresses i) ++ device_spans (length (are_regions i)) (are_devices i))
