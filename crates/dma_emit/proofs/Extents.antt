-- The ranges of physical memory of a lawful policy: whole pages, and few enough that there is room behind some of them.
use Rattle.std.proofs.Common.{◌≡◌, ℕ, ◌+◌, ◌*◌, ◌%◌, ◌≤◌, ◌^◌, All, true, List, [], ◌∷◌, ◌++◌, length, map, None, refl, arith, length-append, mul-le-mul}
use Rattle.std.specs.Prelude.{◌&&◌, codes, nat_le}
use Rattle.std.specs.List.{flat_map, list_all, sum_by}
use Rattle.std.proofs.lemmas.Bool.{and_parts, eqb-true, leb-true}
use Rattle.std.proofs.lemmas.List.{length-map}
use Rattle.std.proofs.lemmas.List.Elements.{All-append, All-map, All-nil}
use Rattle.std.proofs.lemmas.List.Sums.{sum_by-append, sum_by-cons}
use Rattle.muen_num.proofs.Lists.{sum_by-map, all_passing}
use Rattle.muen_num.proofs.SearchLaws.{none_both, unless_none}
use Rattle.muen_num.specs.declared.limits.TheConstants.{MOST_BLOCKS, PAGE, PHYSICAL_END}
use Rattle.policy_lawful.specs.Lawful.{IsLawful}
use Rattle.policy_lawful.specs.Offences.{alone}
use Rattle.policy_lawful.specs.Rules.{at_most, extents_of, is_page_size, is_physical, offence_20}
use Rattle.muen_num.specs.Numbers.{is_page_aligned}
use Rattle.policy_lawful.specs.declared.offence.Extent.{Extent}
use Rattle.policy_lawful.proofs.KeptAddresses.{addresses_kept, is_memory}
use Rattle.policy_lawful.proofs.KeptLimits.{limits_kept}
use Rattle.policy_lawful.proofs.KeptRules.{rules_of}
use Rattle.policy_lawful.specs.source.Block.{Block}
use Rattle.policy_lawful.specs.source.Device.{Device}
use Rattle.policy_lawful.specs.source.DeviceMemory.{DeviceMemory}
use Rattle.policy_lawful.specs.source.Source.{Source}

-- whole pages of physical memory
pub record IsWhole (e : Extent) : Type 0 where
  pub aligned : (e.address + e.size) % PAGE ≡ 0
  pub low : e.address + e.size ≤ PHYSICAL_END

abbrev block_extent : Block → Extent
block_extent b = record { name = b.name; address = b.physical_address; size = b.size }

abbrev memory_extent : DeviceMemory → Extent
memory_extent m = record { name = m.name; address = m.physical_address; size = m.size }

whole : (e : Extent) → is_physical e.address e.size ≡ true → IsWhole e
whole e h =
    let both = and_parts (is_page_aligned e.address && is_page_size e.size) (nat_le (e.address + e.size) PHYSICAL_END) h in
    let parts = and_parts (is_page_aligned e.address) (is_page_size e.size) both.0 in
    let size = and_parts (is_page_aligned e.size) _ parts.1 in
    let address = eqb-true (e.address % PAGE) 0 parts.0 in
    let pages = eqb-true (e.size % PAGE) 0 size.0 in
    record { aligned = omega arith; low = leb-true (e.address + e.size) PHYSICAL_END both.1 }

devices_whole : (ds : List Device) → list_all (λ d. list_all is_memory d.memory) ds ≡ true → All IsWhole (flat_map (λ d. map memory_extent d.memory) ds)
devices_whole [] h = All-nil IsWhole
devices_whole (d ∷ ds) h =
    let both = and_parts (list_all is_memory d.memory) (list_all (λ d. list_all is_memory d.memory) ds) h in
    All-append IsWhole (map memory_extent d.memory) (flat_map (λ d. map memory_extent d.memory) ds)
    (All-map IsWhole memory_extent d.memory (all_passing is_memory (λ m. IsWhole (memory_extent m)) (λ m k. whole (memory_extent m) k) d.memory both.0))
    (devices_whole ds both.1)

pub all_whole : (p : Source) → IsLawful p → All IsWhole (extents_of p)
all_whole p lawful =
    let kept = addresses_kept p (rules_of lawful).rule_4 in
    All-append IsWhole (map block_extent p.memory_blocks) (flat_map (λ d. map memory_extent d.memory) p.devices)
    (All-map IsWhole block_extent p.memory_blocks (all_passing (λ b. is_physical b.physical_address b.size) (λ b. IsWhole (block_extent b)) (λ b k. whole (block_extent b) k) p.memory_blocks kept.blocks))
    (devices_whole p.devices kept.devices)

-- ---- how much room they take

with_bytes : (bytes : ℕ) (es : List Extent) → sum_by (λ e. e.size + bytes) es ≡ sum_by (λ e. e.size) es + bytes * length es
with_bytes bytes [] = omega arith
with_bytes bytes (e ∷ es) =
    let a = sum_by-cons (λ (e : Extent). e.size + bytes) e es in
    let b = sum_by-cons (λ (e : Extent). e.size) e es in
    let rest = with_bytes bytes es in
    omega arith

devices_size : (ds : List Device) → sum_by (λ e. e.size) (flat_map (λ d. map memory_extent d.memory) ds) ≡ sum_by (λ d. sum_by (λ m. m.size) d.memory) ds
devices_size [] = refl
devices_size (d ∷ ds) =
    let a = sum_by-append (λ (e : Extent). e.size) (map memory_extent d.memory) (flat_map (λ d. map memory_extent d.memory) ds) in
    let here = sum_by-map (λ (e : Extent). e.size) memory_extent d.memory in
    let b = sum_by-cons (λ (d : Device). sum_by (λ m. m.size) d.memory) d ds in
    let rest = devices_size ds in
    omega arith

devices_many : (ds : List Device) → length (flat_map (λ d. map memory_extent d.memory) ds) ≡ sum_by (λ d. length d.memory) ds
devices_many [] = refl
devices_many (d ∷ ds) =
    let a = length-append (map memory_extent d.memory) (flat_map (λ d. map memory_extent d.memory) ds) in
    let here = length-map d.memory memory_extent in
    let b = sum_by-cons (λ (d : Device). length d.memory) d ds in
    let rest = devices_many ds in
    omega arith

few_blocks : (p : Source) → offence_20 p ≡ None → length p.memory_blocks ≤ MOST_BLOCKS
unfolding offence_20
few_blocks p h =
    let blocks = none_both (at_most (length p.memory_blocks) MOST_BLOCKS (codes "memoryBlocks")) _ h in
    leb-true (length p.memory_blocks) MOST_BLOCKS (unless_none (nat_le (length p.memory_blocks) MOST_BLOCKS) (alone (codes "memoryBlocks")) blocks.0)

-- at most 144 of them, of 80 MiB in all
pub room : (p : Source) (bytes : ℕ) → IsLawful p → bytes ≤ 2 ^ 26 → sum_by (λ e. e.size + bytes) (extents_of p) + bytes ≤ PHYSICAL_END
room p bytes lawful small =
    let blocks = map block_extent p.memory_blocks in
    let memories = flat_map (λ (d : Device). map memory_extent d.memory) p.devices in
    let kept = limits_kept p (rules_of lawful).rule_20 in
    let sum = with_bytes bytes (blocks ++ memories) in
    let sizes = sum_by-append (λ (e : Extent). e.size) blocks memories in
    let many = length-append blocks memories in
    let block_sizes = sum_by-map (λ (e : Extent). e.size) block_extent p.memory_blocks in
    let block_many = length-map p.memory_blocks block_extent in
    let memory_sizes = devices_size p.devices in
    let memory_many = devices_many p.devices in
    let few = few_blocks p (rules_of lawful).rule_20 in
    let block_bytes = kept.block_bytes in
    let device_bytes = kept.device_bytes in
    let windows = kept.device_windows in
    let count : length (blocks ++ memories) ≤ 144 = omega arith in
    let product = mul-le-mul small count in
    omega arith
