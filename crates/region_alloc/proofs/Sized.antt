-- The blocks of a lawful policy end where physical memory does, and each of its regions has bytes and an alignment.
use Rattle.std.proofs.Common.{◌≡◌, ℕ, ◌<◌, inl, inr, true, All, List, map, None, refl, ap, arith}
use Rattle.std.specs.Prelude.{◌&&◌, ◌==◌, nat_lt}
use Rattle.std.specs.List.{flat_map}
use Rattle.std.proofs.lemmas.Bool.{and_parts, eqb-true, leb-true, ltb-true, or_cases}
use Rattle.std.proofs.lemmas.List.Elements.{All-append, All-from_recursion, All-map, All-weaker}
use Rattle.expand_kernel.specs.Pages.{ept_pages}
use Rattle.expand_kernel.specs.Regions.{kernel_regions, kernel_regions_of, region_of, regions_of, window_range}
use Rattle.muen_num.proofs.Lists.{all_flat, all_passing}
use Rattle.muen_num.specs.Numbers.{is_page_aligned}
use Rattle.muen_num.specs.declared.limits.TheConstants.{LARGE_PAGE, PAGE}
use Rattle.policy_lawful.specs.Lawful.{IsLawful}
use Rattle.policy_lawful.specs.Resolution.{Resolution, source_of}
use Rattle.policy_lawful.specs.Rules.{is_alignment, is_page_size, is_physical, offence_4}
use Rattle.policy_lawful.specs.Thing.{placed_items}
use Rattle.policy_lawful.specs.Windows.{windows_of}
use Rattle.policy_lawful.proofs.KeptAddresses.{addresses_kept}
use Rattle.policy_lawful.proofs.KeptRules.{rules_of}
use Rattle.policy_lawful.specs.source.Block.{Block}
use Rattle.policy_lawful.specs.source.Source.{Source}
use Rattle.policy_lawful.specs.source.Subject.{Subject}
use Rattle.region_alloc.specs.Placement.{no_room, no_room_for, placement_in, placement_of}
use Rattle.region_alloc.proofs.KeptItems.{IsKept, items_kept}
use Rattle.region_alloc.proofs.Lowest.{ends_well}
use Rattle.region_alloc.proofs.Placing.{IsSized}

-- ---- what rule 4 says

sized_page : (size : ℕ) → is_page_size size ≡ true → 0 < size
sized_page size h = ltb-true 0 size (and_parts (is_page_aligned size) (nat_lt 0 size) h).1

sized_alignment : (n : ℕ) → is_alignment n ≡ true → 0 < n
sized_alignment n h = elim (or_cases (n == PAGE) (n == LARGE_PAGE) h) [
  | inl small ↦ let e = eqb-true n PAGE small in omega arith
  | inr large ↦ let e = eqb-true n LARGE_PAGE large in omega arith
]

physical_end : (b : Block) → is_physical b.physical_address b.size ≡ true → ends_well b
physical_end b h = leb-true _ _ (and_parts (is_page_aligned b.physical_address && is_page_size b.size) _ h).1

kernel_sized : (subject : List ℕ) (pages : ℕ) → 0 < pages → All IsSized (kernel_regions subject pages)
kernel_sized subject pages some =
    All-from_recursion IsSized (kernel_regions subject pages)
    ((omega arith, omega arith), ((omega arith, omega arith), ((omega arith, omega arith), ((omega arith, omega arith), ((omega arith, omega arith), tt)))))

kernel_sized_of : (p : Source) (s : Subject) → All IsSized (kernel_regions_of p s)
kernel_sized_of p s = kernel_sized s.name (ept_pages (map window_range (windows_of p s))) (omega arith)

-- ---- all

pub regions_sized : (p : Source) → offence_4 p ≡ None → All IsSized (regions_of p)
unfolding regions_of
regions_sized p h =
    All-append IsSized (map region_of (placed_items p)) (flat_map (kernel_regions_of p) p.subjects)
    (All-map IsSized region_of (placed_items p)
    (All-weaker IsKept (λ i. IsSized (region_of i)) (λ i k. (sized_page i.size k.size, sized_alignment i.alignment k.alignment)) (placed_items p) (items_kept p h)))
    (all_flat IsSized (kernel_regions_of p) (kernel_sized_of p) p.subjects)

pub blocks_end : (r : Resolution) → IsLawful (source_of r) → All ends_well r.memory_blocks
unfolding source_of
blocks_end r h =
    all_passing (λ b. is_physical b.physical_address b.size) ends_well physical_end r.memory_blocks
    (addresses_kept (source_of r) (rules_of h).rule_4).blocks

-- ---- a lawful policy's placement

pub placement_is : (r : Resolution) → placement_of (source_of r) ≡ placement_in r.memory_blocks (regions_of (source_of r))
unfolding placement_of source_of
placement_is r = refl

pub no_room_is : (r : Resolution) → no_room (source_of r) ≡ no_room_for (placement_in r.memory_blocks (regions_of (source_of r)))
unfolding no_room
no_room_is r = ap no_room_for (placement_is r)
