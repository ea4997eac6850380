-- Rule 4: the regions of a lawful policy are whole pages, and may be only where pages begin.
use Rattle.std.proofs.Common.{◌≡◌, ℕ, ◌%◌, ◌++◌, [], true, false, All, List, get_or, map, None, refl, arith}
use Rattle.std.specs.Prelude.{nat_lt}
use Rattle.std.specs.List.{flat_map}
use Rattle.std.specs.Option.{option_map_or}
use Rattle.std.proofs.lemmas.Bool.{and_parts, eqb-true}
use Rattle.std.proofs.lemmas.List.Elements.{All-append, All-from_recursion, All-map}
use Rattle.expand_kernel.specs.Pages.{ept_pages}
use Rattle.expand_kernel.specs.Regions.{kernel_regions, kernel_regions_of, region_of, regions_of, window_range}
use Rattle.expand_kernel.specs.thing.Region.{Region}
use Rattle.image_pack.specs.Codes.{is_device, is_part, part_code}
use Rattle.muen_num.proofs.Lists.{all_flat}
use Rattle.muen_num.specs.Numbers.{is_page_aligned}
use Rattle.muen_num.specs.declared.limits.TheConstants.{PAGE}
use Rattle.policy_lawful.specs.Rules.{offence_4}
use Rattle.policy_lawful.specs.Thing.{Item, channel_item, component_by, placed_items, provided_item, provided_items, region_item}
use Rattle.policy_lawful.specs.Windows.{windows_of}
use Rattle.policy_lawful.specs.source.Component.{Component}
use Rattle.policy_lawful.specs.source.Source.{Source}
use Rattle.policy_lawful.specs.source.Subject.{Subject}
use Rattle.region_alloc.specs.Placement.{suits}
use Rattle.region_alloc.proofs.AddressesFit.{whole_kept}
use Rattle.region_alloc.proofs.KeptItems.{IsKept, items_kept}
use Rattle.span_emit.specs.Spans.{span_kind}

-- a region that is no device's, and is a part which a region of its kind may be
record IsPart (r : Region) : Type 0 where
  no_device : is_device (span_kind r.kind) ≡ false
  part : is_part (span_kind r.kind) (part_code r.tag.part) ≡ true

-- beside that, of whole pages, and it may be only where a page begins
pub record IsWhole (r : Region) : Type 0 where
  pub pages : r.size % PAGE ≡ 0
  pub no_device : is_device (span_kind r.kind) ≡ false
  pub part : is_part (span_kind r.kind) (part_code r.tag.part) ≡ true
  pub placed : (a : ℕ) → suits r r.fixed a ≡ true → a % PAGE ≡ 0

-- ---- what is placed

parts_placed : (p : Source) → All (λ i. IsPart (region_of i)) (placed_items p)
unfolding placed_items
parts_placed p =
    let P : Item → Type 0 = λ i. IsPart (region_of i) in
    All-append P (map region_item p.memory ++ map channel_item p.channels) (flat_map (λ s. provided_items s.name (component_by p s.component)) p.subjects)
    (All-append P (map region_item p.memory) (map channel_item p.channels)
    (All-map P region_item p.memory (λ k d l. record { no_device = refl; part = refl }))
    (All-map P channel_item p.channels (λ k d l. record { no_device = refl; part = refl })))
    (all_flat P (λ s. provided_items s.name (component_by p s.component))
    (λ s. All-map P (provided_item s.name) (option_map_or (λ (c : Component). c.provides) (component_by p s.component) []) (λ k d l. record { no_device = refl; part = refl }))
    p.subjects)

whole_item : (i : Item) → IsKept i → IsPart (region_of i) → IsWhole (region_of i)
whole_item i kept is = record {
  pages = eqb-true (i.size % PAGE) 0 (and_parts (is_page_aligned i.size) (nat_lt 0 i.size) kept.size).0;
  no_device = is.no_device;
  part = is.part;
  placed = λ a s. whole_kept i a i.address refl kept s;
}

-- ---- of the kernel

kernel_whole : (subject : List ℕ) (pages : ℕ) → All IsWhole (kernel_regions subject pages)
kernel_whole subject pages =
    All-from_recursion IsWhole (kernel_regions subject pages) (
      record { pages = refl; no_device = refl; part = refl; placed = λ a s. eqb-true (a % PAGE) 0 s },
      (
        record { pages = omega arith; no_device = refl; part = refl; placed = λ a s. eqb-true (a % PAGE) 0 s },
        (
          record { pages = refl; no_device = refl; part = refl; placed = λ a s. eqb-true (a % PAGE) 0 s },
          (
            record { pages = refl; no_device = refl; part = refl; placed = λ a s. eqb-true (a % PAGE) 0 s },
            (
              record { pages = refl; no_device = refl; part = refl; placed = λ a s. eqb-true (a % PAGE) 0 s },
              tt,
            ),
          ),
        ),
      ),
    )

kernel_whole_of : (p : Source) (s : Subject) → All IsWhole (kernel_regions_of p s)
kernel_whole_of p s = kernel_whole s.name (ept_pages (map window_range (windows_of p s)))

-- ---- all

pub regions_whole : (p : Source) → offence_4 p ≡ None → All IsWhole (regions_of p)
unfolding regions_of
regions_whole p h =
    All-append IsWhole (map region_of (placed_items p)) (flat_map (kernel_regions_of p) p.subjects)
    (All-map IsWhole region_of (placed_items p) (λ k d l. whole_item (get_or (placed_items p) k d) (items_kept p h k d l) (parts_placed p k d l)))
    (all_flat IsWhole (kernel_regions_of p) (kernel_whole_of p) p.subjects)
