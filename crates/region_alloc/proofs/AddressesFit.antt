-- What a placed policy has lies at whole pages, and below the end of physical addresses.
use Rattle.std.proofs.Common.{◌≡◌, ℕ, ◌+◌, ◌%◌, ◌≤◌, ◌^◌, inl, inr, true, Option, Some, None, sym, ap, ◌∙◌, subst, refl, arith}
use Rattle.std.specs.Prelude.{◌&&◌, ◌==◌, nat_le, slice_get, slice_index, unwrap_or}
use Rattle.std.proofs.lemmas.Bool.{and_parts, eqb-true, leb-true, or_cases}
use Rattle.expand_kernel.specs.ByIndex.{kernel_first}
use Rattle.expand_kernel.specs.Numbered.{IsWhole}
use Rattle.expand_kernel.specs.Regions.{anywhere, region_of}
use Rattle.expand_kernel.specs.granted.GrantedWindow.{GrantedWindow}
use Rattle.expand_kernel.specs.thing.Region.{Region}
use Rattle.expand_kernel.specs.thing.RegionKind.TheVariants.{Kernel}
use Rattle.expand_kernel.specs.thing.Thing.{Thing}
use Rattle.muen_num.proofs.Lists.{all_at}
use Rattle.muen_num.proofs.Pairs.{first_at}
use Rattle.muen_num.specs.Numbers.{is_page_aligned}
use Rattle.muen_num.specs.declared.limits.TheConstants.{LARGE_PAGE, PAGE, PHYSICAL_END}
use Rattle.muen_num.specs.declared.tag.TagPart.TheVariants.{State as StatePart}
use Rattle.policy_lawful.proofs.KeptRules.{rules_of}
use Rattle.policy_lawful.proofs.ThingsByIndex.{devices_by_index, placed_by_index}
use Rattle.policy_lawful.specs.Resolution.{source_of}
use Rattle.policy_lawful.specs.Rules.{is_alignment, is_page_size, is_physical}
use Rattle.policy_lawful.specs.Thing.{Item, device_items, placed_items}
use Rattle.policy_lawful.specs.Things.{IsThingOf, device_things, own_thing, placed_things}
use Rattle.policy_lawful.specs.source.Region.{Region as SourceRegion}
use Rattle.region_alloc.specs.Placed.{IsPlaced, Placement, address_of}
use Rattle.region_alloc.specs.Placement.{suits}
use Rattle.region_alloc.proofs.Apart.{placed_there}
use Rattle.region_alloc.proofs.KeptItems.{IsKept, IsKeptThere, device_items_kept, items_kept}
use Rattle.region_alloc.proofs.Lowest.{block_end}
use Rattle.region_alloc.proofs.OwnRegions.{own_at, region_there}
use Rattle.region_alloc.proofs.Sized.{blocks_end}
use Rattle.region_alloc.proofs.ThingAddresses.{each_number}

-- so many bytes from a whole page on that end where physical addresses do, or before
pub record AreAt (address size : ℕ) : Type 0 where
  pub whole : address % 4096 ≡ 0
  pub end : address + size ≤ 2 ^ 40

-- ---- one region

whole_large : (a : ℕ) → a % 2097152 ≡ 0 → a % 4096 ≡ 0
whole_large a h = omega arith

whole_aligned : (a n : ℕ) → is_alignment n ≡ true → a % n ≡ 0 → a % 4096 ≡ 0
whole_aligned a n h k = elim (or_cases (n == PAGE) (n == LARGE_PAGE) h) [
  | inl small ↦ subst (λ m. a % m ≡ 0) (eqb-true n PAGE small) k
  | inr large ↦ whole_large a (subst (λ m. a % m ≡ 0) (eqb-true n LARGE_PAGE large) k)
]

whole_physical : (a size : ℕ) → is_physical a size ≡ true → AreAt a size
whole_physical a size h =
    let both = and_parts (is_page_aligned a && is_page_size size) (nat_le (a + size) PHYSICAL_END) h in
    record {
      whole = eqb-true (a % PAGE) 0 (and_parts (is_page_aligned a) (is_page_size size) both.0).0;
      end = leb-true (a + size) PHYSICAL_END both.1;
    }

-- what lies as its policy says is at a whole page
pub whole_kept : (i : Item) (a : ℕ) (o : Option ℕ) → i.address ≡ o → IsKept i → suits (region_of i) o a ≡ true → a % 4096 ≡ 0
whole_kept i a None is kept h = whole_aligned a i.alignment kept.alignment (eqb-true (a % i.alignment) 0 h)
whole_kept i a (Some own) is kept h = ap (λ n. n % 4096) (eqb-true a own h) ∙ (whole_physical own i.size (kept.fixed own is).0).whole

-- ---- by number

module _ (x : Placement) (placed : IsPlaced x) where
  ends : (n : ℕ) (y : Region) → slice_get x.expanded.regions n ≡ Some y → slice_index x.addresses n + y.size ≤ 2 ^ 40
  ends n y at =
      block_end x.expanded.lawful.memory_blocks (slice_index x.addresses n) y.size (blocks_end x.expanded.lawful placed.lawful) (placed_there x placed n y at).1

  -- **a region of the kernel**, which may be at any page
  pub kernel_fits : (n : ℕ) (y : Region) → slice_get x.expanded.regions n ≡ Some y → y.fixed ≡ None → y.alignment ≡ 4096 → AreAt (slice_index x.addresses n) y.size
  kernel_fits n y at free aligned =
      let address = slice_index x.addresses n in
      let h : suits y None address ≡ true = sym (ap (λ o. suits y o address) free) ∙ (placed_there x placed n y at).0 in
      record { whole = subst (λ m. address % m ≡ 0) aligned (eqb-true (address % y.alignment) 0 h); end = ends n y at }

  item_fits : (n : ℕ) (i : Item) → slice_get x.expanded.regions n ≡ Some (region_of i) → IsKept i → AreAt (slice_index x.addresses n) i.size
  item_fits n i at kept = record { whole = whole_kept i (slice_index x.addresses n) i.address refl kept (placed_there x placed n (region_of i) at).0; end = ends n (region_of i) at }

  placed_fits : (n : ℕ) (t : Thing) → slice_get (placed_things x.expanded.lawful) n ≡ Some t → AreAt (slice_index x.addresses n) t.size
  placed_fits n t at =
      let r = x.expanded.lawful in
      let i = first_at (IsThingOf r (source_of r)) (placed_items (source_of r)) (placed_things r) n t (placed_by_index r placed.resolved) at in
      let kept = all_at IsKept (placed_items (source_of r)) n i.0 (items_kept (source_of r) (rules_of placed.lawful).rule_4) i.1 in
      subst (AreAt (slice_index x.addresses n)) (sym (ap (λ (y : Region). y.size) i.2.region))
      (item_fits n i.0 (region_there x placed n t at ∙ ap Some i.2.region) kept)

  -- a region of memory
  pub region_fits : (n : ℕ) (m : SourceRegion) → slice_get x.expanded.lawful.memory n ≡ Some m → AreAt (slice_index x.addresses n) m.size
  region_fits n m e = placed_fits n (own_thing (n, m)) (own_at x.expanded.lawful n m e)

  device_fits : (n : ℕ) (t : Thing) → slice_get (device_things x.expanded.lawful) n ≡ Some t → AreAt (unwrap_or t.fixed 0) t.size
  device_fits n t at =
      let r = x.expanded.lawful in
      let i = first_at (IsThingOf r (source_of r)) (device_items (source_of r)) (device_things r) n t (devices_by_index r placed.resolved) at in
      let kept = all_at IsKeptThere (device_items (source_of r)) n i.0 (device_items_kept (source_of r) (rules_of placed.lawful).rule_4) i.1 in
      subst (λ (y : Region). AreAt (unwrap_or y.fixed 0) y.size) (sym i.2.region)
      (subst (λ o. AreAt (unwrap_or o 0) i.0.size) (sym kept.is) (whole_physical kept.address i.0.size (kept.kept.fixed kept.address kept.is).0))

  -- **what a window shows**, where it shows the whole of it
  pub whole_fits : (w : GrantedWindow) → IsWhole x.expanded.lawful w → AreAt (address_of x w.thing) w.size
  whole_fits w h =
      each_number x placed AreAt (record {
        thing = placed_fits;
        device = device_fits;
        state = λ k s at. kernel_fits (kernel_first x.expanded.lawful k) (anywhere Kernel s.name StatePart PAGE) at refl refl;
      }) w.thing w.size h
