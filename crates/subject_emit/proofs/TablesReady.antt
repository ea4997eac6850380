-- A subject of a placed policy has what its tables need.
use Rattle.std.proofs.Common.{◌≡◌, ℕ, ◌+◌, ◌*◌, ◌<◌, List, length, get_or, Some, refl, ap, subst, sym, ◌∙◌, arith}
use Rattle.std.specs.Prelude.{slice_get}
use Rattle.std.proofs.lemmas.Option.{get_or_from_slice_get, slice_get_within}
use Rattle.std.proofs.lemmas.Slice.Zip.{AllZip-long}
use Rattle.ept_emit.specs.Pages.{AreApart, ept_pages, ranges_of}
use Rattle.expand_kernel.proofs.GrantedWindows.{guests_granted, windows_whole}
use Rattle.expand_kernel.specs.Grants.{AreGrantsOf}
use Rattle.expand_kernel.specs.granted.Grants.{Grants}
use Rattle.expand_kernel.specs.ByIndex.{CanMap, granted_ranges, kernel_first}
use Rattle.expand_kernel.specs.Regions.{anywhere, kernel_regions}
use Rattle.expand_kernel.specs.thing.Region.{Region}
use Rattle.expand_kernel.specs.thing.RegionKind.TheVariants.{Kernel}
use Rattle.expand_kernel.proofs.Numbering.{can_map_granted, kernel_region_at, regions_many}
use Rattle.muen_num.proofs.Pairs.{first_at}
use Rattle.muen_num.specs.declared.limits.TheConstants.{PAGE}
use Rattle.muen_num.specs.declared.tag.TagPart.TheVariants.{Ept}
use Rattle.policy_lawful.specs.Resolution.{Resolution}
use Rattle.policy_lawful.specs.declared.resolved.Subject.{Subject}
use Rattle.region_alloc.proofs.AddressesFit.{AreAt, kernel_fits}
use Rattle.region_alloc.specs.Placed.{IsPlaced, Placement}
use Rattle.subject_emit.specs.Mapped.{mapped_windows}
use Rattle.subject_emit.specs.Pages.{tables_at}
use Rattle.subject_emit.specs.Ready.{IsReady}
use Rattle.subject_emit.proofs.Emittable.{all_emittable}
use Rattle.subject_emit.proofs.SamePages.{pages_same, ranges_same}

module _ (x : Placement) (placed : IsPlaced x) where
  abbrev r : Resolution
  r = x.expanded.lawful

  -- addresses are as many as regions
  pub addresses_many : length x.addresses ≡ kernel_first r (length r.subjects)
  addresses_many = AllZip-long _ x.expanded.regions x.addresses placed.inside ∙ regions_many r placed.resolved x.expanded.grants placed.expansion.grants x.expanded.regions placed.expansion.regions

  -- a region of the kernel has its number
  pub kernel_at : (k j : ℕ) (s : Subject) (g : Grants) (y : Region) → slice_get r.subjects k ≡ Some s → slice_get x.expanded.grants k ≡ Some g
      → slice_get (kernel_regions s.name (ept_pages (granted_ranges g.windows))) j ≡ Some y → slice_get x.expanded.regions (kernel_first r k + j) ≡ Some y
  kernel_at = kernel_region_at r placed.resolved x.expanded.grants placed.expansion.grants x.expanded.regions placed.expansion.regions

  module _ (k : ℕ) (g : Grants) (at : slice_get x.expanded.grants k ≡ Some g) where
    tables_region : List ℕ → Region
    tables_region name = anywhere Kernel name Ept (ept_pages (granted_ranges g.windows) * PAGE)

    subject : (s : Subject) × (slice_get r.subjects k ≡ Some s) × AreGrantsOf r s g
    subject = first_at (AreGrantsOf r) r.subjects x.expanded.grants k g placed.expansion.grants at

    pub subject_there : k < length r.subjects
    subject_there = slice_get_within r.subjects k subject.0 subject.1

    -- the region of the tables has a number, and as many bytes as they take
    region_is : slice_get x.expanded.regions (kernel_first r k + 1) ≡ Some (tables_region subject.0.name)
    unfolding tables_region
    region_is = kernel_at k 1 subject.0 g (tables_region subject.0.name) subject.1 at refl

    pub region_there : kernel_first r k + 1 < length x.expanded.regions
    region_there = slice_get_within x.expanded.regions (kernel_first r k + 1) (tables_region subject.0.name) region_is

    pub region_size : (d : Region) → (get_or x.expanded.regions (kernel_first r k + 1) d).size ≡ PAGE * ept_pages (ranges_of (mapped_windows x g))
    unfolding tables_region
    region_size d =
        let same = pages_same x g in
        ap (λ (y : Region). y.size) (get_or_from_slice_get x.expanded.regions (kernel_first r k + 1) (tables_region subject.0.name) d region_is)
        ∙ omega (arith, same)

    pub tables_there : AreAt (tables_at x k) (ept_pages (granted_ranges g.windows) * 4096)
    unfolding tables_region
    tables_there = kernel_fits x placed (kernel_first r k + 1) (tables_region subject.0.name) region_is refl refl

    pub ready : IsReady x k g
    ready =
        let whole = windows_whole r placed.resolved k subject.0 subject.1 g subject.2 in
        let guests = guests_granted r placed.resolved k subject.0 subject.1 placed.lawful g subject.2 in
        let can : CanMap g.windows =
        subst (λ g. CanMap g.windows) (get_or_from_slice_get x.expanded.grants k g g at)
        (can_map_granted r x.expanded.grants placed.lawful placed.expansion.grants k g (slice_get_within x.expanded.grants k g at)) in
        let same = pages_same x g in
        let end = tables_there.end in
        record {
          there = subject_there;
          whole = whole;
          emittable = all_emittable x placed g guests whole;
          apart = subst AreApart (sym (ranges_same x g)) can.apart;
          at = tables_there.whole;
          end = omega (arith, same, end);
        }
