-- The windows of the domains of a placed policy: tables can be emitted for them.
use Rattle.std.proofs.Common.{◌≡◌, inl, inr, ℕ, ◌+◌, ◌%◌, ◌<◌, ◌≤◌, All, true, List, get_or, Some, None, refl, sym, ap, ◌∙◌, subst, arith}
use Rattle.std.specs.Prelude.{◌&&◌, nat_le, option_map, slice_index}
use Rattle.std.specs.List.{AllPairs, filter_map, find, list_all, position_or_len}
use Rattle.std.specs.List.Sorted.{IsPermutation}
use Rattle.std.specs.Option.{option_map_or}
use Rattle.std.specs.Str.{bytes_eq}
use Rattle.std.proofs.lemmas.Bool.{and_parts, eqb-true, leb-true, ltb-true, ne_eqb, or_cases}
use Rattle.std.proofs.lemmas.List.Elements.{All-weaker}
use Rattle.std.proofs.lemmas.List.Sorted.{All-permutation}
use Rattle.dma_emit.specs.Domains.{is_lower_window, mapped, region_address_of, region_mapped, windows_of}
use Rattle.dma_emit.specs.Ready.{AreDomainWindows, HaveDifferentGuests, IsForDevices}
use Rattle.dma_emit.proofs.DomainRules.{IsDomain, IsWindow, domains_kept}
use Rattle.dma_emit.proofs.Found.{all_made, found_at, pairs_made, position_found}
use Rattle.dma_emit.proofs.Ranges.{AreTwo as AreApart, ascending, two_moved}
use Rattle.ept_emit.specs.Entries.{IsEmittable}
use Rattle.ept_emit.specs.Pages.{guest_range_of}
use Rattle.ept_emit.specs.declared.window.GuestRange.{GuestRange}
use Rattle.ept_emit.specs.declared.window.Window.{Window}
use Rattle.expand_kernel.proofs.Ordered.{in_order_permutes}
use Rattle.muen_num.specs.declared.limits.TheConstants.{PAGE}
use Rattle.muen_num.proofs.Lists.{found_among}
use Rattle.muen_num.proofs.Pairs.{pairs_mapped}
use Rattle.policy_lawful.specs.Domains.{domain_extent, region_size}
use Rattle.policy_lawful.specs.Resolution.{source_of}
use Rattle.policy_lawful.specs.Rules.{are_apart, is_alignment, is_fixed, is_laid, is_page_size}
use Rattle.muen_num.specs.Numbers.{is_page_aligned}
use Rattle.policy_lawful.proofs.KeptAddresses.{addresses_kept}
use Rattle.policy_lawful.proofs.KeptRules.{rules_of}
use Rattle.policy_lawful.specs.source.Domain.{Domain}
use Rattle.policy_lawful.specs.source.Mapping.{Mapping}
use Rattle.policy_lawful.specs.source.Region.{Region as SourceRegion}
use Rattle.region_alloc.specs.Placed.{IsPlaced, Placement}
use Rattle.region_alloc.proofs.AddressesFit.{AreAt, region_fits}
use Rattle.span_emit.proofs.Placed.{IsPlaced as IsLaidOut, is_placed}

-- two windows share no address
abbrev pub AreTwo : Window → Window → Type 0
AreTwo a b = AreApart (λ (w : Window). w.guest) (λ (w : Window). w.size) a b

-- a window with the mapping and the region that it is made of
record IsMade (x : Placement) (m : Mapping) (w : Window) : Type 0 where
  region : SourceRegion
  found : find (λ r. bytes_eq r.name m.region) x.expanded.lawful.memory ≡ Some region
  is : region_mapped x m region ≡ w

made : (x : Placement) (m : Mapping) (w : Window) → mapped x m ≡ Some w → IsMade x m w
made x m w e =
    elim (find (λ r. bytes_eq r.name m.region) x.expanded.lawful.memory) as (λ o. find (λ r. bytes_eq r.name m.region) x.expanded.lawful.memory ≡ o → option_map (region_mapped x m) o ≡ Some w → IsMade x m w) [
      | None ↦ λ is some. absurd (cc)
      | Some r ↦ λ is some. record { region = r; found = is; is = cc }
    ] refl e

module _ (x : Placement) (placed : IsPlaced x) where
  pub laid_out : IsLaidOut x.expanded.lawful.memory_blocks x.expanded.lawful.devices x.expanded.regions x.addresses
  laid_out = is_placed x.expanded.lawful x.expanded.regions x.addresses placed.lawful placed.expansion.regions placed.placement placed.inside placed.disjoint

  -- ---- where a region lies

  place_is : (name : List ℕ) (r : SourceRegion) → find (λ r. bytes_eq r.name name) x.expanded.lawful.memory ≡ Some r → region_address_of x name ≡ get_or x.addresses (position_or_len (λ r. bytes_eq r.name name) x.expanded.lawful.memory) 0
  place_is name r e = ap (λ o. option_map_or (slice_index x.addresses) o 0) (position_found (λ r. bytes_eq r.name name) x.expanded.lawful.memory r e)

  is_at : (name : List ℕ) (r : SourceRegion) → find (λ r. bytes_eq r.name name) x.expanded.lawful.memory ≡ Some r → AreAt (region_address_of x name) r.size
  is_at name r e =
      subst (λ a. AreAt a r.size) (sym (place_is name r e))
      (region_fits x placed (position_or_len (λ r. bytes_eq r.name name) x.expanded.lawful.memory) r (found_at (λ r. bytes_eq r.name name) x.expanded.lawful.memory r e))

  -- ---- a window

  laid : list_all is_laid x.expanded.lawful.memory ≡ true
  unfolding source_of
  laid = (addresses_kept (source_of x.expanded.lawful) (rules_of placed.lawful).rule_4).regions

  size_is : (m : Mapping) (r : SourceRegion) → find (λ r. bytes_eq r.name m.region) x.expanded.lawful.memory ≡ Some r → region_size (source_of x.expanded.lawful) m.region ≡ r.size
  unfolding source_of
  size_is m r e = ap (λ o. option_map_or (λ (r : SourceRegion). r.size) o 0) e

  record IsPages (size : ℕ) : Type 0 where
    some : 0 < size
    whole : size % PAGE ≡ 0

  pages_of : (m : Mapping) (r : SourceRegion) → find (λ r. bytes_eq r.name m.region) x.expanded.lawful.memory ≡ Some r → IsPages r.size
  pages_of m r e =
      let fine = found_among (λ r. bytes_eq r.name m.region) is_laid x.expanded.lawful.memory r e laid in
      let both = and_parts (is_page_size r.size && is_alignment r.alignment) (is_fixed r r.physical_address) fine in
      let size = (and_parts (is_page_size r.size) (is_alignment r.alignment) both.0).0 in
      let parts = and_parts (is_page_aligned r.size) _ size in
      record { some = ltb-true 0 r.size parts.1; whole = eqb-true (r.size % PAGE) 0 parts.0 }

  emittable : (m : Mapping) (w : Window) → IsWindow (source_of x.expanded.lawful) m → mapped x m ≡ Some w → IsEmittable w
  emittable m w h e =
      let q = made x m w e in
      let r = q.region in
      let pages = pages_of m r q.found in
      let at = is_at m.region r q.found in
      let size = size_is m r q.found in
      let end = h.end in
      let aligned : m.virtual_address % PAGE ≡ 0 = eqb-true (m.virtual_address % PAGE) 0 h.aligned in
      subst IsEmittable q.is (record {
        some = pages.some;
        guest = aligned;
        size = pages.whole;
        address = at.whole;
        end = omega arith;
        address_end = at.end;
        aligned = at.whole ∙ sym aligned;
      })

  for_devices : (m : Mapping) (w : Window) → IsWindow (source_of x.expanded.lawful) m → mapped x m ≡ Some w → IsForDevices w
  for_devices m w h e =
      let q = made x m w e in
      subst IsForDevices q.is (record { leaf = refl; caching = refl; rights = h.rights })

  two_of : (a b : Mapping) (u v : Window) → are_apart (domain_extent (source_of x.expanded.lawful) a) (domain_extent (source_of x.expanded.lawful) b) ≡ true → mapped x a ≡ Some u → mapped x b ≡ Some v → AreTwo u v
  two_of a b u v h e f =
      let p = made x a u e in
      let q = made x b v f in
      let first = size_is a p.region p.found in
      let second = size_is b q.region q.found in
      let first_is : (a.virtual_address ≡ u.guest) × (p.region.size ≡ u.size) = (ap (λ (w : Window). w.guest) p.is, ap (λ (w : Window). w.size) p.is) in
      let second_is : (b.virtual_address ≡ v.guest) × (q.region.size ≡ v.size) = (ap (λ (w : Window). w.guest) q.is, ap (λ (w : Window). w.size) q.is) in
      let s = source_of x.expanded.lawful in
      elim (or_cases (nat_le (a.virtual_address + region_size s a.region) b.virtual_address) (nat_le (b.virtual_address + region_size s b.region) a.virtual_address) h) [
        | inl before ↦
            let l = leb-true (a.virtual_address + region_size s a.region) b.virtual_address before in
            inl (omega (arith, l, first_is.0, first_is.1, second_is.0))
        | inr behind ↦
            let l = leb-true (b.virtual_address + region_size s b.region) a.virtual_address behind in
            inr (omega (arith, l, first_is.0, second_is.0, second_is.1))
      ]

  -- ---- those of a domain

  module _ (d : Domain) (kept : IsDomain (source_of x.expanded.lawful) d) where
    abbrev in_turn : List Window
    in_turn = filter_map (mapped x) d.memory

    each_emittable : All IsEmittable in_turn
    each_emittable = all_made (IsWindow (source_of x.expanded.lawful)) IsEmittable (mapped x) (λ m w h e. emittable m w h e) d.memory kept.windows

    each_for_devices : All IsForDevices in_turn
    each_for_devices = all_made (IsWindow (source_of x.expanded.lawful)) IsForDevices (mapped x) (λ m w h e. for_devices m w h e) d.memory kept.windows

    each_two : AllPairs AreTwo in_turn
    each_two =
        pairs_made (λ a b. are_apart (domain_extent (source_of x.expanded.lawful) a) (domain_extent (source_of x.expanded.lawful) b) ≡ true) AreTwo (mapped x) (λ a b u v r e f. two_of a b u v r e f) d.memory kept.apart

    pub different : HaveDifferentGuests in_turn
    different = λ i j w l m.
        let some = (each_emittable i w (omega (arith, l, m))).some in
        let more = (each_emittable j w m).some in
        elim (each_two i j w l m) [
          | inl first ↦ ne_eqb _ _ (λ e. omega arith)
          | inr behind ↦ ne_eqb _ _ (λ e. omega arith)
        ]

    moved : IsPermutation in_turn (windows_of x d)
    unfolding windows_of
    moved = in_order_permutes is_lower_window in_turn

    pub are_two : AllPairs AreTwo (windows_of x d)
    are_two = two_moved (λ (w : Window). w.guest) (λ (w : Window). w.size) in_turn (windows_of x d) moved each_two

    pub all_emittable : All IsEmittable (windows_of x d)
    all_emittable = All-permutation IsEmittable in_turn (windows_of x d) moved each_emittable

    ascend : AllPairs (λ a b. a.guest + a.size ≤ b.guest) (windows_of x d)
    unfolding windows_of
    ascend = ascending (λ (w : Window). w.guest) (λ (w : Window). w.size) in_turn (All-weaker IsEmittable (λ w. 0 < w.size) (λ w fine. fine.some) in_turn each_emittable) each_two

    pub are_windows : AreDomainWindows (windows_of x d)
    are_windows = record {
      emittable = all_emittable;
      apart = pairs_mapped guest_range_of (λ (a b : GuestRange). a.guest + a.size ≤ b.guest) (windows_of x d) ascend;
      for_devices = All-permutation IsForDevices in_turn (windows_of x d) moved each_for_devices;
    }

  -- ---- of all domains

  pub each_domain : All (IsDomain (source_of x.expanded.lawful)) x.expanded.lawful.device_domains
  unfolding source_of
  each_domain = domains_kept (source_of x.expanded.lawful) (rules_of placed.lawful).rule_22
