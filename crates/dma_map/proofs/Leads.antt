-- Where the windows of a device lead.
use Rattle.std.proofs.Common.{◌≡◌, ◌∙◌, inl, inr, refl, sym, ap, subst, arith, ℕ, ◌+◌, ◌-◌, ◌<◌, ◌≤◌, true, false, cond, List, [], ◌∷◌, get_or, map, All, Option, Some, None}
use Rattle.std.specs.Prelude.{if◌then◌else◌, nat_le, nat_lt, slice_get}
use Rattle.std.specs.List.{AllPairs, filter_map, find}
use Rattle.std.specs.List.Sorted.{IsPermutation}
use Rattle.std.specs.Option.{option_map_or}
use Rattle.std.proofs.lemmas.Bool.{and_parts, and_right, cases_lt, le-leb, le-ltb, leb-true, lt-leb, lt-ltb, ltb-true}
use Rattle.std.proofs.lemmas.List.Elements.{All-head, All-tail}
use Rattle.std.proofs.lemmas.List.Sorted.{All-permutation}
use Rattle.ept_emit.specs.Pages.{guest_range_of}
use Rattle.ept_emit.specs.declared.window.GuestRange.{GuestRange}
use Rattle.ept_emit.specs.declared.window.Window.{Window as Mapped}
use Rattle.expand_kernel.specs.Grants.{is_lower}
use Rattle.expand_kernel.specs.Ordered.{in_order}
use Rattle.expand_kernel.proofs.Ordered.{in_order_permutes, map_in_order}
use Rattle.muen_num.specs.declared.access.AccessKind.{AccessKind}
use Rattle.muen_num.proofs.FoundOnce.{found_permuted}
use Rattle.muen_num.proofs.Indexed.{found_only, pairs_at}
use Rattle.muen_num.proofs.Lists.{all_at}
use Rattle.muen_num.proofs.Members.{all_from, at_in, index_in}
use Rattle.muen_num.proofs.Options.{from_some}
use Rattle.muen_num.proofs.Pairs.{pairs_unmapped}
use Rattle.span_emit.proofs.PairLaws.{pairs_nil}
use Rattle.policy_lawful.specs.Dma.{dma_windows, domain_of, domain_windows}
use Rattle.policy_lawful.specs.Resolution.{source_of}
use Rattle.policy_lawful.specs.Rights.{allows}
use Rattle.policy_lawful.specs.Thing.{Thing, region}
use Rattle.policy_lawful.specs.Windows.{Window, access_by, byte, holds, region_window, violation, window}
use Rattle.policy_lawful.specs.source.Domain.{Domain}
use Rattle.policy_lawful.specs.source.Mapping.{Mapping}
use Rattle.policy_lawful.specs.source.Region.{Region}
use Rattle.policy_lawful.specs.source.Source.{Source}
use Rattle.region_alloc.specs.Placed.{IsPlaced, Placement}
use Rattle.dma_emit.specs.Domains.{is_lower_window, region_address_of, windows_of}
use Rattle.dma_emit.specs.Reached.{placed_at, thing_byte_address}
use Rattle.dma_emit.proofs.DomainWindows.{are_windows}
use Rattle.dma_emit.proofs.Found.{made_from}
use Rattle.dma_map.specs.DmaMapText.{rising_windows, thing_address}
use Rattle.dma_map.specs.Told.{IsOutside, LeadAsTold, LeadNowhereElse, RiseApart, declared_at}
use Rattle.dma_map.proofs.Rows.{kept, mapped_is, mapped_of, none_rising, rising_are}

-- ---- windows of regions

-- domains have windows on regions
abbrev IsOfRegion : Window Thing → Type 0
IsOfRegion w = (name : List ℕ) × (w.thing ≡ region name)

of_regions : (x : Placement) (ms : List Mapping) (k : ℕ) (w : Window Thing)
    → slice_get (filter_map (λ m. region_window (source_of x.expanded.lawful) m.region m.virtual_address m.rights) ms) k ≡ Some w → IsOfRegion w
of_regions x ms k w at =
    let from = made_from (λ (m : Mapping). region_window (source_of x.expanded.lawful) m.region m.virtual_address m.rights) ms w (at_in _ k w at) in
    let r = from_some (λ (r : Region). window from.0.virtual_address r.size from.0.rights (region r.name)) _ w from.2 in
    (r.0.name, sym (ap (λ (w : Window Thing). w.thing) r.2))

begins : (x : Placement) (thing : Thing) (name : List ℕ) (offset : ℕ) → thing ≡ region name → thing_byte_address x thing offset ≡ Some (thing_address x thing + offset)
begins x thing name offset is =
    let same : region_address_of x name + offset ≡ region_address_of x name + 0 + offset = omega arith in
    ap (λ t. thing_byte_address x t offset) is ∙ ap Some same ∙ sym (ap (λ t. Some (thing_address x t + offset)) is)

-- ---- the windows of a device rise

abbrev IsBefore : Window Thing → Window Thing → Type 0
IsBefore a b = a.guest + a.size ≤ b.guest

module _ (x : Placement) (placed : IsPlaced x) (device : List ℕ) (d : Domain) (stands : domain_of (source_of x.expanded.lawful) device ≡ Some d) where
  abbrev ws : List (Window Thing)
  ws = domain_windows (source_of x.expanded.lawful) d

  mapped_in_order : windows_of x d ≡ map (mapped_of x) (in_order is_lower ws)
  unfolding windows_of
  mapped_in_order = ap (in_order is_lower_window) (mapped_is x d.memory) ∙ sym (map_in_order (mapped_of x) is_lower_window ws)

  in_order_rise : AllPairs IsBefore (in_order is_lower ws)
  in_order_rise =
      let all = pairs_unmapped guest_range_of (λ (a b : GuestRange). a.guest + a.size ≤ b.guest) (windows_of x d) (are_windows x placed d (kept x placed device d stands)).apart in
      pairs_unmapped (mapped_of x) (λ (a b : Mapped). a.guest + a.size ≤ b.guest) (in_order is_lower ws)
      (subst (AllPairs (λ (a b : Mapped). a.guest + a.size ≤ b.guest)) mapped_in_order all)

  rise_in : AllPairs IsBefore (rising_windows x device)
  rise_in = subst (AllPairs IsBefore) (sym (rising_are x placed device d stands)) in_order_rise

pub rise : (x : Placement) → IsPlaced x → RiseApart x
rise x placed device =
    elim (domain_of (source_of x.expanded.lawful) device) as (λ o. domain_of (source_of x.expanded.lawful) device ≡ o → AllPairs IsBefore (rising_windows x device)) [
      | None ↦ λ e. subst (AllPairs IsBefore) (sym (none_rising x device e)) (pairs_nil IsBefore)
      | Some d ↦ λ e. rise_in x placed device d e
    ] refl

-- ---- the window that holds an address

-- no two that follow each other hold one address
not_two : (a b : Window Thing) (addr : ℕ) → IsBefore a b → holds a addr ≡ true → holds b addr ≡ true → ⊥
not_two a b addr before p q =
    let first = and_parts (nat_le a.guest addr) (nat_lt addr (a.guest + a.size)) p in
    let second = and_parts (nat_le b.guest addr) (nat_lt addr (b.guest + b.size)) q in
    let high : addr < a.guest + a.size = ltb-true addr (a.guest + a.size) first.1 in
    let low : b.guest ≤ addr = leb-true b.guest addr second.0 in
    omega (arith, before, high, low)

only_one : (ws : List (Window Thing)) (addr k m : ℕ) (w v : Window Thing) → AllPairs IsBefore ws → slice_get ws k ≡ Some w → slice_get ws m ≡ Some v → holds w addr ≡ true → holds v addr ≡ true → m ≡ k
only_one ws addr k m w v all at to p q =
    elim (cases_lt m k) [
      | inl less ↦ absurd (not_two v w addr (pairs_at IsBefore ws m k v w all less to at) q p)
      | inr more ↦ elim (cases_lt k m) [
        | inl less ↦ absurd (not_two w v addr (pairs_at IsBefore ws k m w v all less at to) p q)
        | inr few ↦ omega (arith, more, few)
      ]
    ]

outside : (w : Window Thing) (addr : ℕ) → IsOutside addr w → holds w addr ≡ false
outside w addr (inl low) = rw (lt-leb w.guest addr low) refl
outside w addr (inr high) = and_right (nat_le w.guest addr) (nat_lt addr (w.guest + w.size)) (le-ltb addr (w.guest + w.size) high)

inside : (w : Window Thing) (offset : ℕ) → offset < w.size → holds w (w.guest + offset) ≡ true
inside w offset within =
    let low : w.guest ≤ w.guest + offset = omega arith in
    let high : w.guest + offset < w.guest + w.size = omega (arith, within) in
    rw (le-leb w.guest (w.guest + offset) low, lt-ltb (w.guest + offset) (w.guest + w.size) high) refl

none_holds : (ws : List (Window Thing)) (addr : ℕ) → All (IsOutside addr) ws → find (λ w. holds w addr) ws ≡ None
none_holds [] addr all = refl
none_holds (w ∷ ws) addr all =
    let out : holds w addr ≡ false = outside w addr (All-head (IsOutside addr) w ws all) in
    ap (λ b. cond b (Some w) (find (λ w. holds w addr) ws)) out ∙ none_holds ws addr (All-tail (IsOutside addr) w ws all)

by_right : (x : Placement) (w : Window Thing) (addr offset : ℕ) (kind : AccessKind) → addr - w.guest ≡ offset → (name : List ℕ) → w.thing ≡ region name
    → placed_at x (access_by (Some w) addr kind) ≡ (if allows w.rights kind then Some (thing_address x w.thing + offset) else None)
by_right x w addr offset kind back name is =
    elim (allows w.rights kind) as (λ b. placed_at x (if b then byte w.thing (addr - w.guest) else violation (Some w.rights)) ≡ (if b then Some (thing_address x w.thing + offset) else None)) [
      | true ↦ ap (thing_byte_address x w.thing) back ∙ begins x w.thing name offset is
      | false ↦ refl
    ]

module _ (x : Placement) (placed : IsPlaced x) (device : List ℕ) where
  abbrev p : Source
  p = source_of x.expanded.lawful

  moved : IsPermutation (dma_windows p device) (rising_windows x device)
  unfolding rising_windows
  moved = in_order_permutes is_lower (dma_windows p device)

  -- what holds an address among the device's windows, in any order
  held : (addr : ℕ) → find (λ w. holds w addr) (dma_windows p device) ≡ find (λ w. holds w addr) (rising_windows x device)
  held addr =
      found_permuted (λ w. holds w addr) (dma_windows p device) (rising_windows x device) moved
      (λ j k w l n. not_two (get_or (rising_windows x device) j w) (get_or (rising_windows x device) k w) addr (rise x placed device j k w l n))

  regions_in : (o : Option Domain) (k : ℕ) (w : Window Thing) → slice_get (option_map_or (domain_windows p) o []) k ≡ Some w → IsOfRegion w
  regions_in None k w at = absurd (cc)
  regions_in (Some d) k w at = of_regions x d.memory k w at

  of_region : (k : ℕ) (w : Window Thing) → slice_get (rising_windows x device) k ≡ Some w → IsOfRegion w
  of_region k w at =
      let all = All-permutation IsOfRegion (dma_windows p device) (rising_windows x device) moved (all_from IsOfRegion (dma_windows p device) (λ v i. let n = index_in (dma_windows p device) v i in regions_in (domain_of p device) n.0 v n.1)) in
      all_at IsOfRegion (rising_windows x device) k w all at

  pub lead_in : (k offset : ℕ) (w : Window Thing) (kind : AccessKind) → slice_get (rising_windows x device) k ≡ Some w → offset < w.size
      → declared_at x device (w.guest + offset) kind ≡ (if allows w.rights kind then Some (thing_address x w.thing + offset) else None)
  lead_in k offset w kind at within =
      let addr : ℕ = w.guest + offset in
      let it : holds w addr ≡ true = inside w offset within in
      let found : find (λ w. holds w addr) (dma_windows p device) ≡ Some w =
      held addr ∙ found_only (λ w. holds w addr) (rising_windows x device) k w at it (λ m y to q. only_one (rising_windows x device) addr k m w y (rise x placed device) at to it q) in
      let r = of_region k w at in
      let back : w.guest + offset - w.guest ≡ offset = omega arith in
      ap (λ o. placed_at x (access_by o addr kind)) found ∙ by_right x w addr offset kind back r.0 r.1

  pub nowhere_in : (addr : ℕ) (kind : AccessKind) → All (IsOutside addr) (rising_windows x device) → declared_at x device addr kind ≡ None
  nowhere_in addr kind out = ap (λ o. placed_at x (access_by o addr kind)) (held addr ∙ none_holds (rising_windows x device) addr out)

pub lead : (x : Placement) → IsPlaced x → LeadAsTold x
lead x placed device k offset w kind at within = lead_in x placed device k offset w kind at within

pub nowhere : (x : Placement) → IsPlaced x → LeadNowhereElse x
nowhere x placed device addr kind out = nowhere_in x placed device addr kind out
