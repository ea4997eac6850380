-- The windows of a device, as its domain has them and in order.
use Rattle.std.proofs.Common.{◌≡◌, ◌∙◌, refl, sym, ap, subst, arith, ℕ, ◌+◌, false, List, [], ◌∷◌, get_or, map, Option, Some, None}
use Rattle.std.specs.Prelude.{◌==◌, Bool, nat_le, option_map, position, slice_index}
use Rattle.std.specs.List.{AllPairs, cons_option, filter_map, find, list_any}
use Rattle.std.specs.List.Sorted.{IsNonDecreasingBy, IsPermutation}
use Rattle.std.specs.Option.{option_map_or}
use Rattle.std.specs.Str.{bytes_eq}
use Rattle.std.proofs.lemmas.Option.{get_or_from_slice_get}
use Rattle.std.proofs.lemmas.Slice.Eq.{bytes_eq-Decides}
use Rattle.muen_num.proofs.Lists.{there}
use Rattle.muen_num.proofs.Lookups.{at_position}
use Rattle.muen_num.proofs.Members.{all_in, find_in}
use Rattle.muen_num.proofs.Numbers.{equal_turned, lower}
use Rattle.muen_num.proofs.Pairs.{pairs_mapped, pairs_unmapped}
use Rattle.muen_num.specs.declared.tag.TagPart.TheVariants.{Whole}
use Rattle.ept_emit.specs.declared.window.Leaf.TheVariants.{Small}
use Rattle.ept_emit.specs.declared.window.Window.{Window as Mapped}
use Rattle.expand_kernel.specs.Grants.{is_lower}
use Rattle.expand_kernel.specs.Ordered.{in_order}
use Rattle.expand_kernel.proofs.Ordered.{map_in_order, ordered_is}
use Rattle.span_emit.proofs.PairLaws.{pairs_permuted}
use Rattle.policy_lawful.specs.Dma.{domain_of, domain_windows}
use Rattle.policy_lawful.specs.Resolution.{source_of}
use Rattle.policy_lawful.specs.Thing.{Thing, region}
use Rattle.policy_lawful.specs.Windows.{Window, region_window, window}
use Rattle.policy_lawful.specs.rights.Caching.TheVariants.{Uc}
use Rattle.policy_lawful.specs.source.Domain.{Domain}
use Rattle.policy_lawful.specs.source.Mapping.{Mapping}
use Rattle.policy_lawful.specs.source.Region.{Region}
use Rattle.region_alloc.specs.Placed.{IsPlaced, Placement}
use Rattle.dma_emit.specs.Domains.{mapped, region_address_of, region_mapped}
use Rattle.dma_emit.specs.Ready.{HaveDifferentGuests, same_device_address}
use Rattle.dma_emit.proofs.DomainRules.{IsDomain}
use Rattle.dma_emit.proofs.DomainWindows.{different, each_domain}
use Rattle.dma_emit.proofs.PlacesThere.{position_within}
use Rattle.dma_map.specs.DmaMapText.{rising_windows, thing_address, window_shown, windows_shown}
use Rattle.dma_map.specs.Rows.{row}
use Rattle.dma_map.specs.declared.window.DeviceWindow.{DeviceWindow}

-- ---- a window of a domain

pub row_at : (x : Placement) (device : List ℕ) (m : Mapping) (memory : List Region) (addresses : List ℕ) (n : ℕ) (d : Region) → memory ≡ x.expanded.lawful.memory → addresses ≡ x.addresses → position (λ r. bytes_eq r.name m.region) memory ≡ Some n
    → Some (record { device = device; addr = m.virtual_address; physical = get_or addresses n 0; size = (get_or memory n d).size; rights = m.rights; region = record { owner = m.region; part = Whole } }) ≡ row x device m
unfolding source_of
row_at x device m memory addresses n d is lie at =
    let rs = x.expanded.lawful.memory in
    let number : position (λ r. bytes_eq r.name m.region) rs ≡ Some n = ap (position (λ r. bytes_eq r.name m.region)) (sym is) ∙ at in
    let one = there rs n (position_within (λ r. bytes_eq r.name m.region) rs n number) in
    let found : find (λ r. bytes_eq r.name m.region) rs ≡ Some one.0 = sym (at_position (λ r. bytes_eq r.name m.region) rs n number) ∙ one.1 in
    let name : m.region ≡ one.0.name = sym ((bytes_eq-Decides one.0.name m.region).0 (find_in (λ r. bytes_eq r.name m.region) rs one.0 found).1) in
    let size : (get_or memory n d).size ≡ one.0.size = ap (λ ms. (get_or ms n d).size) is ∙ ap (λ (r : Region). r.size) (get_or_from_slice_get rs n one.0 d one.1) in
    let lies : get_or addresses n 0 ≡ region_address_of x m.region = ap (λ ps. get_or ps n 0) lie ∙ sym (ap (λ o. option_map_or (slice_index x.addresses) o 0) number) in
    let begins : get_or addresses n 0 ≡ region_address_of x one.0.name + 0 = lies ∙ ap (region_address_of x) name ∙ omega arith in
    (λ i. Some (record { device = device; addr = m.virtual_address; physical = begins i; size = size i; rights = m.rights; region = record { owner = name i; part = Whole } }))
    ∙ ap (λ o. option_map (window_shown x device) (option_map (λ r. window m.virtual_address r.size m.rights (region r.name)) o)) (sym found)

-- ---- the windows of a domain

made_map : {X Y Z : Type 0} (f : Y → Z) (g : X → Option Y) (xs : List X) → filter_map (λ x. option_map f (g x)) xs ≡ map f (filter_map g xs)
made_map f g [] = refl
made_map f g (x ∷ xs) =
    elim (g x) as (λ o. cons_option (option_map f o) (filter_map (λ x. option_map f (g x)) xs) ≡ map f (cons_option o (filter_map g xs))) [
      | None ↦ made_map f g xs
      | Some y ↦ ap (λ ys. f y ∷ ys) (made_map f g xs)
    ]

-- as tables map it
abbrev pub mapped_of : Placement → Window Thing → Mapped
mapped_of x w = record { guest = w.guest; size = w.size; address = thing_address x w.thing; rights = w.rights; caching = Uc; leaf = Small }

pub mapped_is : (x : Placement) (ms : List Mapping) → filter_map (mapped x) ms ≡ map (mapped_of x) (filter_map (λ m. region_window (source_of x.expanded.lawful) m.region m.virtual_address m.rights) ms)
unfolding source_of
mapped_is x [] = refl
mapped_is x (m ∷ ms) =
    let rest = mapped_is x ms in
    let us = filter_map (mapped x) ms in
    let vs = filter_map (λ m. region_window (source_of x.expanded.lawful) m.region m.virtual_address m.rights) ms in
    elim (find (λ r. bytes_eq r.name m.region) x.expanded.lawful.memory) as (λ o. find (λ r. bytes_eq r.name m.region) x.expanded.lawful.memory ≡ o
    → cons_option (option_map (region_mapped x m) o) us ≡ map (mapped_of x) (cons_option (option_map (λ r. window m.virtual_address r.size m.rights (region r.name)) o) vs)) [
      | None ↦ λ e. rest
      | Some r ↦ λ e.
          let name : m.region ≡ r.name = sym ((bytes_eq-Decides r.name m.region).0 (find_in (λ r. bytes_eq r.name m.region) x.expanded.lawful.memory r e).1) in
          let begins : region_address_of x m.region ≡ region_address_of x r.name + 0 = ap (region_address_of x) name ∙ omega arith in
          (λ i. record { guest = m.virtual_address; size = r.size; address = begins i; rights = m.rights; caching = Uc; leaf = Small } ∷ rest i)
    ] refl

module _ (x : Placement) (placed : IsPlaced x) (device : List ℕ) (d : Domain) (stands : domain_of (source_of x.expanded.lawful) device ≡ Some d) where
  abbrev pub granted : List (Window Thing)
  granted = domain_windows (source_of x.expanded.lawful) d

  pub kept : IsDomain (source_of x.expanded.lawful) d
  unfolding source_of
  kept =
      all_in (IsDomain (source_of x.expanded.lawful)) x.expanded.lawful.device_domains (each_domain x placed) d
      (find_in (λ d. list_any (λ name. bytes_eq name device) d.devices) x.expanded.lawful.device_domains d stands).0

  granted_different : AllPairs (λ a b. (a.guest == b.guest) ≡ false) granted
  granted_different = pairs_unmapped (mapped_of x) (λ a b. same_device_address a b ≡ false) granted (subst HaveDifferentGuests (mapped_is x d.memory) (different x placed d kept))

  pub rising_are : rising_windows x device ≡ in_order is_lower granted
  unfolding rising_windows
  rising_are = ap (λ o. in_order is_lower (option_map_or (domain_windows (source_of x.expanded.lawful)) o [])) stands

  -- ---- in order

  abbrev same_address : DeviceWindow → DeviceWindow → Bool
  same_address a b = a.addr == b.addr

  abbrev is_lower_shown : DeviceWindow → DeviceWindow → Bool
  is_lower_shown a b = nat_le a.addr b.addr

  abbrev shown : List DeviceWindow
  shown = map (window_shown x device) granted

  -- what has a domain's windows as the device sees them, and rises, is those in order
  pub in_order_shown : (ys : List DeviceWindow) → IsPermutation (filter_map (row x device) d.memory) ys → IsNonDecreasingBy (λ w. w.addr) ys → ys ≡ windows_shown x device
  in_order_shown ys moved rising =
      let from : IsPermutation shown ys =
      subst (λ rs. IsPermutation rs ys) (made_map (window_shown x device) (λ m. region_window (source_of x.expanded.lawful) m.region m.virtual_address m.rights) d.memory) moved in
      let differ = pairs_mapped (window_shown x device) (λ a b. same_address a b ≡ false) granted granted_different in
      let apart = pairs_permuted same_address (λ a b. equal_turned a.addr b.addr) shown ys from differ in
      sym (ordered_is is_lower_shown shown ys from (λ i j e l m. lower (get_or ys i e).addr (get_or ys j e).addr (rising i j e (omega (arith, l)) m) (apart i j e l m)))
      ∙ sym (map_in_order (window_shown x device) is_lower_shown granted)
      ∙ ap (map (window_shown x device)) (sym rising_are)

-- a device in no domain has none
pub none_rising : (x : Placement) (device : List ℕ) → domain_of (source_of x.expanded.lawful) device ≡ None → rising_windows x device ≡ []
unfolding rising_windows in_order
none_rising x device e = ap (λ o. in_order is_lower (option_map_or (domain_windows (source_of x.expanded.lawful)) o [])) e
