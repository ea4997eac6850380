-- By the domains of a placed policy a device gets where the policy declares.
use Rattle.std.proofs.Common.{◌≡◌, inl, inr, ℕ, ◌+◌, ◌-◌, ◌<◌, Bool, true, false, cond, List, [], ◌∷◌, get_or, length, map, Option, Some, None, refl, sym, ap, ◌∙◌, arith}
use Rattle.std.specs.Prelude.{◌&&◌, if◌then◌else◌, is_some, nat_le, nat_lt, option_and_then, option_map, slice_get}
use Rattle.std.specs.List.{cons_option, filter_map, find, list_any, position_or_len}
use Rattle.std.specs.List.Sorted.{IsPermutation}
use Rattle.std.specs.Option.{option_map_or}
use Rattle.std.specs.Str.{bytes_eq}
use Rattle.std.proofs.lemmas.Bool.{and_parts, leb-true, ltb-true}
use Rattle.std.proofs.lemmas.List.{length-map}
use Rattle.std.proofs.lemmas.Option.{get_or_from_slice_get, slice_get-map}
use Rattle.std.proofs.lemmas.Slice.Eq.{bytes_eq-Decides}
use Rattle.dma_emit.specs.declared.devices.DomainDevice.{DomainDevice}
use Rattle.dma_emit.specs.Domains.{device_at, domain_device, domain_devices, domain_number, domains_of, is_lower_window, mapped, region_address_of, region_mapped, windows_of}
use Rattle.dma_emit.specs.Layout.{domain_windows_at}
use Rattle.dma_emit.specs.Reached.{device_access_kind, placed_at}
use Rattle.dma_emit.proofs.DomainRules.{IsDomain, devices_kept}
use Rattle.dma_emit.proofs.DomainWindows.{AreTwo, are_two, each_domain}
use Rattle.dma_emit.proofs.DomainsReady.{ready, stands}
use Rattle.dma_emit.proofs.Found.{made_from, position_found}
use Rattle.muen_num.proofs.FoundOnce.{found_permuted}
use Rattle.dma_emit.proofs.Walk.{by_domains, led, led_device}
use Rattle.ept_emit.specs.Emitted.{holds as is_in, window_at}
use Rattle.ept_emit.specs.declared.window.Window.{Window}
use Rattle.expand_kernel.proofs.Ordered.{in_order_permutes}
use Rattle.muen_num.proofs.Lists.{found, there}
use Rattle.muen_num.proofs.Lookups.{at_position, same_self}
use Rattle.muen_num.proofs.Members.{In, all_in, any_in, any_some, filter_map_in, find_in, map_in, passes_in, flat_in, at_in}
use Rattle.policy_lawful.specs.Dma.{dma_access, domain_of, domain_windows}
use Rattle.policy_lawful.specs.Domains.{Listed, device_has_bdf, listed_devices}
use Rattle.policy_lawful.specs.Resolution.{source_of}
use Rattle.policy_lawful.specs.Thing.{Thing, region}
use Rattle.policy_lawful.specs.Windows.{Window as Granted, access_by, access_of, byte, holds, region_window, violation, window}
use Rattle.policy_lawful.proofs.KeptRules.{rules_of}
use Rattle.policy_lawful.specs.Rights.{allows}
use Rattle.policy_lawful.specs.source.Bdf.{Bdf}
use Rattle.policy_lawful.specs.source.Device.{Device}
use Rattle.policy_lawful.specs.source.Domain.{Domain}
use Rattle.policy_lawful.specs.source.Mapping.{Mapping}
use Rattle.policy_lawful.specs.source.Region.{Region}
use Rattle.policy_lawful.specs.source.Source.{Source}
use Rattle.region_alloc.specs.Placed.{IsPlaced, Placement}

-- where a device reads or writes by an address, by the policy's declaration
abbrev pub declared_at : Placement → List ℕ → ℕ → Bool → Option ℕ
declared_at x device addr write = placed_at x (dma_access (source_of x.expanded.lawful) device addr (device_access_kind write))

not_both : (a b : Window) (addr : ℕ) → AreTwo a b → is_in addr a ≡ true → is_in addr b ≡ true → ⊥
not_both a b addr two p q =
    let x = and_parts (nat_le a.guest addr) (nat_lt addr (a.guest + a.size)) p in
    let y = and_parts (nat_le b.guest addr) (nat_lt addr (b.guest + b.size)) q in
    let low_a = leb-true a.guest addr x.0 in
    let high_a = ltb-true addr (a.guest + a.size) x.1 in
    let low_b = leb-true b.guest addr y.0 in
    let high_b = ltb-true addr (b.guest + b.size) y.1 in
    elim two [ inl first ↦ omega arith | inr behind ↦ omega arith ]

module _ (x : Placement) (placed : IsPlaced x) where
  abbrev p : Source
  p = source_of x.expanded.lawful

  abbrev memory : List Region
  memory = x.expanded.lawful.memory

  abbrev domains : List Domain
  domains = x.expanded.lawful.device_domains

  -- ---- by the window that holds an address

  abbrev granted : Mapping → Option (Granted Thing)
  granted m = region_window p m.region m.virtual_address m.rights

  by_rights : (m : Mapping) (r : Region) (addr : ℕ) (write : Bool) → r.name ≡ m.region
      → led (Some (region_mapped x m r)) addr write ≡ placed_at x (access_by (Some (window m.virtual_address r.size m.rights (region r.name))) addr (device_access_kind write))
  by_rights m r addr write same =
      elim (allows m.rights (device_access_kind write)) as (λ b. (if b then Some (region_address_of x m.region + (addr - m.virtual_address)) else None) ≡ placed_at x (if b then byte (region r.name) (addr - m.virtual_address) else violation (Some m.rights))) [
        | true ↦ ap (λ name. Some (region_address_of x name + (addr - m.virtual_address))) (sym same)
        | false ↦ refl
      ]

  leads : (ms : List Mapping) (addr : ℕ) (write : Bool)
      → led (find (is_in addr) (filter_map (mapped x) ms)) addr write ≡ placed_at x (access_by (find (λ w. holds w addr) (filter_map granted ms)) addr (device_access_kind write))
  unfolding source_of
  leads [] addr write = refl
  leads (m ∷ ms) addr write =
      let rest = leads ms addr write in
      let us = filter_map (mapped x) ms in
      let vs = filter_map granted ms in
      elim (find (λ r. bytes_eq r.name m.region) memory) as (λ o. find (λ r. bytes_eq r.name m.region) memory ≡ o
      → led (find (is_in addr) (cons_option (option_map (region_mapped x m) o) us)) addr write
      ≡ placed_at x (access_by (find (λ w. holds w addr) (cons_option (option_map (λ r. window m.virtual_address r.size m.rights (region r.name)) o) vs)) addr (device_access_kind write))) [
        | None ↦ λ e. rest
        | Some r ↦ λ e.
            let name = (bytes_eq-Decides r.name m.region).0 (find_in (λ r. bytes_eq r.name m.region) memory r e).1 in
            elim (nat_le m.virtual_address addr && nat_lt addr (m.virtual_address + r.size)) as (λ b. led (cond b (Some (region_mapped x m r)) (find (is_in addr) us)) addr write
            ≡ placed_at x (access_by (cond b (Some (window m.virtual_address r.size m.rights (region r.name))) (find (λ w. holds w addr) vs)) addr (device_access_kind write))) [
              | true ↦ by_rights m r addr write name
              | false ↦ rest
            ]
      ] refl

  domain_leads : (d : Domain) → In d domains → (addr : ℕ) (write : Bool) → led (window_at (windows_of x d) addr) addr write ≡ placed_at x (access_of (domain_windows p d) addr (device_access_kind write))
  unfolding windows_of
  domain_leads d i addr write =
      let in_turn = filter_map (mapped x) d.memory in
      let moved : IsPermutation in_turn (windows_of x d) = in_order_permutes is_lower_window in_turn in
      let two = are_two x placed d (all_in (IsDomain p) domains (each_domain x placed) d i) in
      ap (λ o. led o addr write) (sym (found_permuted (is_in addr) in_turn (windows_of x d) moved (λ j k w l n. not_both (get_or (windows_of x d) j w) (get_or (windows_of x d) k w) addr (two j k w l n))))
      ∙ leads d.memory addr write

  -- ---- by the device

  abbrev has : List ℕ → Domain → Bool
  has device d = list_any (λ name. bytes_eq name device) d.devices

  domain_is : (device : List ℕ) (n : ℕ) (d : Domain) → domain_number p device ≡ Some n → slice_get domains n ≡ Some d → domain_of p device ≡ Some d
  unfolding source_of
  domain_is device n d e at = sym (at_position (has device) domains n e) ∙ at

  windows_are : (n : ℕ) (d : Domain) → slice_get domains n ≡ Some d → domain_windows_at (domains_of x) n ≡ windows_of x d
  windows_are n d at = get_or_from_slice_get (map (windows_of x) domains) n (windows_of x d) [] (slice_get-map (windows_of x) domains n ∙ ap (option_map (windows_of x)) at)

  -- a device that stands in a domain is listed there
  record IsListed (device : List ℕ) : Type 0 where
    item : DomainDevice
    is : find (λ v. bytes_eq v.device.name device) (domain_devices p) ≡ Some item

  some_bdf : (o : Option Bdf) → is_some o ≡ true → (b : Bdf) × (o ≡ Some b)
  some_bdf None h = absurd (cc)
  some_bdf (Some b) h = (b, refl)

  numbered : (name : List ℕ) → device_has_bdf p name ≡ true → (d : Device) × (find (λ d. bytes_eq d.name name) p.devices ≡ Some d) × (is_some d.bdf ≡ true)
  numbered name h =
      elim (find (λ d. bytes_eq d.name name) p.devices) as (λ o. find (λ d. bytes_eq d.name name) p.devices ≡ o → option_map_or (λ (d : Device). is_some d.bdf) o false ≡ true → (d : Device) × (find (λ d. bytes_eq d.name name) p.devices ≡ Some d) × (is_some d.bdf ≡ true)) [
        | None ↦ λ e k. absurd (cc)
        | Some d ↦ λ e k. (d, e, k)
      ] refl h

  is_listed : (device : List ℕ) (d : Domain) → domain_of p device ≡ Some d → IsListed device
  unfolding domain_devices
  is_listed device d e =
      let here = find_in (has device) p.device_domains d e in
      let name = any_some (λ name. bytes_eq name device) d.devices here.1 in
      let same : name.one ≡ device = (bytes_eq-Decides name.one device).0 name.passes in
      let one : Listed = record { domain = d.name; name = name.one } in
      let listed = flat_in (λ (d : Domain). map (λ name. record { domain = d.name; name = name }) d.devices) p.device_domains d one here.0 (map_in (λ name. record { domain = d.name; name = name }) d.devices name.one name.within) in
      let bdf = passes_in (λ x. device_has_bdf p x.name) (listed_devices p) (devices_kept p (rules_of placed.lawful).rule_21).numbered one listed in
      let dev = numbered name.one bdf in
      let found_dev = find_in (λ d. bytes_eq d.name name.one) p.devices dev.0 dev.1 in
      let called : dev.0.name ≡ device = (bytes_eq-Decides dev.0.name name.one).0 found_dev.1 ∙ same in
      let b = some_bdf dev.0.bdf dev.2 in
      let number : domain_number p dev.0.name ≡ Some (position_or_len (has device) p.device_domains) = ap (domain_number p) called ∙ position_found (has device) p.device_domains d e in
      let v = device_at dev.0 b.0 (position_or_len (has device) p.device_domains) in
      let is : domain_device p dev.0 ≡ Some v = ap (option_and_then (λ b. option_map (device_at dev.0 b) (domain_number p dev.0.name))) b.1 ∙ ap (option_map (device_at dev.0 b.0)) number in
      let within = filter_map_in (domain_device p) p.devices dev.0 v found_dev.0 is in
      let passes : bytes_eq v.device.name device ≡ true = ap (λ name. bytes_eq name device) called ∙ same_self device in
      let f = found (λ v. bytes_eq v.device.name device) (domain_devices p) (any_in (λ v. bytes_eq v.device.name device) (domain_devices p) v within passes) in
      record { item = f.item; is = f.is }

  no_domain : (device : List ℕ) → find (λ v. bytes_eq v.device.name device) (domain_devices p) ≡ None → domain_of p device ≡ None
  no_domain device none =
      elim (domain_of p device) as (λ o. domain_of p device ≡ o → o ≡ None) [
        | None ↦ λ e. refl
        | Some d ↦ λ e. let l = is_listed device d e in let both : Some l.item ≡ None = sym l.is ∙ none in absurd (cc)
      ] refl

  made_of : (v : DomainDevice) → In v (domain_devices p) → (d : Device) × In d p.devices × (domain_device p d ≡ Some v)
  unfolding domain_devices
  made_of v i = made_from (domain_device p) p.devices v i

  in_domains : (v : DomainDevice) → In v (domain_devices p) → v.domain < length domains
  in_domains v i =
      let many = length-map domains (windows_of x) in
      let below = all_in (λ v. v.domain < length (domains_of x).windows) (domain_devices p) (ready x placed).domains v i in
      omega arith

  by_device : (device : List ℕ) (addr : ℕ) (write : Bool) (o : Option DomainDevice) → find (λ v. bytes_eq v.device.name device) (domain_devices p) ≡ o → option_and_then (led_device (domains_of x) addr write) o ≡ declared_at x device addr write
  by_device device addr write None e = sym (ap (λ o. placed_at x (access_of (option_map_or (domain_windows p) o []) addr (device_access_kind write))) (no_domain device e))
  by_device device addr write (Some v) e =
      let here = find_in (λ v. bytes_eq v.device.name device) (domain_devices p) v e in
      let d = made_of v here.0 in
      let q = stands p d.0 v d.2 in
      let name : d.0.name ≡ device = ap (λ (v : DomainDevice). v.device.name) q.is ∙ (bytes_eq-Decides v.device.name device).0 here.1 in
      let number : q.number ≡ v.domain = ap (λ (v : DomainDevice). v.domain) q.is in
      let domain : domain_number p device ≡ Some v.domain = ap (domain_number p) (sym name) ∙ (q.domain ∙ ap Some number) in
      let below = in_domains v here.0 in
      let at = there domains v.domain below in
      let is = domain_is device v.domain at.0 domain at.1 in
      ap (λ ws. led (window_at ws addr) addr write) (windows_are v.domain at.0 at.1)
      ∙ (domain_leads at.0 (at_in domains v.domain at.0 at.1) addr write
      ∙ sym (ap (λ o. placed_at x (access_of (option_map_or (domain_windows p) o []) addr (device_access_kind write))) is))

  pub declares : (device : List ℕ) (addr : ℕ) (write : Bool) → by_domains (domains_of x) device addr write ≡ declared_at x device addr write
  declares device addr write = by_device device addr write (find (λ v. bytes_eq v.device.name device) (domain_devices p)) refl
