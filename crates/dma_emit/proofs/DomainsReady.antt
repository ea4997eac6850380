-- The domains of a placed policy are such that tables can be emitted for them.
use Rattle.std.proofs.Common.{◌≡◌, inl, inr, ℕ, ◌+◌, ◌*◌, ◌/◌, ◌<◌, ◌≤◌, ◌^◌, All, true, false, not, List, [], ◌∷◌, get_or, length, map, Option, Some, None, refl, sym, ap, ◌∙◌, subst, arith}
use Rattle.std.specs.Prelude.{◌==◌, if◌then◌else◌, option_map, option_and_then}
use Rattle.std.specs.List.{AllPairs, cons_option, filter_map, find, flat_map, list_any, sum_by}
use Rattle.std.specs.List.Sorted.{IsPermutation}
use Rattle.std.specs.Option.{option_map_or}
use Rattle.std.specs.Str.{bytes_eq}
use Rattle.std.proofs.lemmas.Bool.{and_from, and_parts, cases_Bool, eq-eqb, eqb-true, ltb-true, not-true, true≢false}
use Rattle.std.proofs.lemmas.List.{length-map}
use Rattle.std.proofs.lemmas.List.Elements.{All-map, All-weaker}
use Rattle.std.proofs.lemmas.List.Sorted.{sum_by-IsPermutation}
use Rattle.std.proofs.lemmas.List.Sums.{sum_by-append, sum_by-cons, sum_by-le-sum_by}
use Rattle.dma_emit.specs.declared.devices.DomainDevice.{DomainDevice}
use Rattle.dma_emit.specs.declared.domains.Domains.{Domains}
use Rattle.dma_emit.specs.Domains.{device_at, domain_device, domain_devices, domain_number, domains_of, is_lower_window, mapped, region_mapped, windows_of}
use Rattle.dma_emit.specs.Layout.{domain_pages, has_device, page_count, domain_windows_at}
use Rattle.dma_emit.specs.Ready.{AreDomainWindows, HaveDifferentGuests, IsReady, same_place}
use Rattle.dma_emit.proofs.Counts.{few_tables, found_weight, sum_found, tables_for}
use Rattle.dma_emit.proofs.DomainRules.{DevicesKept, IsDomain, devices_kept, regions_once}
use Rattle.dma_emit.proofs.DomainWindows.{are_windows, different, each_domain, laid_out}
use Rattle.dma_emit.proofs.Found.{all_made, fewer_made, pairs_made}
use Rattle.dma_emit.proofs.Layouts.{few_buses}
use Rattle.dma_emit.proofs.Lists.{listed}
use Rattle.dma_emit.proofs.PlacesThere.{position_within}
use Rattle.dma_emit.proofs.TotalSize.{memory_bytes, regions_bytes, whole_bytes}
use Rattle.ept_emit.specs.Pages.{ept_pages, guest_range_of, ranges_of}
use Rattle.ept_emit.specs.declared.window.GuestRange.{GuestRange}
use Rattle.ept_emit.specs.declared.window.Window.{Window}
use Rattle.expand_kernel.proofs.Ordered.{in_order_permutes}
use Rattle.muen_num.specs.Range.{numbers_below}
use Rattle.muen_num.specs.Search.{unless}
use Rattle.muen_num.specs.declared.limits.TheConstants.{BDF_FUNCTIONS, MOST_BLOCK_BYTES, MOST_DOMAINS, MOST_REGIONS, PAGE}
use Rattle.muen_num.proofs.FirstPair.{pairs_at}
use Rattle.muen_num.proofs.Lists.{sum_by-map, all_passing}
use Rattle.muen_num.proofs.Pairs.{pairs_unmapped, pairs_mapped}
use Rattle.muen_num.proofs.SearchLaws.{unless_none}
use Rattle.policy_lawful.specs.Domains.{Listed, is_bdf, listed_regions, same_bdf}
use Rattle.policy_lawful.specs.Offences.{alone}
use Rattle.policy_lawful.specs.Resolution.{source_of}
use Rattle.policy_lawful.proofs.KeptLimits.{limits_kept}
use Rattle.policy_lawful.proofs.KeptRules.{rules_of}
use Rattle.policy_lawful.proofs.UniqueNames.{unique}
use Rattle.policy_lawful.specs.source.Bdf.{Bdf}
use Rattle.policy_lawful.specs.source.Device.{Device}
use Rattle.policy_lawful.specs.source.Domain.{Domain}
use Rattle.policy_lawful.specs.source.Mapping.{Mapping}
use Rattle.policy_lawful.specs.source.Region.{Region}
use Rattle.policy_lawful.specs.source.Source.{Source}
use Rattle.region_alloc.specs.Placed.{IsPlaced, Placement}
use Rattle.span_emit.proofs.PairLaws.{pairs_weaker}

-- ---- devices

-- a device that stands in a domain
pub record Stands (p : Source) (d : Device) (v : DomainDevice) : Type 0 where
  pub bdf : Bdf
  pub has : d.bdf ≡ Some bdf
  pub number : ℕ
  pub domain : domain_number p d.name ≡ Some number
  pub is : device_at d bdf number ≡ v

pub stands : (p : Source) (d : Device) (v : DomainDevice) → domain_device p d ≡ Some v → Stands p d v
stands p d v e =
    elim d.bdf as (λ o. d.bdf ≡ o → option_and_then (λ b. option_map (device_at d b) (domain_number p d.name)) o ≡ Some v → Stands p d v) [
      | None ↦ λ is some. absurd (cc)
      | Some b ↦ λ is some.
          elim (domain_number p d.name) as (λ o. domain_number p d.name ≡ o → option_map (device_at d b) o ≡ Some v → Stands p d v) [
            | None ↦ λ at made. absurd (cc)
            | Some n ↦ λ at made. record { bdf = b; has = is; number = n; domain = at; is = cc }
          ] refl some
    ] refl e

-- two of them with numbers that there are
record AreApart (a b : Device) : Type 0 where
  differ : same_bdf a.bdf b.bdf ≡ false
  first : is_bdf a.bdf ≡ true
  second : is_bdf b.bdf ≡ true

same_numbers : (a b : Bdf) → is_bdf (Some a) ≡ true → is_bdf (Some b) ≡ true → (a.bus == b.bus) ≡ true → (BDF_FUNCTIONS * a.device + a.function == BDF_FUNCTIONS * b.device + b.function) ≡ true → same_bdf (Some a) (Some b) ≡ true
same_numbers a b f g bus devfn =
    let x = and_parts _ _ f in
    let y = and_parts _ _ g in
    let device_a = ltb-true a.function BDF_FUNCTIONS x.1 in
    let device_b = ltb-true b.function BDF_FUNCTIONS y.1 in
    let same = eqb-true (BDF_FUNCTIONS * a.device + a.function) (BDF_FUNCTIONS * b.device + b.function) devfn in
    let device : a.device ≡ b.device = omega arith in
    let function : a.function ≡ b.function = omega arith in
    and_from _ _ (and_from _ _ bus (eq-eqb a.device b.device device)) (eq-eqb a.function b.function function)

other_places : (p : Source) (a b : Device) (u v : DomainDevice) → AreApart a b → domain_device p a ≡ Some u → domain_device p b ≡ Some v → same_place u v ≡ false
other_places p a b u v apart e f =
    let x = stands p a u e in
    let y = stands p b v f in
    let first : is_bdf (Some x.bdf) ≡ true = ap is_bdf (sym x.has) ∙ apart.first in
    let second : is_bdf (Some y.bdf) ≡ true = ap is_bdf (sym y.has) ∙ apart.second in
    let differ : same_bdf (Some x.bdf) (Some y.bdf) ≡ false = (λ i. same_bdf (sym x.has i) (sym y.has i)) ∙ apart.differ in
    (λ i. same_place (sym x.is i) (sym y.is i))
    ∙ elim (cases_Bool (same_place (device_at a x.bdf x.number) (device_at b y.bdf y.number))) [
      | inl same ↦
          let both = and_parts (x.bdf.bus == y.bdf.bus) (BDF_FUNCTIONS * x.bdf.device + x.bdf.function == BDF_FUNCTIONS * y.bdf.device + y.bdf.function) same in
          absurd (true≢false (sym (same_numbers x.bdf y.bdf first second both.0 both.1) ∙ differ))
      | inr fails ↦ fails
    ]

-- ---- sums

sum_made : {X Y : Type 0} (g : Y → ℕ) (f : X → Option Y) (xs : List X) → sum_by g (filter_map f xs) ≡ sum_by (λ x. option_map_or g (f x) 0) xs
sum_made g f [] = refl
sum_made {X} g f (x ∷ xs) =
    let rest = sum_made g f xs in
    let all = sum_by-cons (λ (x : X). option_map_or g (f x) 0) x xs in
    elim (f x) as (λ o. f x ≡ o → sum_by g (cons_option o (filter_map f xs)) ≡ sum_by (λ x. option_map_or g (f x) 0) (x ∷ xs)) [
      | None ↦ λ e. let here : option_map_or g (f x) 0 ≡ 0 = ap (λ o. option_map_or g o 0) e in omega arith
      | Some y ↦ λ e. let here : option_map_or g (f x) 0 ≡ g y = ap (λ o. option_map_or g o 0) e in let more = sum_by-cons g y (filter_map f xs) in omega arith
    ] refl

sum_flat : {X Y : Type 0} (g : Y → ℕ) (f : X → List Y) (xs : List X) → sum_by g (flat_map f xs) ≡ sum_by (λ x. sum_by g (f x)) xs
sum_flat g f [] = refl
sum_flat {X} g f (x ∷ xs) =
    let a = sum_by-append g (f x) (flat_map f xs) in
    let b = sum_by-cons (λ (x : X). sum_by g (f x)) x xs in
    let rest = sum_flat g f xs in
    omega arith

one_more_each : {X : Type 0} (g : X → ℕ) (xs : List X) → sum_by (λ x. 1 + g x) xs ≡ length xs + sum_by g xs
one_more_each g [] = refl
one_more_each {X} g (x ∷ xs) =
    let a = sum_by-cons g x xs in
    let b = sum_by-cons (λ (x : X). 1 + g x) x xs in
    let rest = one_more_each g xs in
    omega arith

-- a sum over the indexes of a list
by_number : {X : Type 0} (g : X → ℕ) (xs : List X) (d : X) (n : ℕ) → length xs ≡ n → sum_by (λ k. g (get_or xs k d)) (numbers_below n) ≡ sum_by g xs
by_number g xs d n e = sym (sum_by-map g (λ k. get_or xs k d) (numbers_below n)) ∙ ap (sum_by g) (sym (listed xs d n e))

weights : (ms : List Region) → 2 ^ 21 * sum_by (λ m. tables_for m.size) ms ≤ 2 ^ 21 * 6 * length ms + 3 * sum_by (λ m. PAGE * (m.size / PAGE)) ms
weights [] = omega arith
weights (m ∷ ms) =
    let a = sum_by-cons (λ (m : Region). tables_for m.size) m ms in
    let b = sum_by-cons (λ (m : Region). PAGE * (m.size / PAGE)) m ms in
    let rest = weights ms in
    omega arith

-- ---- pages

pages_at_most : (d : Domains) (n : ℕ) → domain_pages d n ≤ ept_pages (ranges_of (domain_windows_at d n))
pages_at_most d n = elim (has_device d n) as (λ b. (if b then ept_pages (ranges_of (domain_windows_at d n)) else 0) ≤ ept_pages (ranges_of (domain_windows_at d n))) [ true ↦ omega arith | false ↦ omega arith ]

-- ---- a placed policy

module _ (x : Placement) (placed : IsPlaced x) where
  abbrev p : Source
  p = source_of x.expanded.lawful

  abbrev memory : List Region
  memory = x.expanded.lawful.memory

  abbrev domains : List Domain
  domains = x.expanded.lawful.device_domains

  kept : DevicesKept p
  kept = devices_kept p (rules_of placed.lawful).rule_21

  -- ---- how many pages

  abbrev weight : Mapping → ℕ
  weight m = option_map_or (λ (r : Region). tables_for r.size) (find (λ r. bytes_eq r.name m.region) memory) 0

  weight_mapped : (m : Mapping) → option_map_or (λ (w : Window). tables_for w.size) (mapped x m) 0 ≡ weight m
  weight_mapped m =
      elim (find (λ r. bytes_eq r.name m.region) memory) as (λ o. option_map_or (λ (w : Window). tables_for w.size) (option_map (region_mapped x m) o) 0 ≡ option_map_or (λ (r : Region). tables_for r.size) o 0) [ None ↦ refl | Some r ↦ refl ]

  weights_mapped : (ms : List Mapping) → sum_by (λ m. option_map_or (λ (w : Window). tables_for w.size) (mapped x m) 0) ms ≡ sum_by weight ms
  weights_mapped [] = refl
  weights_mapped (m ∷ ms) =
      let a = sum_by-cons (λ m. option_map_or (λ (w : Window). tables_for w.size) (mapped x m) 0) m ms in
      let b = sum_by-cons weight m ms in
      let here = weight_mapped m in
      let rest = weights_mapped ms in
      omega arith

  domain_few : (d : Domain) → ept_pages (ranges_of (windows_of x d)) ≤ 1 + sum_by weight d.memory
  unfolding windows_of
  domain_few d =
      let ws = windows_of x d in
      let in_turn = filter_map (mapped x) d.memory in
      let few = few_tables (ranges_of ws) in
      let ranges = sum_by-map (λ (r : GuestRange). tables_for r.size) guest_range_of ws in
      let moved : IsPermutation in_turn ws = in_order_permutes is_lower_window in_turn in
      let same = sum_by-IsPermutation (λ (w : Window). tables_for w.size) in_turn ws moved in
      let made = sum_made (λ (w : Window). tables_for w.size) (mapped x) d.memory in
      let each = weights_mapped d.memory in
      omega arith

  abbrev listed_weight : Listed → ℕ
  listed_weight = found_weight (λ (l : Listed). l.name) (λ (r : Region). r.name) (λ (r : Region). tables_for r.size) memory

  each_sum : (ds : List Domain) → sum_by (λ d. sum_by listed_weight (map (λ m. record { domain = d.name; name = m.region }) d.memory)) ds ≡ sum_by (λ d. sum_by weight d.memory) ds
  each_sum [] = refl
  each_sum (d ∷ ds) =
      let a = sum_by-cons (λ (d : Domain). sum_by listed_weight (map (λ m. record { domain = d.name; name = m.region }) d.memory)) d ds in
      let b = sum_by-cons (λ (d : Domain). sum_by weight d.memory) d ds in
      let here = sum_by-map listed_weight (λ (m : Mapping). record { domain = d.name; name = m.region }) d.memory in
      let rest = each_sum ds in
      omega arith

  listed_are : sum_by listed_weight (listed_regions p) ≡ sum_by (λ d. sum_by weight d.memory) domains
  unfolding source_of
  listed_are =
      sum_flat listed_weight (λ (d : Domain). map (λ m. record { domain = d.name; name = m.region }) d.memory) domains
      ∙ each_sum domains

  few_weights : sum_by (λ d. sum_by weight d.memory) domains ≤ 6240
  unfolding source_of
  few_weights =
      let once = sum_found (λ (l : Listed). l.name) (λ (r : Region). r.name) (λ (r : Region). tables_for r.size) (listed_regions p) memory (regions_once p (rules_of placed.lawful).rule_23) in
      let same = listed_are in
      let bytes = memory_bytes p (subst (λ rs. sum_by whole_bytes rs ≤ MOST_BLOCK_BYTES) placed.expansion.regions (regions_bytes x.expanded.lawful.memory_blocks x.expanded.lawful.devices x.expanded.regions x.addresses (laid_out x placed))) in
      let many = (limits_kept p (rules_of placed.lawful).rule_20).regions in
      let few : length memory ≤ MOST_REGIONS = omega arith in
      let sum = weights memory in
      omega arith

  few_pages_of : sum_by (domain_pages (domains_of x)) (numbers_below (length (domains_of x).windows)) ≤ length domains + 6240
  few_pages_of =
      let d = domains_of x in
      let most = sum_by-le-sum_by (domain_pages d) (λ n. ept_pages (ranges_of (domain_windows_at d n))) (numbers_below (length d.windows)) (pages_at_most d) in
      let windows = by_number (λ (ws : List Window). ept_pages (ranges_of ws)) d.windows [] (length d.windows) refl in
      let each = sum_by-map (λ (ws : List Window). ept_pages (ranges_of ws)) (windows_of x) domains in
      let few = sum_by-le-sum_by (λ d. ept_pages (ranges_of (windows_of x d))) (λ (d : Domain). 1 + sum_by weight d.memory) domains domain_few in
      let split = one_more_each (λ (d : Domain). sum_by weight d.memory) domains in
      let all = few_weights in
      omega arith

  few_domains : length (domains_of x).windows ≤ MOST_DOMAINS
  unfolding source_of
  few_domains =
      let many = length-map domains (windows_of x) in
      let few = kept.few in
      omega arith

  few_pages : page_count (domains_of x) ≤ 6529
  few_pages =
      let some = few_pages_of in
      let few = few_domains in
      let many = length-map domains (windows_of x) in
      let contexts = few_buses (domains_of x) in
      omega arith

  -- ---- devices

  pub bdfs : All (λ d. is_bdf d.bdf ≡ true) x.expanded.lawful.devices
  unfolding source_of
  bdfs = all_passing (λ d. is_bdf d.bdf) (λ d. is_bdf d.bdf ≡ true) (λ d h. h) x.expanded.lawful.devices kept.bdfs

  names_differ : AllPairs (λ a b. bytes_eq a.name b.name ≡ false) x.expanded.lawful.devices
  unfolding source_of
  names_differ =
      pairs_unmapped (λ (d : Device). d.name) (λ a b. bytes_eq a b ≡ false) x.expanded.lawful.devices
      (pairs_weaker (λ a b. unless (not (bytes_eq a b)) (alone b) ≡ None) (λ a b. bytes_eq a b ≡ false) (λ a b none. not-true (bytes_eq a b) (unless_none (not (bytes_eq a b)) (alone b) none)) (map (λ d. d.name) x.expanded.lawful.devices)
      (pairs_at (λ a b. unless (not (bytes_eq a b)) (alone b)) (map (λ d. d.name) x.expanded.lawful.devices) (unique p placed.resolved.names).devices))

  names_apart : (a b : Device) (u v : DomainDevice) → bytes_eq a.name b.name ≡ false → domain_device p a ≡ Some u → domain_device p b ≡ Some v → bytes_eq u.device.name v.device.name ≡ false
  names_apart a b u v apart e f =
      let q = stands p a u e in
      let r = stands p b v f in
      (λ i. bytes_eq (sym q.is i).device.name (sym r.is i).device.name) ∙ apart

  devices_apart : AllPairs AreApart x.expanded.lawful.devices
  unfolding source_of
  devices_apart = λ i j d l m. record { differ = kept.differ i j d l m; first = bdfs i d (omega (arith, l, m)); second = bdfs j d m }

  in_range : (d : Device) (v : DomainDevice) → domain_device p d ≡ Some v → v.domain < length (domains_of x).windows
  unfolding source_of
  in_range d v e =
      let q = stands p d v e in
      let within = position_within (λ d2. list_any (λ name. bytes_eq name d.name) d2.devices) domains q.number q.domain in
      let many = length-map domains (windows_of x) in
      let same : q.number ≡ v.domain = ap (λ (v : DomainDevice). v.domain) q.is in
      omega arith

  pub ready : IsReady (domains_of x)
  unfolding domain_devices source_of
  ready =
      let ds = x.expanded.lawful.devices in
      let few = fewer_made (domain_device p) ds in
      let most = (limits_kept p (rules_of placed.lawful).rule_20).most_devices in
      let pages = few_pages in
      record {
        few_domains = few_domains;
        few_devices = omega arith;
        domains = all_made (λ d. is_bdf d.bdf ≡ true) (λ v. v.domain < length (domains_of x).windows) (domain_device p) (λ d v h e. in_range d v e) ds bdfs;
        names = pairs_mapped (λ (v : DomainDevice). v.device.name) (λ a b. bytes_eq a b ≡ false) (filter_map (domain_device p) ds) (pairs_made (λ a b. bytes_eq a.name b.name ≡ false) (λ u v. bytes_eq u.device.name v.device.name ≡ false) (domain_device p) names_apart ds names_differ);
        places = pairs_made AreApart (λ u v. same_place u v ≡ false) (domain_device p) (other_places p) ds devices_apart;
        windows = All-map AreDomainWindows (windows_of x) domains (All-weaker (IsDomain p) (λ d. AreDomainWindows (windows_of x d)) (λ d h. are_windows x placed d h) domains (each_domain x placed));
        pages = omega arith;
      }

  pub all_different : All (λ d. HaveDifferentGuests (filter_map (mapped x) d.memory)) domains
  all_different = All-weaker (IsDomain p) (λ d. HaveDifferentGuests (filter_map (mapped x) d.memory)) (λ d h. different x placed d h) domains (each_domain x placed)
