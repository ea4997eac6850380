-- The windows of the domains of devices: whole pages of the spans of regions.
use Rattle.std.proofs.Common.{◌≡◌, ◌∙◌, ℕ, ◌+◌, ◌-◌, ◌*◌, ◌/◌, ◌%◌, ◌<◌, ◌≤◌, Bool, true, false, cond, List, [], ◌∷◌, map, Option, Some, None, refl, sym, ap, subst, arith, is_some}
use Rattle.std.specs.Prelude.{if◌then◌else◌, nat_le, nat_lt, option_map}
use Rattle.std.specs.Option.{IfSome, option_map_or}
use Rattle.std.specs.List.{AllByRecursion, cons_option, filter_map, find, list_all, list_any}
use Rattle.std.specs.Str.{bytes_eq}
use Rattle.std.proofs.lemmas.Bool.{and_parts, eqb-true, leb-true, ltb-true}
use Rattle.dma_tables.proofs.ByPages.{both_same, same_le, same_lt}
use Rattle.image_pack.specs.ImageConditions.{KeepsConditions}
use Rattle.image_pack.specs.declared.parts.Image.{Image}
use Rattle.image_soundness.specs.Sound.{IsSound}
use Rattle.muen_num.proofs.Each.{found as each_found}
use Rattle.muen_num.proofs.Lists.{found_among}
use Rattle.muen_num.proofs.SearchLaws.{all_none, all_pass, none_both}
use Rattle.muen_num.proofs.Lookups.{found_passes, found_any}
use Rattle.muen_num.specs.Search.{first_in, unless}
use Rattle.muen_num.specs.declared.access.AccessKind.{AccessKind}
use Rattle.muen_num.specs.declared.limits.TheConstants.{PAGE}
use Rattle.policy_lawful.specs.Contents.{Held}
use Rattle.policy_lawful.specs.Dma.{dma_windows, domain_of, domain_windows}
use Rattle.policy_lawful.specs.Domains.{each_window, offence_22}
use Rattle.policy_lawful.specs.Offences.{two}
use Rattle.policy_lawful.specs.Rules.{is_declared}
use Rattle.muen_num.specs.Numbers.{is_page_aligned}
use Rattle.policy_lawful.specs.Thing.{Thing, declared_size, region, Item, region_item}
use Rattle.policy_lawful.specs.Windows.{Window, access_by, access_of, byte, holds, region_window, violation, window}
use Rattle.policy_lawful.proofs.KeptRules.{rules_of}
use Rattle.policy_lawful.specs.Rights.{allows}
use Rattle.policy_lawful.specs.rights.Rights.{Rights}
use Rattle.policy_lawful.specs.source.Domain.{Domain}
use Rattle.policy_lawful.specs.source.Mapping.{Mapping}
use Rattle.policy_lawful.specs.source.Region.{Region}
use Rattle.policy_lawful.specs.source.Source.{Source}
use Rattle.proof_start.proofs.SpansOfThings.{ThingSpan, listed_span}
use Rattle.image_soundness.proofs.ThingFacts.{region_is_thing}
use Rattle.image_soundness.proofs.WindowsOn.{region_again}
use Rattle.policy_lawful.proofs.Items.{item_of_region}

-- ---- rule 22: windows begin with a page

abbrev begins_page : Mapping → Bool
begins_page m = is_page_aligned m.virtual_address

begin_pages : (p : Source) (d : Domain) (test : Domain → Bool) → offence_22 p ≡ None → find test p.device_domains ≡ Some d → list_all begins_page d.memory ≡ true
unfolding offence_22
begin_pages p d test h found =
    let declared = none_both (each_window p (λ by m. unless (is_declared (map (λ r. r.name) p.memory) m.region) (two by m.region))) _ h in
    let aligned = none_both (each_window p (λ by m. unless (is_page_aligned m.virtual_address) (two by m.region))) _ declared.1 in
    let each = all_none (λ (d : Domain). list_all begins_page d.memory) (λ (d : Domain). first_in (λ (m : Mapping). unless (is_page_aligned m.virtual_address) (two d.name m.region)) d.memory)
    (λ d none. all_pass begins_page (λ (m : Mapping). two d.name m.region) d.memory none) p.device_domains aligned.0 in
    found_among test (λ (d : Domain). list_all begins_page d.memory) p.device_domains d found each

module _ (p : Source) (files : Held) (i : Image) (keeps : KeepsConditions i) (sound : IsSound p files i) where
  -- a window shows all of the span of its region
  pub record IsOnSpan (w : Window Thing) : Type 0 where
    pub guest : w.guest % PAGE ≡ 0
    pub span : ThingSpan p files i w.thing
    pub size : w.size ≡ PAGE * span.span.0.pages
    pub source : Region
    pub is : w.thing ≡ region source.name
    pub found : find (λ r. bytes_eq r.name source.name) p.memory ≡ Some source

  size_is : (name : List ℕ) (r : Region) (n : ℕ) → find (λ r. bytes_eq r.name name) p.memory ≡ Some r → declared_size p (region name) ≡ Some n → r.size ≡ n
  unfolding declared_size
  size_is name r n found e =
      let some : Some r.size ≡ Some n = ap (option_map (λ (i : Item). i.size)) (sym (item_of_region p name ∙ ap (option_map region_item) found)) ∙ e in
      cc

  window_on : (name : List ℕ) (guest : ℕ) (rights : Rights) (w : Window Thing) → guest % PAGE ≡ 0 → region_window p name guest rights ≡ Some w → IsOnSpan w
  window_on name guest rights w aligned h =
      elim (find (λ r. bytes_eq r.name name) p.memory)
      as (λ o. find (λ r. bytes_eq r.name name) p.memory ≡ o → option_map (λ (r : Region). window guest r.size rights (region r.name)) o ≡ Some w → IsOnSpan w) [
        | None ↦ λ _ k. absurd (cc)
        | Some r ↦ λ is k.
            let same : window guest r.size rights (region r.name) ≡ w = cc in
            let again = region_again p name r is in
            let listed = region_is_thing p r.name (sym (found_any (λ x. bytes_eq x.name r.name) p.memory) ∙ ap is_some again) in
            let span = listed_span p files i keeps sound (region r.name) listed in
            subst IsOnSpan same (record { guest = aligned; span = span; size = size_is r.name r (PAGE * span.span.0.pages) again span.is.size; source = r; is = refl; found = again })
      ] refl h

  abbrev window_by : Mapping → Option (Window Thing)
  window_by m = region_window p m.region m.virtual_address m.rights

  windows_on : (ms : List Mapping) → list_all begins_page ms ≡ true → AllByRecursion IsOnSpan (filter_map window_by ms)
  windows_on [] all = tt
  windows_on (m ∷ ms) all =
      let each = and_parts (begins_page m) (list_all begins_page ms) all in
      by (windows_on ms each.1) each.0 (window_by m) refl
    where
      by : AllByRecursion IsOnSpan (filter_map window_by ms) → begins_page m ≡ true → (o : Option (Window Thing)) → window_by m ≡ o → AllByRecursion IsOnSpan (cons_option o (filter_map window_by ms))
      by rest begins None e = rest
      by rest begins (Some w) e = (window_on m.region m.virtual_address m.rights w (eqb-true (m.virtual_address % PAGE) 0 begins) e, rest)

  domain_on : (o : Option Domain) (device : List ℕ) → domain_of p device ≡ o → AllByRecursion IsOnSpan (option_map_or (domain_windows p) o [])
  domain_on None device e = tt
  domain_on (Some d) device e = windows_on d.memory (begin_pages p d (λ d. list_any (λ name. bytes_eq name device) d.devices) (rules_of sound.lawful).rule_22 e)

  -- each window of a device's domain
  pub all_on : (device : List ℕ) → AllByRecursion IsOnSpan (dma_windows p device)
  all_on device = domain_on (domain_of p device) device refl

  -- ---- an access lands on a byte of a span

  pub record Lands (address : ℕ) (x : Thing) (offset : ℕ) : Type 0 where
    pub span : ThingSpan p files i x
    pub within : offset < PAGE * span.span.0.pages
    pub along : offset % PAGE ≡ address % PAGE
    pub source : Region
    pub is : x ≡ region source.name
    pub found : find (λ r. bytes_eq r.name source.name) p.memory ≡ Some source

  abbrev at : ℕ → Window Thing → Bool
  at address w = holds w address

  granted : (b : Bool) (w : Window Thing) (address : ℕ) (x : Thing) (offset : ℕ) → (if b then byte w.thing (address - w.guest) else violation (Some w.rights)) ≡ byte x offset → (w.thing ≡ x) × (address - w.guest ≡ offset)
  granted true w address x offset h = (cc, cc)
  granted false w address x offset h = absurd (cc)

  lands_in : (device : List ℕ) (address : ℕ) (kind : AccessKind) (x : Thing) (offset : ℕ) (o : Option (Window Thing)) → find (at address) (dma_windows p device) ≡ o → access_by o address kind ≡ byte x offset → Lands address x offset
  lands_in device address kind x offset None e h = absurd (cc)
  lands_in device address kind x offset (Some w) e h =
      let is = granted (allows w.rights kind) w address x offset h in
      let on : IsOnSpan w = subst (λ o. IfSome o IsOnSpan) e (each_found IsOnSpan (at address) (dma_windows p device) (all_on device)) in
      let held = and_parts (nat_le w.guest address) (nat_lt address (w.guest + w.size)) (found_passes (at address) (dma_windows p device) w e) in
      let low : w.guest ≤ address = leb-true w.guest address held.0 in
      let high : address < w.guest + w.size = ltb-true address (w.guest + w.size) held.1 in
      let guest : w.guest % PAGE ≡ 0 = on.guest in
      let size : w.size ≡ PAGE * on.span.span.0.pages = on.size in
      let offset_is = is.1 in
      subst (λ x. Lands address x offset) is.0 (record { span = on.span; within = omega (arith, low, high, size, offset_is); along = omega (arith, low, guest, offset_is); source = on.source; is = on.is; found = on.found })

  pub lands : (device : List ℕ) (address : ℕ) (kind : AccessKind) (x : Thing) (offset : ℕ) → access_of (dma_windows p device) address kind ≡ byte x offset → Lands address x offset
  lands device address kind x offset h = lands_in device address kind x offset (find (at address) (dma_windows p device)) refl h

  -- ---- addresses of one page

  held_same : (w : Window Thing) (a b : ℕ) → IsOnSpan w → a / PAGE ≡ b / PAGE → holds w a ≡ holds w b
  held_same w a b on page =
      let guest : w.guest % PAGE ≡ 0 = on.guest in
      let size : w.size ≡ PAGE * on.span.span.0.pages = on.size in
      both_same _ _ _ _
      (same_le a b w.guest (λ h. omega (arith, guest, page, h)) (λ h. omega (arith, guest, page, h)))
      (same_lt a b (w.guest + w.size) (λ h. omega (arith, guest, size, page, h)) (λ h. omega (arith, guest, size, page, h)))

  found_same : (ws : List (Window Thing)) (a b : ℕ) → AllByRecursion IsOnSpan ws → a / PAGE ≡ b / PAGE → find (at a) ws ≡ find (at b) ws
  found_same [] a b all page = refl
  found_same (w ∷ ws) a b all page =
      ap (λ t. cond t (Some w) (find (at a) ws)) (held_same w a b all.0 page) ∙ ap (cond (holds w b) (Some w)) (found_same ws a b all.1 page)

  next_in : (a b : ℕ) (kind : AccessKind) (x : Thing) (offset : ℕ) (o : Option (Window Thing)) → ((w : Window Thing) → o ≡ Some w → w.guest ≤ a) → a ≤ b → access_by o a kind ≡ byte x offset → access_by o b kind ≡ byte x (offset + (b - a))
  next_in a b kind x offset None begins le h = absurd (cc)
  next_in a b kind x offset (Some w) begins le h =
      let low : w.guest ≤ a = begins w refl in
      elim (allows w.rights kind) as (λ t. (if t then byte w.thing (a - w.guest) else violation (Some w.rights)) ≡ byte x offset → (if t then byte w.thing (b - w.guest) else violation (Some w.rights)) ≡ byte x (offset + (b - a))) [
        | true ↦ λ k.
            let thing : w.thing ≡ x = cc in
            let from : a - w.guest ≡ offset = cc in
            let to : b - w.guest ≡ offset + (b - a) = omega (arith, low, le, from) in
            ap (λ y. byte y (b - w.guest)) thing ∙ ap (byte x) to
        | false ↦ λ k. absurd (cc)
      ] h

  begins_before : (device : List ℕ) (a : ℕ) (w : Window Thing) → find (at a) (dma_windows p device) ≡ Some w → w.guest ≤ a
  begins_before device a w e = leb-true w.guest a (and_parts (nat_le w.guest a) (nat_lt a (w.guest + w.size)) (found_passes (at a) (dma_windows p device) w e)).0

  -- what lies behind a byte in its page lands behind it
  pub next_lands : (device : List ℕ) (a b : ℕ) (kind : AccessKind) (x : Thing) (offset : ℕ) → a / PAGE ≡ b / PAGE → a ≤ b → access_of (dma_windows p device) a kind ≡ byte x offset → access_of (dma_windows p device) b kind ≡ byte x (offset + (b - a))
  next_lands device a b kind x offset page le h =
      ap (λ o. access_by o b kind) (sym (found_same (dma_windows p device) a b (all_on device) page))
      ∙ next_in a b kind x offset (find (at a) (dma_windows p device)) (begins_before device a) le h
