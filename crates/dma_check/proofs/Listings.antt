-- A list of devices without a fault: who is named reaches what the policy declares for that name.
use Rattle.std.proofs.Common.{◌≡◌, ℕ, ◌+◌, ◌*◌, ◌/◌, ◌%◌, ◌^◌, ◌<◌, ◌≤◌, Bool, true, false, cond, List, [], ◌∷◌, Option, Some, None, length, map, refl, sym, ap, subst, ◌∙◌, inl, inr, arith, is_some}
use Rattle.std.specs.Prelude.{◌&&◌, ◌||◌, if◌then◌else◌, nat_le, nat_lt, not, option_and_then, option_map, slice_get, slice_index_or}
use Rattle.std.specs.List.{All, AllByRecursion, cons_option, filter_map, find, list_all, list_any}
use Rattle.std.specs.Option.{option_map_or}
use Rattle.std.specs.Str.{bytes_eq}
use Rattle.std.proofs.lemmas.Bool.{and_parts, and_right, le-ltb, leb-true, lt-ltb, cases_lt}
use Rattle.std.proofs.lemmas.Option.{same_Some, slice_get-get_or}
use Rattle.std.proofs.lemmas.Slice.Eq.{bytes_eq-Decides}
use Rattle.dma_check.proofs.Sounds.{no_faults, one_path, sound, unsound}
use Rattle.dma_check.specs.Faults.{table_fault}
use Rattle.dma_check.specs.Sound.{AreSound, HasOnePathPerTable}
use Rattle.dma_check.specs.Sources.{SOURCES, comes_to, declared, device_of, source_windows}
use Rattle.dma_check.specs.Verdict.{ReachAsDeclared, access_declared, is_listed, is_of_policy, listed_source, listing_fault, of_listing, of_tables, verdict}
use Rattle.dma_check.specs.Views.{View, bus_of, devfn_of, place_of, view_of, walk_at}
use Rattle.dma_check.specs.declared.fault.DmaFault.{DmaFault}
use Rattle.dma_check.specs.declared.fault.DmaFault.TheVariants.{Listing, Tables}
use Rattle.dma_check.specs.declared.fault.FaultKind.TheVariants.{Twice}
use Rattle.dma_check.specs.declared.fault.TableFault.{TableFault}
use Rattle.dma_tables.specs.DmaConditions.{IsDmaDevice, KeepsConditions}
use Rattle.dma_tables.specs.DmaWalk.{device_walk, dma_walk, root_page, word_of}
use Rattle.dma_tables.specs.declared.file.DmaDevice.{DmaDevice}
use Rattle.dma_tables.specs.declared.file.DmaFile.{DmaFile}
use Rattle.image_pack.specs.declared.parts.Image.{Image}
use Rattle.image_soundness.specs.Sound.{address_of, led}
use Rattle.muen_num.proofs.Lists.{all_at, found_among, passes_at}
use Rattle.muen_num.proofs.Lookups.{found_index, found_passes}
use Rattle.muen_num.proofs.SearchLaws.{all_none, all_pass, none_both}
use Rattle.muen_num.specs.Search.{first_in, first_of, unless}
use Rattle.muen_num.specs.declared.access.AccessKind.{AccessKind}
use Rattle.muen_num.specs.declared.access.AccessKind.TheVariants.{Read, Write}
use Rattle.muen_num.specs.declared.limits.TheConstants.{GUEST_END}
use Rattle.policy_lawful.proofs.KeptRules.{rules_of}
use Rattle.policy_lawful.specs.Dma.{dma_access, dma_windows, domain_of, domain_windows}
use Rattle.policy_lawful.specs.Domains.{each_window, offence_22, region_size}
use Rattle.policy_lawful.specs.Lawful.{IsLawful}
use Rattle.policy_lawful.specs.Offences.{two}
use Rattle.policy_lawful.specs.Rules.{is_declared}
use Rattle.policy_lawful.specs.Thing.{Thing, region}
use Rattle.policy_lawful.specs.Windows.{Window, access_by, access_of, holds, region_window, window}
use Rattle.muen_num.specs.Numbers.{is_page_aligned}
use Rattle.policy_lawful.specs.rights.Rights.{Rights}
use Rattle.policy_lawful.specs.source.Device.{Device}
use Rattle.policy_lawful.specs.source.Domain.{Domain}
use Rattle.policy_lawful.specs.source.Mapping.{Mapping}
use Rattle.policy_lawful.specs.source.Region.{Region}
use Rattle.policy_lawful.specs.source.Source.{Source}

-- ---- windows end by 2^48

abbrev EndsBelow : Window Thing → Type 0
EndsBelow w = w.guest + w.size ≤ GUEST_END

abbrev ends : Source → Mapping → Bool
ends p m = nat_le (m.virtual_address + region_size p m.region) GUEST_END

ends_in : (p : Source) (d : Domain) (test : Domain → Bool) → offence_22 p ≡ None → find test p.device_domains ≡ Some d → list_all (ends p) d.memory ≡ true
unfolding offence_22
ends_in p d test h found =
    let declared = none_both (each_window p (λ by m. unless (is_declared (map (λ r. r.name) p.memory) m.region) (two by m.region))) _ h in
    let aligned = none_both (each_window p (λ by m. unless (is_page_aligned m.virtual_address) (two by m.region))) _ declared.1 in
    let low = none_both (each_window p (λ by m. unless (ends p m) (two by m.region))) _ aligned.1 in
    let each = all_none (λ (d : Domain). list_all (ends p) d.memory) (λ (d : Domain). first_in (λ (m : Mapping). unless (ends p m) (two d.name m.region)) d.memory)
    (λ d none. all_pass (ends p) (λ (m : Mapping). two d.name m.region) d.memory none) p.device_domains low.0 in
    found_among test (λ (d : Domain). list_all (ends p) d.memory) p.device_domains d found each

module _ (p : Source) where
  abbrev window_by : Mapping → Option (Window Thing)
  window_by m = region_window p m.region m.virtual_address m.rights

  window_ends : (m : Mapping) (o : Option Region) → find (λ r. bytes_eq r.name m.region) p.memory ≡ o → ends p m ≡ true → (w : Window Thing) → option_map (λ (r : Region). window m.virtual_address r.size m.rights (region r.name)) o ≡ Some w → EndsBelow w
  window_ends m None found e w h = absurd (cc)
  window_ends m (Some r) found e w h =
      let size : region_size p m.region ≡ r.size = ap (λ o. option_map_or (λ (r : Region). r.size) o 0) found in
      let low = leb-true (m.virtual_address + region_size p m.region) GUEST_END e in
      let same : window m.virtual_address r.size m.rights (region r.name) ≡ w = cc in
      subst EndsBelow same (omega (arith, low, size))

  windows_end : (ms : List Mapping) → list_all (ends p) ms ≡ true → AllByRecursion EndsBelow (filter_map window_by ms)
  windows_end [] all = tt
  windows_end (m ∷ ms) all =
      let each = and_parts (ends p m) (list_all (ends p) ms) all in
      by (windows_end ms each.1) each.0 (window_by m) refl
    where
      by : AllByRecursion EndsBelow (filter_map window_by ms) → ends p m ≡ true → (o : Option (Window Thing)) → window_by m ≡ o → AllByRecursion EndsBelow (cons_option o (filter_map window_by ms))
      by rest low None e = rest
      by rest low (Some w) e = (window_ends m (find (λ r. bytes_eq r.name m.region) p.memory) refl low w e, rest)

  of_domain : IsLawful p → (o : Option Domain) (device : List ℕ) → domain_of p device ≡ o → AllByRecursion EndsBelow (option_map_or (domain_windows p) o [])
  of_domain lawful None device e = tt
  of_domain lawful (Some d) device e = windows_end d.memory (ends_in p d (λ d. list_any (λ name. bytes_eq name device) d.devices) (rules_of lawful).rule_22 e)

none_held : (ws : List (Window Thing)) (addr : ℕ) → AllByRecursion EndsBelow ws → GUEST_END ≤ addr → find (λ w. holds w addr) ws ≡ None
none_held [] addr all high = refl
none_held (w ∷ ws) addr all high =
    let end : w.guest + w.size ≤ GUEST_END = all.0 in
    let out : holds w addr ≡ false = and_right (nat_le w.guest addr) (nat_lt addr (w.guest + w.size)) (le-ltb addr (w.guest + w.size) (omega (arith, end, high))) in
    ap (λ b. cond b (Some w) (find (λ w. holds w addr) ws)) out ∙ none_held ws addr all.1 high

module _ (p : Source) (i : Image) where
  abbrev at : Option (Window Thing) → ℕ → Bool → Option ℕ
  at o addr write = comes_to (led (address_of p i) (access_by o addr (if write then Write else Read)))

  -- nothing is declared from 2^48 on
  none_above : IsLawful p → (device : List ℕ) (addr : ℕ) (write : Bool) → GUEST_END ≤ addr → access_declared p i device addr write ≡ None
  none_above lawful device addr write high = ap (λ o. at o addr write) (none_held (dma_windows p device) addr (of_domain p lawful (domain_of p device) device refl) high)

  -- nor for a device in no domain
  none_without : (device : List ℕ) (addr : ℕ) (write : Bool) → domain_of p device ≡ None → access_declared p i device addr write ≡ None
  none_without device addr write e = ap (λ o. at (find (λ w. holds w addr) (option_map_or (domain_windows p) o [])) addr write) e

  -- ---- by the list

  abbrev named : DmaFile → List ℕ → Option DmaDevice
  named t device = find (λ (e : DmaDevice). bytes_eq e.name device) t.devices

  -- a device of the list is the policy's device of that name
  windows_named : (e : DmaDevice) (o : Option Device) → device_of p (listed_source e) ≡ o → option_map_or (λ (d : Device). bytes_eq d.name e.name) o false ≡ true → source_windows p (listed_source e) ≡ dma_windows p e.name
  windows_named e None is h = absurd (cc)
  windows_named e (Some d) is h =
      ap (λ o. option_map_or (λ (d : Device). dma_windows p d.name) o []) is ∙ ap (dma_windows p) ((bytes_eq-Decides d.name e.name).0 h)

  declared_named : (e : DmaDevice) (addr : ℕ) (write : Bool) → is_of_policy p e ≡ true → declared p i (listed_source e) addr write ≡ access_declared p i e.name addr write
  unfolding declared
  declared_named e addr write h =
      ap (λ ws. comes_to (led (address_of p i) (access_of ws addr (if write then Write else Read)))) (windows_named e (device_of p (listed_source e)) refl h)

  -- the walk for a device of the list is that for its source
  walk_listed : (t : DmaFile) (e : DmaDevice) (addr : ℕ) (write : Bool) → IsDmaDevice e → addr < GUEST_END → device_walk t e addr write ≡ walk_at (view_of p i t) (listed_source e) addr write
  unfolding device_walk
  walk_listed t e addr write is low =
      let bus_small = is.bus in
      let devfn_small = is.devfn in
      let bus : bus_of (listed_source e) ≡ e.bus = omega (arith, bus_small, devfn_small) in
      let devfn : devfn_of (listed_source e) ≡ e.devfn = omega (arith, bus_small, devfn_small) in
      let below = lt-ltb addr GUEST_END low in
      rw (below, bus, devfn) refl

  walk_above : (t : DmaFile) (e : DmaDevice) (addr : ℕ) (write : Bool) → GUEST_END ≤ addr → device_walk t e addr write ≡ None
  unfolding device_walk
  walk_above t e addr write high = let above = le-ltb addr GUEST_END high in rw above refl

  named_walk : (t : DmaFile) (device : List ℕ) (addr : ℕ) (write : Bool) (o : Option DmaDevice) → named t device ≡ o → dma_walk t device addr write ≡ option_and_then (λ e. device_walk t e addr write) o
  unfolding dma_walk
  named_walk t device addr write o e = ap (option_and_then (λ e. device_walk t e addr write)) e

  module _ (t : DmaFile) (lawful : IsLawful p) (devices : All IsDmaDevice t.devices) (sound : AreSound (view_of p i t)) (listed : list_all (is_of_policy p) t.devices ≡ true) where
    by_list : (d : Device) (addr : ℕ) (write : Bool) (o : Option DmaDevice) → named t d.name ≡ o → (not (is_some (domain_of p d.name)) || is_some o) ≡ true → option_and_then (λ e. device_walk t e addr write) o ≡ access_declared p i d.name addr write
    by_list d addr write None e h =
        elim (domain_of p d.name) as (λ o. domain_of p d.name ≡ o → (not (is_some o) || false) ≡ true → None ≡ access_declared p i d.name addr write) [
          | None ↦ λ is k. sym (none_without d.name addr write is)
          | Some x ↦ λ is k. absurd (cc)
        ] refl h
    by_list d addr write (Some e) is h =
        let test : DmaDevice → Bool = λ e. bytes_eq e.name d.name in
        let name : e.name ≡ d.name = (bytes_eq-Decides e.name d.name).0 (found_passes test t.devices e is) in
        let of_policy : is_of_policy p e ≡ true = found_among test (is_of_policy p) t.devices e is listed in
        let index = found_index test t.devices e is in
        let fine : IsDmaDevice e = all_at IsDmaDevice t.devices index.0 e devices index.1 in
        let bus_small = fine.bus in
        let devfn_small = fine.devfn in
        elim (cases_lt addr GUEST_END) [
          | inl low ↦
              walk_listed t e addr write fine low
              ∙ sound.led (listed_source e) addr write (omega (arith, bus_small, devfn_small)) (omega (arith, low))
              ∙ declared_named e addr write of_policy
              ∙ ap (λ n. access_declared p i n addr write) name
          | inr high ↦ walk_above t e addr write high ∙ sym (none_above lawful d.name addr write high)
        ]

    led_by_name : list_all (is_listed p t) p.devices ≡ true → ReachAsDeclared p i t
    led_by_name all = λ k d l addr write.
        let here = slice_index_or p.devices k d in
        let one : is_listed p t here ≡ true = passes_at (is_listed p t) p.devices k here all (slice_get-get_or p.devices k d l) in
        named_walk t here.name addr write (named t here.name) refl ∙ by_list here addr write (named t here.name) refl one

-- ---- the verdict

-- without a fault neither the list nor the tables have one
record HasNone (p : Source) (i : Image) (t : DmaFile) : Type 0 where
  listing : listing_fault p t ≡ None
  tables : table_fault (view_of p i t) ≡ None

neither : (p : Source) (i : Image) (t : DmaFile) (a : Option (List ℕ)) (b : Option TableFault) → listing_fault p t ≡ a → table_fault (view_of p i t) ≡ b → first_of (option_map of_listing a ∷ option_map of_tables b ∷ []) ≡ None → HasNone p i t
neither p i t None None e f h = record { listing = e; tables = f }
neither p i t (Some n) b e f h = absurd (cc)
neither p i t None (Some g) e f h = absurd (cc)

none_of : (p : Source) (i : Image) (t : DmaFile) → verdict p i t ≡ None → HasNone p i t
none_of p i t h = neither p i t (listing_fault p t) (table_fault (view_of p i t)) refl refl h

pub sound_tables : (p : Source) (i : Image) (t : DmaFile) → verdict p i t ≡ None → AreSound (view_of p i t)
sound_tables p i t h = sound (view_of p i t) (none_of p i t h).tables

pub sound_paths : (p : Source) (i : Image) (t : DmaFile) → verdict p i t ≡ None → HasOnePathPerTable (view_of p i t)
sound_paths p i t h = one_path (view_of p i t) (none_of p i t h).tables

lists : (p : Source) (t : DmaFile) → listing_fault p t ≡ None → (list_all (is_of_policy p) t.devices ≡ true) × (list_all (is_listed p t) p.devices ≡ true)
unfolding listing_fault
lists p t h =
    let first = none_both (first_in (λ (e : DmaDevice). unless (is_of_policy p e) e.name) t.devices) _ h in
    let second = none_both (first_in (λ (d : Device). unless (is_listed p t d) d.name) p.devices) None first.1 in
    (all_pass (is_of_policy p) (λ (e : DmaDevice). e.name) t.devices first.0, all_pass (is_listed p t) (λ (d : Device). d.name) p.devices second.0)

pub reaches : (p : Source) (i : Image) (t : DmaFile) → IsLawful p → KeepsConditions t → verdict p i t ≡ None → ReachAsDeclared p i t
reaches p i t lawful keeps h =
    let both = lists p t (none_of p i t h).listing in
    led_by_name p i t lawful keeps.devices (sound_tables p i t h) both.0 both.1

-- tables that are sound, of which each is come to on one path, have no fault where the list has none
pub no_verdict : (p : Source) (i : Image) (t : DmaFile) → listing_fault p t ≡ None → AreSound (view_of p i t) → HasOnePathPerTable (view_of p i t) → verdict p i t ≡ None
no_verdict p i t h s one = let e = no_faults (view_of p i t) s one in rw (h, e) refl

abbrev fault_or : TableFault → DmaFault → TableFault
fault_or other (Tables fault) = fault
fault_or other (Listing device) = other

-- each fault of tables but that one is come to on two paths says that they aren't sound
pub unsound_tables : (p : Source) (i : Image) (t : DmaFile) (f : TableFault) → verdict p i t ≡ Some (of_tables f) → AreSound (view_of p i t) → f.kind ≡ Twice
unsound_tables p i t f h s = by (listing_fault p t) (table_fault (view_of p i t)) refl h
  where
    same : (g : TableFault) → of_tables g ≡ of_tables f → g ≡ f
    same g e = ap (fault_or g) e

    by : (a : Option (List ℕ)) (b : Option TableFault) → table_fault (view_of p i t) ≡ b → first_of (option_map of_listing a ∷ option_map of_tables b ∷ []) ≡ Some (of_tables f) → f.kind ≡ Twice
    by (Some n) b e k = absurd (cc)
    by None None e k = absurd (cc)
    by None (Some g) e k = unsound (view_of p i t) f (e ∙ ap (λ x. Some x) (same g (same_Some (of_tables g) (of_tables f) k))) s
