-- The walk over the tables goes where the domains' windows lead.
use Rattle.std.proofs.Common.{◌≡◌, inl, inr, ℕ, ◌+◌, ◌-◌, ◌*◌, ◌/◌, ◌%◌, ◌^◌, ◌<◌, ◌≤◌, ◌==◌, ◌&&◌, true, false, Bool, List, [], get_or, length, All, Option, Some, None, refl, sym, ap, ◌∙◌, subst, arith}
use Rattle.std.specs.Prelude.{find, if◌then◌else◌, nat_le, nat_lt, option_and_then, option_map}
use Rattle.std.specs.Option.{option_map_or}
use Rattle.std.specs.Str.{bytes_eq}
use Rattle.std.proofs.lemmas.Bool.{and_from, cases_Bool, eq-eqb, le-leb, lt-ltb, ltb-true, ltb-false}
use Rattle.dma_emit.specs.declared.devices.DomainDevice.{DomainDevice}
use Rattle.dma_emit.specs.declared.domains.Domains.{Domains}
use Rattle.dma_emit.specs.declared.entries.WideEntry.{WideEntry}
use Rattle.dma_emit.specs.declared.layout.TheConstants.{BUSES, DEVFNS}
use Rattle.dma_emit.specs.Emitted.{IsFileOf}
use Rattle.dma_emit.specs.Entries.{absent_entry, context_entry, context_of, domain_word, refers_to, root_entry}
use Rattle.dma_emit.specs.Layout.{context_page, domain_pages, has_device, on_bus, page_count, tables_page, domain_windows_at}
use Rattle.dma_emit.specs.Reached.{device_access_kind}
use Rattle.dma_emit.specs.Ready.{IsReady}
use Rattle.dma_emit.proofs.Layouts.{before_all, context_fits, domain_there, pages_next, pages_some, windows_there}
use Rattle.dma_emit.proofs.Levels.{descend, descended, led_page, paged_is}
use Rattle.dma_emit.proofs.OnlyOne.{only_found}
use Rattle.dma_emit.proofs.Places.{context_word, pages_long, root_word, tables_word}
use Rattle.dma_emit.proofs.Words.{high_of, low_of, word_in}
use Rattle.dma_tables.specs.DmaFile.{page_count_of}
use Rattle.dma_tables.specs.DmaWalk.{context_table, device_page, device_walk, dma_walk, highest_table, is_context, is_root, page_in, pair_page, paged, root_page, word_of}
use Rattle.dma_tables.specs.declared.file.DmaDevice.{DmaDevice}
use Rattle.dma_tables.specs.declared.file.DmaFile.{DmaFile}
use Rattle.ept_emit.specs.Emitted.{window_at}
use Rattle.ept_emit.specs.Entries.{IsEmittable, word_at}
use Rattle.ept_emit.specs.declared.window.Window.{Window}
use Rattle.ept_emit.proofs.Found.{All_at, first_held}
use Rattle.ept_emit.proofs.Walked.{Has}
use Rattle.machine_layout.specs.PageFields.{number_at}
use Rattle.machine_layout.specs.Walks.{bits_of}
use Rattle.muen_num.proofs.Lists.{find-map}
use Rattle.muen_num.proofs.Members.{In, all_in, any_in, find_in}
use Rattle.policy_lawful.specs.Rights.{allows}

-- where a window leads an access, where it has the right
abbrev pub led : Option Window → ℕ → Bool → Option ℕ
led None addr write = None
led (Some w) addr write = if allows w.rights (device_access_kind write) then Some (w.address + (addr - w.guest)) else None

-- where a device gets by the windows of its domain
abbrev pub led_device : Domains → ℕ → Bool → DomainDevice → Option ℕ
led_device d addr write v = led (window_at (domain_windows_at d v.domain) addr) addr write

abbrev pub by_domains : Domains → List ℕ → ℕ → Bool → Option ℕ
by_domains d device addr write = option_and_then (led_device d addr write) (find (λ v. bytes_eq v.device.name device) d.devices)

-- ---- entries of 16 bytes

low_bits : (p : ℕ) → p < 2 ^ 28 → (bits_of (refers_to p) 0 0 ≡ 1) × ((bits_of (refers_to p) 1 11 ≡ 0) × ((bits_of (refers_to p) 40 63 ≡ 0) × (page_in (refers_to p) ≡ p)))
low_bits p small = (omega arith, (omega arith, (omega arith, omega arith)))

root_passes : (p : ℕ) → p < 2 ^ 28 → is_root (refers_to p) 0 ≡ true
root_passes p small =
    let b = low_bits p small in
    and_from _ _ (eq-eqb _ _ b.0) (and_from _ _ (eq-eqb _ _ b.1.0) (and_from _ _ (eq-eqb _ _ b.1.1.0) refl))

high_bits : (n : ℕ) → n < 2 ^ 16 - 1 → (bits_of (domain_word n) 0 2 ≡ 2) × ((bits_of (domain_word n) 3 7 ≡ 0) × (bits_of (domain_word n) 24 63 ≡ 0))
high_bits n small = (omega arith, (omega arith, omega arith))

context_passes : (p n : ℕ) → p < 2 ^ 28 → n < 2 ^ 16 - 1 → is_context (refers_to p) (domain_word n) ≡ true
context_passes p n small few =
    let b = low_bits p small in
    let h = high_bits n few in
    and_from _ _ (eq-eqb _ _ b.0) (and_from _ _ (eq-eqb _ _ b.1.0) (and_from _ _ (eq-eqb _ _ b.1.1.0) (and_from _ _ (eq-eqb _ _ h.0) (and_from _ _ (eq-eqb _ _ h.1.0) (eq-eqb _ _ h.1.1)))))

-- what a pair of words refers to
pair_some : (is : ℕ → ℕ → Bool) (l h p : ℕ) → is l h ≡ true → page_in l ≡ p → pair_page is (Some l) (Some h) ≡ Some p
pair_some is l h p passes e = ap (λ b. if b then Some (page_in l) else None) passes ∙ ap Some e

module _ (d : Domains) (ready : IsReady d) (t : DmaFile) (file : IsFileOf d t) (aligned : t.base % 4096 ≡ 0) (low : root_page t + page_count d ≤ 2 ^ 28) where
  abbrev root : ℕ
  root = root_page t

  long : length t.pages ≡ 4096 * page_count d
  long = pages_long d root t.pages file.pages

  -- ---- words of pages of the file

  word_there : (k i : ℕ) → k < page_count d → word_of t (root + k) i ≡ Some (word_in t.pages (4096 * k + 8 * i))
  unfolding number_at
  word_there k i l =
      let many = long in
      let rest : root + k - root ≡ k = omega arith in
      let within : root + k - root < page_count_of t = omega arith in
      let here : (nat_le root (root + k) && nat_lt (root + k - root) (page_count_of t)) ≡ true = and_from _ _ (le-leb root (root + k) (omega arith)) (lt-ltb _ _ within) in
      ap (λ b. if b then Some (number_at t.pages (4096 * (root + k - root) + 8 * i) 8) else None) here
      ∙ ap (λ j. Some (number_at t.pages (4096 * j + 8 * i) 8)) rest

  -- ---- the root entry of a bus with a device

  some_page : 1 ≤ page_count d
  some_page = let all = before_all d 0 (omega arith) in omega arith

  context_low : (bus : ℕ) → bus < BUSES → on_bus d bus ≡ true → context_page d bus < page_count d
  context_low bus l h =
      let room = context_fits d bus l h in
      let all = before_all d 0 (omega arith) in
      omega arith

  root_is : (bus : ℕ) → on_bus d bus ≡ true → root_entry d root bus ≡ record { low = refers_to (root + context_page d bus); high = 0 }
  root_is bus h = ap (λ b. if b then record { low = refers_to (root + context_page d bus); high = 0 } else absent_entry) h

  context_found : (bus : ℕ) → bus < BUSES → on_bus d bus ≡ true → context_table (word_of t) root bus ≡ Some (root + context_page d bus)
  context_found bus l h =
      let page = root + context_page d bus in
      let below = context_low bus l h in
      let small : page < 2 ^ 28 = omega arith in
      let zero_page : root ≡ root + 0 = omega arith in
      let some = some_page in
      let is = root_is bus h in
      let low_place : 4096 * 0 + 8 * (2 * bus) ≡ 16 * bus = omega arith in
      let high_place : 4096 * 0 + 8 * (2 * bus + 1) ≡ 16 * bus + 8 = omega arith in
      let low_small : (root_entry d root bus).low < 2 ^ 64 = subst (λ (e : WideEntry). e.low < 2 ^ 64) (sym is) (omega arith) in
      let high_small : (root_entry d root bus).high < 2 ^ 64 = subst (λ (e : WideEntry). e.high < 2 ^ 64) (sym is) (omega arith) in
      let low_is : word_of t root (2 * bus) ≡ Some (refers_to page) =
      ap (λ p. word_of t p (2 * bus)) zero_page
      ∙ (word_there 0 (2 * bus) (omega arith)
      ∙ ap Some (ap (word_in t.pages) low_place ∙ (root_word d root t.pages file.pages (16 * bus) (omega arith) ∙ (low_of (root_entry d root) bus l low_small ∙ ap (λ (e : WideEntry). e.low) is)))) in
      let high_is : word_of t root (2 * bus + 1) ≡ Some 0 =
      ap (λ p. word_of t p (2 * bus + 1)) zero_page
      ∙ (word_there 0 (2 * bus + 1) (omega arith)
      ∙ ap Some (ap (word_in t.pages) high_place ∙ (root_word d root t.pages file.pages (16 * bus + 8) (omega arith) ∙ (high_of (root_entry d root) bus l high_small ∙ ap (λ (e : WideEntry). e.high) is)))) in
      (λ i. pair_page is_root (low_is i) (high_is i)) ∙ pair_some is_root (refers_to page) 0 page (root_passes page small) (low_bits page small).1.1.1

  -- ---- the context entry of a device

  module _ (v : DomainDevice) (stands : In v d.devices) (bus_small : v.device.bus < BUSES) (devfn_small : v.device.devfn < DEVFNS) where
    abbrev n : ℕ
    n = v.domain

    on : on_bus d v.device.bus ≡ true
    on = any_in (λ w. w.device.bus == v.device.bus) d.devices v stands (eq-eqb v.device.bus v.device.bus refl)

    has : has_device d n ≡ true
    has = any_in (λ w. w.domain == n) d.devices v stands (eq-eqb n n refl)

    there : n < length d.windows
    there = domain_there d n ready has

    entry_is : context_entry d root v.device.bus v.device.devfn ≡ context_of d root v
    entry_is =
        ap (λ o. option_map_or (context_of d root) o absent_entry)
        (only_found v d.devices stands ready.places)

    tables_low : tables_page d n < page_count d
    tables_low =
        let some = pages_some d n has in
        let next = pages_next d n there in
        omega arith

    highest_found : highest_table (word_of t) (root + context_page d v.device.bus) v.device.devfn ≡ Some (root + tables_page d n)
    highest_found =
        let bus = v.device.bus in
        let f = v.device.devfn in
        let page = root + tables_page d n in
        let below = context_low bus bus_small on in
        let high_below = tables_low in
        let small : page < 2 ^ 28 = omega arith in
        let few = ready.few_domains in
        let is = entry_is in
        let at = there in
        let low_place : 4096 * context_page d bus + 8 * (2 * f) ≡ 4096 * context_page d bus + 16 * f = omega arith in
        let high_place : 4096 * context_page d bus + 8 * (2 * f + 1) ≡ 4096 * context_page d bus + (16 * f + 8) = omega arith in
        let entry = context_entry d root bus in
        let low_small : (entry f).low < 2 ^ 64 = subst (λ (e : WideEntry). e.low < 2 ^ 64) (sym is) (omega arith) in
        let high_small : (entry f).high < 2 ^ 64 = subst (λ (e : WideEntry). e.high < 2 ^ 64) (sym is) (omega arith) in
        let low_is : word_of t (root + context_page d bus) (2 * f) ≡ Some (refers_to page) =
        word_there (context_page d bus) (2 * f) below
        ∙ ap Some (ap (word_in t.pages) low_place ∙ (context_word d root t.pages file.pages bus (16 * f) bus_small on (omega arith) ∙ (low_of entry f devfn_small low_small ∙ ap (λ (e : WideEntry). e.low) is))) in
        let high_is : word_of t (root + context_page d bus) (2 * f + 1) ≡ Some (domain_word n) =
        word_there (context_page d bus) (2 * f + 1) below
        ∙ ap Some (ap (word_in t.pages) high_place ∙ (context_word d root t.pages file.pages bus (16 * f + 8) bus_small on (omega arith) ∙ (high_of entry f devfn_small high_small ∙ ap (λ (e : WideEntry). e.high) is))) in
        (λ i. pair_page is_context (low_is i) (high_is i)) ∙ pair_some is_context (refers_to page) (domain_word n) page (context_passes page n small (omega arith)) (low_bits page small).1.1.1

    -- ---- the tables of its domain

    abbrev bytes : List ℕ
    bytes = get_or file.pages.tables n []

    has_words : (used : ℕ) → used ≤ domain_pages d n → Has (word_of t) (word_at bytes) (root + tables_page d n) used
    has_words used few k i l small =
        let next = pages_next d n there in
        let within : tables_page d n + k < page_count d = omega arith in
        let together : root + tables_page d n + k ≡ root + (tables_page d n + k) = omega arith in
        let place : 4096 * (tables_page d n + k) + 8 * i ≡ 4096 * tables_page d n + 8 * (512 * k + i) = omega arith in
        ap (λ p. word_of t p i) together
        ∙ (word_there (tables_page d n + k) i within
        ∙ ap Some (ap (word_in t.pages) place ∙ tables_word d root t.pages file.pages n (8 * (512 * k + i)) there (omega arith)))

    abbrev ws : List Window
    ws = domain_windows_at d n

    paged_to : (addr : ℕ) (write : Bool) → addr < 2 ^ 48 → paged (word_of t) addr write (root + tables_page d n) ≡ led_page (window_at ws addr) addr write
    paged_to addr write l =
        let of = (file.pages.are.each n there).some has in
        let windows = windows_there d n ready there in
        let some = pages_some d n has in
        let next = pages_next d n there in
        let few : of.used ≤ domain_pages d n = omega (arith, of.few) in
        let first : root + tables_page d n ≡ root + tables_page d n + 0 = omega arith in
        paged_is (word_of t) addr write (root + tables_page d n)
        ∙ (ap (descend (word_of t) addr write 3) first
        ∙ descended (word_of t) (word_at bytes) (root + tables_page d n) 1 of.used ws addr write (omega arith) (has_words of.used few) windows.emittable windows.for_devices 3 0 (omega (arith, of.some)) (of.numbered.written addr l))

    device_paged : (addr : ℕ) (write : Bool) → addr < 2 ^ 48 → device_page (word_of t) root v.device addr write ≡ led_page (window_at ws addr) addr write
    device_paged addr write l =
        ap (λ o. option_and_then (paged (word_of t) addr write) (option_and_then (λ table. highest_table (word_of t) table v.device.devfn) o)) (context_found v.device.bus bus_small on)
        ∙ (ap (option_and_then (paged (word_of t) addr write)) highest_found ∙ paged_to addr write l)

    byte_is : (addr : ℕ) (write : Bool) (o : Option Window) → window_at ws addr ≡ o → option_map (λ page. 4096 * page + addr % 4096) (led_page o addr write) ≡ led o addr write
    byte_is addr write None e = refl
    byte_is addr write (Some w) e =
        let windows = windows_there d n ready there in
        let fine = All_at IsEmittable ws addr w windows.emittable e in
        let held = first_held ws addr w e in
        let same : 4096 * ((w.address + (addr - w.guest)) / 4096) + addr % 4096 ≡ w.address + (addr - w.guest) = omega (arith, fine.address, fine.guest, held.0) in
        elim (allows w.rights (device_access_kind write)) as (λ b. option_map (λ page. 4096 * page + addr % 4096) (if b then Some ((w.address + (addr - w.guest)) / 4096) else None) ≡ (if b then Some (w.address + (addr - w.guest)) else None)) [
          | true ↦ ap Some same
          | false ↦ refl
        ]

    none_high : (addr : ℕ) (write : Bool) (o : Option Window) → 2 ^ 48 ≤ addr → window_at ws addr ≡ o → led o addr write ≡ None
    none_high addr write None l e = refl
    none_high addr write (Some w) l e =
        let windows = windows_there d n ready there in
        let fine = All_at IsEmittable ws addr w windows.emittable e in
        let held = first_held ws addr w e in
        absurd (omega (arith, fine.end, held.1))

    device_walked : (addr : ℕ) (write : Bool) → device_walk t v.device addr write ≡ led_device d addr write v
    unfolding device_walk
    device_walked addr write =
        let walk = option_map (λ page. 4096 * page + addr % 4096) (device_page (word_of t) root v.device addr write) in
        elim (cases_Bool (nat_lt addr (2 ^ 48))) [
          | inl passes ↦
              let l = ltb-true addr (2 ^ 48) passes in
              ap (λ b. if b then walk else None) passes
              ∙ (ap (option_map (λ page. 4096 * page + addr % 4096)) (device_paged addr write l) ∙ byte_is addr write (window_at ws addr) refl)
          | inr fails ↦
              let l = ltb-false addr (2 ^ 48) fails in
              ap (λ b. if b then walk else None) fails ∙ sym (none_high addr write (window_at ws addr) l refl)
        ]

  -- ---- a device by its name

  by_name : (device : List ℕ) (addr : ℕ) (write : Bool) (bytes : All (λ v. (v.device.bus < BUSES) × (v.device.devfn < DEVFNS)) d.devices) (o : Option DomainDevice) → find (λ v. bytes_eq v.device.name device) d.devices ≡ o
      → option_and_then (λ e. device_walk t e addr write) (option_map (λ v. v.device) o) ≡ option_and_then (led_device d addr write) o
  by_name device addr write bytes None e = refl
  by_name device addr write bytes (Some v) e =
      let stands = (find_in (λ v. bytes_eq v.device.name device) d.devices v e).0 in
      let small = all_in (λ v. (v.device.bus < BUSES) × (v.device.devfn < DEVFNS)) d.devices bytes v stands in
      device_walked v stands small.0 small.1 addr write

  pub walks : All (λ v. (v.device.bus < BUSES) × (v.device.devfn < DEVFNS)) d.devices → (device : List ℕ) (addr : ℕ) (write : Bool) → dma_walk t device addr write ≡ by_domains d device addr write
  unfolding dma_walk
  walks bytes device addr write =
      ap (λ ds. option_and_then (λ e. device_walk t e addr write) (find (λ e. bytes_eq e.name device) ds)) file.devices
      ∙ (ap (option_and_then (λ e. device_walk t e addr write)) (find-map (λ (e : DmaDevice). bytes_eq e.name device) (λ (v : DomainDevice). v.device) d.devices)
      ∙ by_name device addr write bytes (find (λ v. bytes_eq v.device.name device) d.devices) refl)
