-- Which page has which table: pages ascend, and there are as many as that.
use Rattle.std.proofs.Common.{◌≡◌, ℕ, suc, ◌+◌, ◌<◌, ◌≤◌, true, false, All, List, [], length, get_or, map, refl, sym, ap, ◌∙◌, arith}
use Rattle.std.specs.Prelude.{◌==◌, if◌then◌else◌}
use Rattle.std.specs.List.{sum_by}
use Rattle.std.proofs.lemmas.Bool.{eqb-true}
use Rattle.std.proofs.lemmas.List.{get_or_default, length-map}
use Rattle.std.proofs.lemmas.List.Elements.{All-map}
use Rattle.dma_emit.specs.declared.domains.Domains.{Domains}
use Rattle.dma_emit.specs.declared.layout.TheConstants.{BUSES}
use Rattle.dma_emit.specs.Layout.{buses, buses_below, context_page, domain_pages, has_device, on_bus, page_count, tables_page, domain_windows_at}
use Rattle.dma_emit.specs.Ready.{AreDomainWindows, IsReady}
use Rattle.dma_emit.proofs.Lists.{filter_fits_numbers, filter_passes_next, length_pushed, sum_grows, sum_next, sum_rises}
use Rattle.ept_emit.specs.Entries.{IsEmittable}
use Rattle.ept_emit.specs.Pages.{IsMapped, ept_pages, guest_range_of, ranges_of}
use Rattle.ept_emit.specs.declared.window.Window.{Window}
use Rattle.muen_num.specs.Range.{numbers_below}
use Rattle.muen_num.proofs.Members.{all_in, any_some, filter_fits}
use Rattle.muen_num.proofs.NumbersBelow.{length_numbers, mapped_at}

-- ---- buses

pub buses_are : (d : Domains) (n : ℕ) → n ≡ BUSES → buses d ≡ buses_below d n
unfolding buses
buses_are d n e = ap (buses_below d) (sym e)

pub few_below : (d : Domains) (n m : ℕ) → n ≤ m → length (buses_below d n) ≤ length (buses_below d m)
few_below d n m l = filter_fits_numbers (on_bus d) n m l

few_buses_of : (d : Domains) (n : ℕ) → n ≡ BUSES → length (buses d) ≤ BUSES
few_buses_of d n e =
    let is = ap length (buses_are d n e) in
    let few = filter_fits (on_bus d) (numbers_below n) in
    let many = length_numbers n in
    omega arith

pub few_buses : (d : Domains) → length (buses d) ≤ BUSES
few_buses d = few_buses_of d BUSES refl

-- ---- pages

pub pages_grow : (d : Domains) (n m : ℕ) → n ≤ m → tables_page d n ≤ tables_page d m
pages_grow d n m l = let more = sum_grows (domain_pages d) n m l in omega arith

pub before_all : (d : Domains) (n : ℕ) → n ≤ length d.windows → tables_page d n ≤ page_count d
before_all d n l = pages_grow d n (length d.windows) l

pub pages_next : (d : Domains) (n : ℕ) → n < length d.windows → tables_page d n + domain_pages d n ≤ page_count d
pages_next d n l = let more = sum_rises (domain_pages d) n (length d.windows) l in omega arith

pub contexts_first : (d : Domains) (bus : ℕ) → bus ≤ BUSES → context_page d bus ≤ tables_page d 0
contexts_first d bus l =
    let few = few_below d bus BUSES l in
    let all = ap length (buses_are d BUSES refl) in
    omega arith

-- a bus with a device has one of the pages before the domains'
pub context_fits : (d : Domains) (bus : ℕ) → bus < BUSES → on_bus d bus ≡ true → context_page d bus < tables_page d 0
context_fits d bus l h =
    let more = ap length (filter_passes_next (on_bus d) bus (bus + 1) refl h) ∙ length_pushed (buses_below d bus) bus in
    let few = few_below d (bus + 1) BUSES (omega arith) in
    let all = ap length (buses_are d BUSES refl) in
    omega arith

-- the pages as a list
module _ (d : Domains) (pages : List ℕ) (are : pages ≡ map (tables_page d) (numbers_below (length d.windows + 1))) where
  pub page_there : (n : ℕ) → n ≤ length d.windows → n < length pages
  page_there n l =
      let many = ap length are ∙ (length-map (numbers_below (length d.windows + 1)) (tables_page d) ∙ length_numbers (length d.windows + 1)) in
      omega arith

  pub page_at : (n : ℕ) → n ≤ length d.windows → get_or pages n 0 ≡ tables_page d n
  page_at n l = ap (λ xs. get_or xs n 0) are ∙ mapped_at (tables_page d) (length d.windows + 1) n 0 (omega arith)

-- ---- domains in which a device stands

pub domain_there : (d : Domains) (n : ℕ) → IsReady d → has_device d n ≡ true → n < length d.windows
domain_there d n ready h =
    let v = any_some (λ v. v.domain == n) d.devices h in
    let below = all_in (λ v. v.domain < length d.windows) d.devices ready.domains v.one v.within in
    let same = eqb-true v.one.domain n v.passes in
    omega arith

pub pages_some : (d : Domains) (n : ℕ) → has_device d n ≡ true → domain_pages d n ≡ ept_pages (ranges_of (domain_windows_at d n))
pages_some d n h = ap (λ b. if b then ept_pages (ranges_of (domain_windows_at d n)) else 0) h

pub pages_none : (d : Domains) (n : ℕ) → has_device d n ≡ false → domain_pages d n ≡ 0
pages_none d n h = ap (λ b. if b then ept_pages (ranges_of (domain_windows_at d n)) else 0) h

pub pages_step : (d : Domains) (n : ℕ) → tables_page d (n + 1) ≡ tables_page d n + domain_pages d n
pages_step d n =
    let next : n + 1 ≡ suc n = omega arith in
    let same = ap (λ k. sum_by (domain_pages d) (numbers_below k)) next in
    let sum = sum_next (domain_pages d) n in
    omega (arith, same, sum)

-- ---- windows

pub windows_there : (d : Domains) (n : ℕ) → IsReady d → n < length d.windows → AreDomainWindows (domain_windows_at d n)
windows_there d n ready l = ready.windows n [] l

pub all_mapped : (ws : List Window) → All IsEmittable ws → All IsMapped (ranges_of ws)
all_mapped ws h = All-map IsMapped guest_range_of ws (λ k w l. let fine = h k w l in record { some = fine.some; end = fine.end })

-- what stands behind the last domain's page is the number of all
pub count_is : (d : Domains) (pages : List ℕ) → pages ≡ map (tables_page d) (numbers_below (length d.windows + 1)) → (n count : ℕ) → n ≡ length d.windows → count ≡ get_or pages n count → count ≡ page_count d
count_is d pages are n count last is =
    let within : n < length pages = page_there d pages are n (omega arith) in
    is ∙ (get_or_default pages n count 0 within ∙ (page_at d pages are n (omega arith) ∙ ap (tables_page d) last))
