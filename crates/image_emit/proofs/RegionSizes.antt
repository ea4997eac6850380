-- The bytes of the regions of an image, by number, are as many as the regions' sizes say.
use Rattle.std.proofs.Common.{◌≡◌, ℕ, zero, suc, ◌+◌, ◌*◌, List, [], ◌∷◌, ◌++◌, length, map, get_or, take, refl, sym, ap, ◌∙◌, arith, Some}
use Rattle.std.proofs.Math.Seq.{take-append_seam}
use Rattle.std.specs.Prelude.{option_map, slice_get}
use Rattle.std.specs.List.{AllZip, enumerate_from, flat_map, zip}
use Rattle.std.proofs.lemmas.List.{length-map, map-append}
use Rattle.std.proofs.lemmas.Option.{get_or_from_slice_get, slice_get-map}
use Rattle.ept_emit.specs.Pages.{ept_pages}
use Rattle.expand_kernel.specs.granted.Grants.{Grants}
use Rattle.expand_kernel.specs.ByIndex.{granted_ranges, kernel_first, kernel_for, kernel_for_each}
use Rattle.policy_lawful.specs.Things.{placed_things, region_of_thing}
use Rattle.expand_kernel.specs.thing.Region.{Region}
use Rattle.expand_kernel.proofs.Numbering.{regions_are as regions_by_number}
use Rattle.image_emit.proofs.SpansOfKernel.{padded_length}
use Rattle.image_emit.specs.Made.{IsMade, Made, kernel_bytes, policy_of, region_bytes}
use Rattle.image_soundness.specs.Exits.{area_bytes}
use Rattle.msrbm_emit.specs.Area.{area_of}
use Rattle.machine_layout.proofs.AreaLaws.{length-area}
use Rattle.msrbm_emit.proofs.AreaLaws.{length-area_of}
use Rattle.muen_num.specs.declared.limits.TheConstants.{PAGE}
use Rattle.policy_lawful.specs.declared.resolved.Subject.{Subject}
use Rattle.region_alloc.specs.Placed.{Placement}
use Rattle.image_soundness.specs.StatePage.{page_bytes}
use Rattle.subject_emit.specs.Pages.{ArePages}
use Rattle.subject_emit.specs.declared.subject_pages.SubjectPages.{SubjectPages}
use Rattle.subject_emit.proofs.SamePages.{pages_same}
use Rattle.image_soundness.specs.States.{started}

-- ---- pages of the kernel

pub length-page : (entry : ℕ) → length (page_bytes (started entry)) ≡ PAGE
unfolding page_bytes started
length-page entry = padded_length PAGE _ (omega arith)

-- the kernel's pages for each subject have the sizes of its regions
kernel_sizes : (x : Placement) (n : ℕ) (es : List (Subject × Grants)) (qs : List SubjectPages) → AllZip (λ (e : ℕ × (Subject × Grants)) q. ArePages x e.0 e.1.0 e.1.1 q) (enumerate_from n es) qs
    → map (λ b. length b) (flat_map kernel_bytes qs) ≡ map (λ r. r.size) (flat_map kernel_for es)
kernel_sizes x n [] [] h = refl
kernel_sizes x n [] (q ∷ qs) h = absurd h
kernel_sizes x n (e ∷ es) [] h = absurd h
kernel_sizes x n (e ∷ es) (q ∷ qs) h =
    let p = h.0 in
    let state : length q.state ≡ PAGE = ap length p.state ∙ length-page e.0.entry in
    let tables : length q.tables ≡ ept_pages (granted_ranges e.1.windows) * PAGE = p.tables.written.len ∙ ap (λ k. PAGE * k) (pages_same x e.1) ∙ omega arith in
    let entries = area_of e.1.msrs in
    let area : length q.area ≡ PAGE = ap length p.area ∙ padded_length PAGE (area_bytes entries) (omega (arith, length-area entries, length-area_of e.1.msrs, p.few)) in
    let rest = kernel_sizes x (n + 1) es qs h.1 in
    λ i. state i ∷ tables i ∷ p.ports_len i ∷ p.msrs_len i ∷ area i ∷ rest i

-- ---- the regions that aren't the kernel's

-- by number: those of the things that are placed
abbrev pub first_regions : Made → List Region
first_regions m = map region_of_thing (placed_things (policy_of m))

abbrev pub last_regions : Made → List Region
last_regions m = kernel_for_each (policy_of m).subjects m.placed.expanded.grants

pub regions_are : (m : Made) → IsMade m → m.placed.expanded.regions ≡ first_regions m ++ last_regions m
regions_are m h = regions_by_number (policy_of m) h.resolved m.placed.expanded.grants h.expansion.grants m.placed.expanded.regions h.expansion.regions

pub first_many : (m : Made) → length (first_regions m) ≡ kernel_first (policy_of m) 0
first_many m = let many = length-map (placed_things (policy_of m)) region_of_thing in omega (arith, many)

-- the things have the sizes of the first regions
things_sized : (m : Made) → IsMade m → map (λ b. length b) m.things ≡ map (λ r. r.size) (first_regions m)
things_sized m h =
    let many : length m.things ≡ length (first_regions m) = h.filled.many ∙ sym (first_many m) in
    let taken : take (length m.things) m.placed.expanded.regions ≡ first_regions m = (λ i. take (many i) (regions_are m h i)) ∙ take-append_seam (first_regions m) (last_regions m) in
    h.filled.sizes ∙ ap (map (λ (r : Region). r.size)) taken

-- ---- all

pub sizes : (m : Made) → IsMade m → map (λ b. length b) (region_bytes m) ≡ map (λ r. r.size) m.placed.expanded.regions
unfolding kernel_for_each
sizes m h =
    let kernel = kernel_sizes m.placed 0 (zip (policy_of m).subjects m.placed.expanded.grants) m.pages h.pages in
    map-append (λ b. length b) m.things (flat_map kernel_bytes m.pages)
    ∙ (λ i. things_sized m h i ++ kernel i)
    ∙ sym (map-append (λ (r : Region). r.size) (first_regions m) (last_regions m))
    ∙ ap (map (λ (r : Region). r.size)) (sym (regions_are m h))

-- as many as there are regions
pub bytes_many : (m : Made) → IsMade m → length (region_bytes m) ≡ length m.placed.expanded.regions
bytes_many m h =
    sym (length-map (region_bytes m) (λ b. length b))
    ∙ ap length (sizes m h)
    ∙ length-map m.placed.expanded.regions (λ r. r.size)

length_at : (bs : List (List ℕ)) (n : ℕ) → length (get_or bs n []) ≡ get_or (map (λ b. length b) bs) n 0
length_at [] n = refl
length_at (b ∷ bs) zero = refl
length_at (b ∷ bs) (suc n) = length_at bs n

-- the region of a number has as many bytes as its size says
pub bytes_sized : (m : Made) → IsMade m → (n : ℕ) (r : Region) → slice_get m.placed.expanded.regions n ≡ Some r → length (get_or (region_bytes m) n []) ≡ r.size
bytes_sized m h n r at =
    length_at (region_bytes m) n
    ∙ ap (λ ns. get_or ns n 0) (sizes m h)
    ∙ get_or_from_slice_get (map (λ r. r.size) m.placed.expanded.regions) n r.size 0 (slice_get-map (λ r. r.size) m.placed.expanded.regions n ∙ ap (option_map (λ (r : Region). r.size)) at)
