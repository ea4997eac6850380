-- Each page of the span of a subject's tables is read by a walk for the subject, or is zero.
use Rattle.std.proofs.Common.{◌≡◌, ◌⊎◌, inl, inr, ℕ, zero, suc, ◌+◌, ◌-◌, ◌*◌, ◌/◌, ◌^◌, ◌<◌, ◌≤◌, List, [], ◌∷◌, length, take, drop, Some, refl, ap, ap₂, ◌∙◌, arith}
use Rattle.std.specs.Prelude.{replicate}
use Rattle.std.proofs.lemmas.List.{drop-drop, length-drop, length-take-le}
use Rattle.ept_emit.specs.Emitted.{IsReadBy, eptp_of}
use Rattle.ept_emit.specs.Entries.{word_at}
use Rattle.ept_emit.specs.Pages.{ept_pages}
use Rattle.event_emit.specs.declared.event_tables.EventTables.{EventTables}
use Rattle.expand_kernel.specs.granted.Grants.{Grants}
use Rattle.expand_kernel.specs.ByIndex.{granted_ranges, kernel_first}
use Rattle.image_emit.specs.Made.{IsMade, Made, content_at, image_of, policy_of, subject_part}
use Rattle.image_emit.proofs.ByNumber.{span_numbered}
use Rattle.image_emit.proofs.BySubject.{IsAtIndex, each_subject}
use Rattle.image_emit.proofs.SpansOfKernel.{kernel_numbered, kernel_span}
use Rattle.image_soundness.specs.Memory.{memory_of}
use Rattle.image_soundness.specs.Sound.{ForEachSubject}
use Rattle.machine_layout.specs.Memory.{le_number, page_of}
use Rattle.muen_num.specs.declared.limits.TheConstants.{PAGE}
use Rattle.muen_num.specs.declared.tag.TagPart.TheVariants.{Ept}
use Rattle.policy_lawful.specs.Resolution.{source_of, subject_named}
use Rattle.policy_lawful.specs.declared.resolved.Subject.{Subject}
use Rattle.proof_build.specs.Built.{HasNoSpareTables, IsTablePage}
use Rattle.proof_build.proofs.Paths.{whole}
use Rattle.proof_build.proofs.Tables.{has_tables, tables_long}
use Rattle.subject_emit.specs.Pages.{tables_at}
use Rattle.subject_emit.specs.declared.subject_pages.SubjectPages.{SubjectPages}
use Rattle.subject_emit.proofs.SamePages.{pages_same}

-- ---- words that are 0

-- bytes that spell 0 are zeros
zeros : (n : ℕ) (bytes : List ℕ) → length bytes ≡ n → le_number bytes ≡ 0 → bytes ≡ replicate n 0
zeros zero [] long none = refl
zeros zero (b ∷ bs) long none = absurd (omega (arith, long))
zeros (suc n) [] long none = absurd (omega (arith, long))
zeros (suc n) (b ∷ bs) long none =
    let first : b ≡ 0 = omega (arith, none) in
    let rest : le_number bs ≡ 0 = omega (arith, none) in
    ap₂ (λ y ys. y ∷ ys) first (zeros n bs (omega (arith, long)) rest)

-- some that do, and those behind them
spelt_together : (k n many : ℕ) (bytes : List ℕ) → many ≡ k + n → le_number (take k bytes) ≡ 0 → le_number (take n (drop k bytes)) ≡ 0 → le_number (take many bytes) ≡ 0
spelt_together zero n many bytes is here behind =
    let same : many ≡ n = omega (arith, is) in
    ap (λ j. le_number (take j bytes)) same ∙ behind
spelt_together (suc k) n zero bytes is here behind = absurd (omega (arith, is))
spelt_together (suc k) n (suc many) [] is here behind = refl
spelt_together (suc k) n (suc many) (b ∷ bs) is here behind =
    let more = spelt_together k n many bs (omega (arith, is)) (omega (arith, here)) behind in
    omega (arith, here, more)

-- words that are all 0 spell 0 together
words_together : (n first : ℕ) (bytes : List ℕ) → ((i : ℕ) → i < n → word_at bytes (first + i) ≡ 0) → le_number (take (8 * n) (drop (8 * first) bytes)) ≡ 0
words_together zero first bytes none = refl
words_together (suc n) first bytes none =
    let at : first ≡ first + 0 = omega arith in
    let next : 8 * first + 8 ≡ 8 * (first + 1) = omega arith in
    let here : word_at bytes first ≡ 0 = ap (word_at bytes) at ∙ none 0 (omega arith) in
    let rest = words_together n (first + 1) bytes (λ i l. let e : first + 1 + i ≡ first + suc i = omega arith in ap (word_at bytes) e ∙ none (suc i) (omega (arith, l))) in
    let behind = ap (λ ys. le_number (take (8 * n) ys)) (drop-drop 8 (8 * first) bytes ∙ ap (λ j. drop j bytes) next) ∙ rest in
    spelt_together 8 (8 * n) (8 * suc n) (drop (8 * first) bytes) (omega arith) here behind

-- a page of such words is zero
page_of_zeros : (tables : List ℕ) (k size : ℕ) → size ≡ 8 * 512 → size * k + size ≤ length tables → ((i : ℕ) → i < 512 → word_at tables (512 * k + i) ≡ 0) → take size (drop (size * k) tables) ≡ replicate size 0
page_of_zeros tables k size is room none =
    let begin : size * k ≡ 8 * (512 * k) = ap (λ n. n * k) is ∙ omega arith in
    let left = length-drop (size * k) tables in
    let long = length-take-le size (drop (size * k) tables) (omega (arith, left, room)) in
    let spells : le_number (take size (drop (size * k) tables)) ≡ 0 = ap₂ (λ n j. le_number (take n (drop j tables))) is begin ∙ words_together 512 (512 * k) tables none in
    zeros size (take size (drop (size * k) tables)) long spells

-- ---- of a subject

module _ (m : Made) (h : IsMade m) (k : ℕ) (s : Subject) (g : Grants) (t : EventTables) (q : SubjectPages) (at : IsAtIndex m k s g t q) where
  abbrev many : ℕ
  many = ept_pages (granted_ranges g.windows)

  -- a page of the span that isn't read is zero
  page_so : (j : ℕ) → j < many → IsReadBy (memory_of (image_of m)) (eptp_of (tables_at m.placed k)) (2 ^ 48 - 1) (tables_at m.placed k / 4096 + j) ⊎ ((i : ℕ) → i < 512 → word_at q.tables (512 * j + i) ≡ 0)
      → IsTablePage (image_of m) (subject_part m.placed (k, (s, (g, t)))) (tables_at m.placed k / 4096 + j) ⊎ (page_of (memory_of (image_of m)) (tables_at m.placed k / 4096 + j) ≡ Some (replicate PAGE 0))
  page_so j l (inl r) = inl (record { addr = r.addr; level = r.level; small = (let low = r.small in omega (arith, low)); reads = r.reads })
  page_so j l (inr none) =
      let long = tables_long m h k s g t q at in
      inr (has_tables m h k s g t q at j (omega (arith, long, l)) ∙ ap Some (page_of_zeros q.tables j PAGE refl (omega (arith, long, l)) none))

  spare_of : HasNoSpareTables (image_of m) (subject_named (policy_of m) s) (subject_part m.placed (k, (s, (g, t))))
  spare_of =
      let one = kernel_span m h k s g t q at 1 (many * PAGE) Ept in
      let number = kernel_first (policy_of m) k + 1 in
      let aligned = whole m h k s g t q at in
      let same = pages_same m.placed g in
      let pages : one.pages ≡ many = omega arith in
      record {
        number = number;
        span = (one, content_at m one);
        there = span_numbered m h number one (kernel_numbered m h k s g t q at 1 (many * PAGE) Ept refl);
        tag = refl;
        root = omega (arith, aligned);
        pages = λ j l.
            page_so j (omega (arith, l, pages))
            (at.pages.tables.rest (memory_of (image_of m)) j (has_tables m h k s g t q at) (omega (arith, l, pages, same)));
      }

pub spare_tables : (m : Made) → IsMade m → ForEachSubject (source_of (policy_of m)) (image_of m) (HasNoSpareTables (image_of m))
spare_tables m h = each_subject m h (HasNoSpareTables (image_of m)) (spare_of m h)
