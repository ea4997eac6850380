-- Spans of an image by the pages that they have.
use Rattle.std.proofs.Common.{◌≡◌, ℕ, ◌+◌, ◌*◌, ◌/◌, ◌%◌, ◌<◌, ◌≤◌, true, false, List, Some, refl, sym, ap, ◌∙◌, inl, inr, arith}
use Rattle.std.specs.Prelude.{◌==◌, ◌&&◌, nat_le, nat_lt, slice_get}
use Rattle.std.specs.List.{list_any}
use Rattle.std.proofs.lemmas.Bool.{and_from, and_parts, cases_lt, eqb-true, le-leb, leb-true, lt-ltb, ltb-true, true≢false}
use Rattle.std.proofs.lemmas.Map.Keys.{any_passes_from_place}
use Rattle.image_memory.proofs.SpanNumbers.{KernelSpan}
use Rattle.image_soundness.specs.Sound.{is_kernel}
use Rattle.image_pack.specs.Codes.{is_part, part_code}
use Rattle.image_pack.specs.SpanConditions.{AreSpans, IsSpan, end_of}
use Rattle.image_pack.specs.declared.parts.SpanKind.{SpanKind}
use Rattle.image_pack.specs.declared.parts.SpanKind.TheVariants.{Own, Channel, Provided, Kernel, Device}
use Rattle.image_pack.specs.declared.parts.SpanPart.{SpanPart}
use Rattle.proof_start.specs.GroundOf.{is_kept, is_page_of}
use Rattle.muen_num.proofs.Indexed.{none_passing, pairs_at}
use Rattle.muen_num.proofs.Options.{one_value}
use Rattle.muen_num.proofs.Lists.{all_at}

-- ---- pages of a span

-- page k is one of the span
pub record HasPage (k : ℕ) (s : SpanPart) : Type 0 where
  pub low : s.address / 4096 ≤ k
  pub high : k < s.address / 4096 + s.pages

pub has_page : (k : ℕ) (s : SpanPart) → is_page_of k s ≡ true → HasPage k s
has_page k s h =
    let b = and_parts (nat_le (s.address / 4096) k) (nat_lt k (s.address / 4096 + s.pages)) h in
    record { low = leb-true _ _ b.0; high = ltb-true _ _ b.1 }

pub is_page : (k : ℕ) (s : SpanPart) → HasPage k s → is_page_of k s ≡ true
is_page k s h = and_from (nat_le (s.address / 4096) k) (nat_lt k (s.address / 4096 + s.pages)) (le-leb _ _ h.low) (lt-ltb _ _ h.high)

-- page j of a span
pub page_in : (s : SpanPart) (j : ℕ) → j < s.pages → HasPage (s.address / 4096 + j) s
page_in s j h = record { low = omega arith; high = omega (arith, h) }

pub first_page_in : (s : SpanPart) → 0 < s.pages → HasPage (s.address / 4096) s
first_page_in s h = record { low = omega arith; high = omega (arith, h) }

clash : (p n q k : ℕ) → p % 4096 ≡ 0 → p + 4096 * n ≤ q → k < p / 4096 + n → q / 4096 ≤ k → ⊥
clash p n q k a b c d = omega (arith, a, b, c, d)

ends_before : (xs : List SpanPart) → AreSpans xs → (a b : ℕ) (s t : SpanPart) (k : ℕ) → slice_get xs a ≡ Some s → slice_get xs b ≡ Some t → HasPage k s → HasPage k t → a < b → ⊥
ends_before xs h a b s t k at to p q less =
    let first = all_at IsSpan xs a s h.each at in
    clash s.address s.pages t.address k first.aligned (pairs_at (λ u v. end_of u ≤ v.address) xs a b s t h.ascend less at to) p.high q.low

-- no two spans have a page in common
pub page_once : (xs : List SpanPart) → AreSpans xs → (a b : ℕ) (s t : SpanPart) (k : ℕ) → slice_get xs a ≡ Some s → slice_get xs b ≡ Some t → HasPage k s → HasPage k t → a ≡ b
page_once xs h a b s t k at to p q =
    elim (cases_lt a b) [
      | inl less ↦ absurd (ends_before xs h a b s t k at to p q less)
      | inr more ↦ elim (cases_lt b a) [
        | inl less ↦ absurd (ends_before xs h b a t s k to at q p less)
        | inr even ↦ omega (arith, more, even)
      ]
    ]

pub same_span : (xs : List SpanPart) → AreSpans xs → (a b : ℕ) (s t : SpanPart) (k : ℕ) → slice_get xs a ≡ Some s → slice_get xs b ≡ Some t → HasPage k s → HasPage k t → s ≡ t
same_span xs h a b s t k at to p q =
    one_value (slice_get xs b) s t (ap (slice_get xs) (sym (page_once xs h a b s t k at to p q)) ∙ at) to

-- ---- spans of the kernel

-- what such a part is, is the kernel's
pub kind_by_part : (kind : SpanKind) (code : ℕ) → is_part kind code ≡ true → 2 ≤ code → is_kernel kind ≡ true
kind_by_part Own code h low = absurd (let e = eqb-true code 0 h in omega (arith, e, low))
kind_by_part Channel code h low = absurd (let e = eqb-true code 0 h in omega (arith, e, low))
kind_by_part Provided code h low = absurd (let e = eqb-true code 1 h in omega (arith, e, low))
kind_by_part Kernel code h low = refl
kind_by_part Device code h low = absurd (let e = eqb-true code 1 h in omega (arith, e, low))

pub kernel_kind : (xs : List SpanPart) (code pages n : ℕ) → AreSpans xs → (k : KernelSpan xs code pages n) → 2 ≤ code → is_kernel k.span.kind ≡ true
kernel_kind xs code pages n h k low =
    let each = all_at IsSpan xs k.index k.span h.each k.here in
    let part = k.part in
    kind_by_part k.span.kind (part_code k.span.tag.part) each.part (omega (arith, part, low))

-- ---- pages of tables and bitmaps

pub page_kept : (xs : List SpanPart) (a : ℕ) (s : SpanPart) (k : ℕ) → slice_get xs a ≡ Some s → is_kept s ≡ true → HasPage k s → list_any (λ t. is_kept t && is_page_of k t) xs ≡ true
page_kept xs a s k at kept page = any_passes_from_place (λ t. is_kept t && is_page_of k t) xs a s at (and_from (is_kept s) (is_page_of k s) kept (is_page k s page))

pub page_not_kept : (xs : List SpanPart) → AreSpans xs → (a : ℕ) (s : SpanPart) (k : ℕ) → slice_get xs a ≡ Some s → is_kept s ≡ false → HasPage k s → list_any (λ t. is_kept t && is_page_of k t) xs ≡ false
page_not_kept xs h a s k at kept page =
    none_passing (λ t. is_kept t && is_page_of k t) xs (λ n t here passes.
    let both = and_parts (is_kept t) (is_page_of k t) passes in
    true≢false (sym both.0 ∙ (ap is_kept (same_span xs h n a t s k here at (has_page k t both.1) page) ∙ kept)))
