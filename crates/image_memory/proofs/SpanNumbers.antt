-- Spans of an image by their numbers, and those that have a part of a subject.
use Rattle.std.proofs.Common.{◌≡◌, ℕ, ◌+◌, ◌*◌, ◌/◌, ◌<◌, ◌≤◌, Bool, true, false, cond, List, [], ◌∷◌, length, Some, refl, sym, ap, subst, ◌∙◌, inl, inr, arith}
use Rattle.std.specs.Prelude.{◌==◌, ◌&&◌, nat_le, option_map, slice_get}
use Rattle.std.specs.List.{find, zip}
use Rattle.std.specs.Option.{option_map_or}
use Rattle.std.proofs.lemmas.Bool.{and_parts, cases_lt, eq-eqb, eqb-true, leb-true}
use Rattle.image_memory.specs.Memory.{page_of_span, span_at}
use Rattle.image_pack.specs.Codes.{part_code}
use Rattle.image_pack.specs.Image.{is_kernel_span}
use Rattle.image_pack.specs.SpanConditions.{AreSpans}
use Rattle.image_pack.specs.declared.parts.Image.{Image}
use Rattle.image_pack.specs.declared.parts.SpanPart.{SpanPart}
use Rattle.muen_num.proofs.Indexed.{any_passing, found_only, pairs_at}

-- ---- spans by number

-- what is found in a list is found in it beside another as long
found_beside : {X Y : Type 0} (test : X → Bool) (xs : List X) (ys : List Y) → length ys ≡ length xs → option_map (λ (e : X × Y). e.0) (find (λ e. test e.0) (zip xs ys)) ≡ find test xs
found_beside test [] [] many = refl
found_beside test [] (y ∷ ys) many = absurd (omega (arith, many))
found_beside test (x ∷ xs) [] many = absurd (omega (arith, many))
found_beside {X} {Y} test (x ∷ xs) (y ∷ ys) many =
    elim (test x) as (λ b. option_map (λ (e : X × Y). e.0) (cond b (Some (x, y)) (find (λ e. test e.0) (zip xs ys))) ≡ cond b (Some x) (find test xs)) [
      | true ↦ refl
      | false ↦ found_beside test xs ys (omega (arith, many))
    ]

-- a span is found by its number alike with its bytes and without
pub span_alone : (i : Image) → length i.contents ≡ length i.spans → (n : ℕ) → option_map (λ e. e.0) (span_at i n) ≡ find (λ s. s.number == n) i.spans
span_alone i many n = found_beside (λ (s : SpanPart). s.number == n) i.spans i.contents many

pub number_once : (xs : List SpanPart) → AreSpans xs → (a b : ℕ) (s t : SpanPart) → slice_get xs a ≡ Some s → slice_get xs b ≡ Some t → s.number ≡ t.number → a ≡ b
number_once xs h a b s t at to e =
    elim (cases_lt a b) [
      | inl less ↦ absurd (pairs_at (λ u v. u.number ≡ v.number → ⊥) xs a b s t h.differ less at to e)
      | inr more ↦ elim (cases_lt b a) [
        | inl less ↦ absurd (pairs_at (λ u v. u.number ≡ v.number → ⊥) xs b a t s h.differ less to at (sym e))
        | inr even ↦ omega (arith, more, even)
      ]
    ]

-- a span is what is found by its number
pub number_found : (xs : List SpanPart) → AreSpans xs → (a : ℕ) (s : SpanPart) → slice_get xs a ≡ Some s → find (λ e. e.number == s.number) xs ≡ Some s
number_found xs h a s at =
    found_only (λ e. e.number == s.number) xs a s at (eq-eqb s.number s.number refl) (λ m y here passes. number_once xs h m a y s here at (eqb-true y.number s.number passes))

pub found_by : (xs : List SpanPart) → AreSpans xs → (a n : ℕ) (s : SpanPart) → slice_get xs a ≡ Some s → s.number ≡ n → find (λ e. e.number == n) xs ≡ Some s
found_by xs h a n s at e = subst (λ k. find (λ u. u.number == k) xs ≡ Some s) e (number_found xs h a s at)

-- its first page
pub first_page_of : (xs : List SpanPart) (n : ℕ) (s : SpanPart) → find (λ e. e.number == n) xs ≡ Some s → page_of_span xs n ≡ s.address / 4096
first_page_of xs n s e = ap (λ o. option_map_or (λ (u : SpanPart). u.address / 4096) o 0) e

-- ---- spans of the kernel

-- a span that has a part of a subject, with its number and so many pages
pub record KernelSpan (xs : List SpanPart) (code pages n : ℕ) : Type 0 where
  pub index : ℕ
  pub span : SpanPart
  pub here : slice_get xs index ≡ Some span
  pub number : span.number ≡ n
  pub part : part_code span.tag.part ≡ code
  pub pages_there : pages ≤ span.pages
  pub found : find (λ e. e.number == n) xs ≡ Some span
  pub first : page_of_span xs n ≡ span.address / 4096

pub kernel_span : (xs : List SpanPart) (code pages n : ℕ) → AreSpans xs → is_kernel_span xs code pages n ≡ true → KernelSpan xs code pages n
unfolding is_kernel_span
kernel_span xs code pages n h e =
    let p = any_passing (λ s. (s.number == n) && (part_code s.tag.part == code) && nat_le pages s.pages) xs e in
    let outer = and_parts ((p.one.number == n) && (part_code p.one.tag.part == code)) (nat_le pages p.one.pages) p.passes in
    let inner = and_parts (p.one.number == n) (part_code p.one.tag.part == code) outer.0 in
    let found = found_by xs h p.index n p.one p.here (eqb-true p.one.number n inner.0) in
    record {
      index = p.index;
      span = p.one;
      here = p.here;
      number = eqb-true p.one.number n inner.0;
      part = eqb-true (part_code p.one.tag.part) code inner.1;
      pages_there = leb-true pages p.one.pages outer.1;
      found = found;
      first = first_page_of xs n p.one found;
    }
