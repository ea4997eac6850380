-- The pages of the spans that have tables: they rise, memory has them, and an entry lies on one just where it lies in such a span.
use Rattle.std.proofs.Common.{◌≡◌, ℕ, zero, suc, ◌+◌, ◌*◌, ◌/◌, ◌%◌, ◌<◌, ◌≤◌, Bool, true, false, cond, List, [], ◌∷◌, ◌++◌, length, map, Some, refl, sym, ap, ap₂, subst, ◌∙◌, inl, inr, arith, append_assoc, length-append, eq-eqb}
use Rattle.std.specs.Prelude.{◌==◌, ◌&&◌, ◌||◌, nat_le, nat_lt, slice_get, slice_index}
use Rattle.std.specs.List.{All, AllPairs, list_any, sum_by}
use Rattle.std.specs.Cmp.{both_ways}
use Rattle.std.proofs.lemmas.Bool.{and_from, and_parts, cases_lt, le-leb, leb-true, lt-ltb, ltb-true, eqb-true, or_left, or_right}
use Rattle.std.proofs.lemmas.List.{length-map, map-append}
use Rattle.std.proofs.lemmas.List.Elements.{All-head, All-tail}
use Rattle.std.proofs.lemmas.List.Folds.{list_any-append}
use Rattle.std.proofs.lemmas.List.Sums.{sum_by-cons}
use Rattle.std.proofs.Math.Bool.{or-false}
use Rattle.ept_check.specs.Sound.{AreTables}
use Rattle.muen_num.specs.Numbers.{is_among}
use Rattle.image_pack.proofs.PartsKeep.{parts_keep}
use Rattle.image_pack.specs.Codes.{is_device, part_code}
use Rattle.image_pack.specs.Parts.{IsParts}
use Rattle.image_pack.specs.SpanConditions.{IsSpan, end_of, pages_of}
use Rattle.image_pack.specs.declared.parts.Image.{Image}
use Rattle.image_pack.specs.declared.parts.SpanKind.{SpanKind}
use Rattle.image_pack.specs.declared.parts.SpanKind.TheVariants.{Own, Channel, Provided, Kernel, Device}
use Rattle.image_pack.specs.declared.parts.SpanPart.{SpanPart}
use Rattle.image_memory.specs.Memory.{memory_of}
use Rattle.image_soundness.specs.Sound.{is_in_tables, is_kernel, is_tables}
use Rattle.image_verify.proofs.InSpans.{in_span_there}
use Rattle.image_verify.specs.TablePages.{pages_of_all, pages_of_tables}
use Rattle.muen_num.specs.Range.{numbers_below}
use Rattle.muen_num.specs.declared.tag.TagPart.TheVariants.{Ept}
use Rattle.muen_num.proofs.NumbersBelow.{length_numbers}
use Rattle.muen_num.proofs.Lists.{all_at}
use Rattle.phys_mem.specs.Frames.{IsRising}
use Rattle.muen_num.proofs.Indexed.{any_passing}

-- ---- numbers in a row

abbrev row : ℕ → ℕ → List ℕ
row a n = map (λ k. a + k) (numbers_below n)

row_more : (a n : ℕ) → row a (suc n) ≡ row a n ++ (a + n) ∷ []
row_more a n = map-append (λ k. a + k) (numbers_below n) (n ∷ [])

among_more : (a n t : ℕ) → is_among (row a (suc n)) t ≡ is_among (row a n) t || ((a + n == t) || false)
among_more a n t = ap (λ xs. is_among xs t) (row_more a n) ∙ list_any-append (λ m. m == t) (row a n) ((a + n) ∷ [])

row_has : (a n t : ℕ) → a ≤ t → t < a + n → is_among (row a n) t ≡ true
row_has a zero t low high = absurd (omega (arith, low, high))
row_has a (suc n) t low high =
    among_more a n t
    ∙ elim (cases_lt t (a + n)) [
      | inl less ↦ or_left (is_among (row a n) t) ((a + n == t) || false) (row_has a n t low less)
      | inr more ↦ or_right (is_among (row a n) t) ((a + n == t) || false) (or-false (a + n == t) ∙ eq-eqb (a + n) t (omega (arith, more, high)))
    ]

only_more : (b : Bool) (a n t : ℕ) → (b ≡ true → (a ≤ t) × (t < a + n)) → (b || ((a + n == t) || false)) ≡ true → (a ≤ t) × (t < a + suc n)
only_more true a n t before h = let both = before refl in (both.0, omega (arith, both.1))
only_more false a n t before h = let same = eqb-true (a + n) t (sym (or-false (a + n == t)) ∙ h) in (omega (arith, same), omega (arith, same))

row_only : (a n t : ℕ) → is_among (row a n) t ≡ true → (a ≤ t) × (t < a + n)
row_only a zero t h = absurd (cc (h))
row_only a (suc n) t h = only_more (is_among (row a n) t) a n t (row_only a n t) (sym (among_more a n t) ∙ h)

in_row : (a n t : ℕ) → is_among (row a n) t ≡ (nat_le a t && nat_lt t (a + n))
in_row a n t =
    both_ways (is_among (row a n) t) (nat_le a t && nat_lt t (a + n))
    (λ h. let both = row_only a n t h in and_from (nat_le a t) (nat_lt t (a + n)) (le-leb a t both.0) (lt-ltb t (a + n) both.1))
    (λ h. let both = and_parts (nat_le a t) (nat_lt t (a + n)) h in row_has a n t (leb-true a t both.0) (ltb-true t (a + n) both.1))

-- ---- which pages

-- the page is one of the span, which has tables
abbrev pub has_page : ℕ → SpanPart → Bool
has_page t s = is_tables s && (nat_le (s.address / 4096) t && nat_lt t (s.address / 4096 + s.pages))

among_if : (b : Bool) (a n t : ℕ) → is_among (cond b (row a n) []) t ≡ (b && (nat_le a t && nat_lt t (a + n)))
among_if true a n t = in_row a n t
among_if false a n t = refl

pub among_all : (spans : List SpanPart) (t : ℕ) → is_among (pages_of_all spans) t ≡ list_any (has_page t) spans
unfolding pages_of_all
among_all [] t = refl
among_all (s ∷ ss) t =
    list_any-append (λ m. m == t) (pages_of_tables s) (pages_of_all ss)
    ∙ ap₂ (λ a b. a || b) (among_if (is_tables s) (s.address / 4096) s.pages t) (among_all ss t)

-- ---- entries

same_low : (address at : ℕ) → address % 4096 ≡ 0 → nat_le address at ≡ nat_le (address / 4096) (at / 4096)
same_low address at a =
    both_ways (nat_le address at) (nat_le (address / 4096) (at / 4096))
    (λ h. let l = leb-true address at h in le-leb (address / 4096) (at / 4096) (omega (arith, a, l)))
    (λ h. let l = leb-true (address / 4096) (at / 4096) h in le-leb address at (omega (arith, a, l)))

same_high : (address pages at : ℕ) → address % 4096 ≡ 0 → at % 8 ≡ 0 → nat_le (at + 8) (address + 4096 * pages) ≡ nat_lt (at / 4096) (address / 4096 + pages)
same_high address pages at a b =
    both_ways (nat_le (at + 8) (address + 4096 * pages)) (nat_lt (at / 4096) (address / 4096 + pages))
    (λ h. let l = leb-true (at + 8) (address + 4096 * pages) h in lt-ltb (at / 4096) (address / 4096 + pages) (omega (arith, a, l)))
    (λ h. let l = ltb-true (at / 4096) (address / 4096 + pages) h in le-leb (at + 8) (address + 4096 * pages) (omega (arith, a, b, l)))

three : (b x y u w : Bool) → x ≡ u → y ≡ w → ((b && x) && y) ≡ (b && (u && w))
three true x y u w p q = ap₂ (λ c d. c && d) p q
three false x y u w p q = refl

entry_in : (s : SpanPart) (at : ℕ) → s.address % 4096 ≡ 0 → at % 8 ≡ 0 → (is_tables s && nat_le s.address at && nat_le (at + 8) (end_of s)) ≡ has_page (at / 4096) s
entry_in s at a b =
    three (is_tables s) (nat_le s.address at) (nat_le (at + 8) (end_of s)) (nat_le (s.address / 4096) (at / 4096)) (nat_lt (at / 4096) (s.address / 4096 + s.pages))
    (same_low s.address at a) (same_high s.address s.pages at a b)

entries_in : (spans : List SpanPart) (at : ℕ) → All IsSpan spans → at % 8 ≡ 0
    → list_any (λ s. is_tables s && nat_le s.address at && nat_le (at + 8) (end_of s)) spans ≡ list_any (has_page (at / 4096)) spans
entries_in [] at h b = refl
entries_in (s ∷ ss) at h b =
    let here : IsSpan s = All-head IsSpan s ss h in
    ap₂ (λ c d. c || d) (entry_in s at here.aligned b) (entries_in ss at (All-tail IsSpan s ss h) b)

-- **an entry** lies in a span of tables just where its page is one of them
pub entry_among : (i : Image) → IsParts i → (pages : List ℕ) → pages ≡ pages_of_all i.spans → (at : ℕ) → at % 8 ≡ 0 → is_in_tables i at ≡ is_among pages (at / 4096)
entry_among i parts pages is at b =
    entries_in i.spans at (parts_keep i parts).spans.each b
    ∙ sym (among_all i.spans (at / 4096))
    ∙ ap (λ ns. is_among ns (at / 4096)) (sym is)

-- ---- they rise

-- each number is above those before it, and none is below this one
abbrev Rise : ℕ → List ℕ → Type 0
Rise lo [] = Unit {0}
Rise lo (x ∷ xs) = (lo ≤ x) × Rise (suc x) xs

rise_lower : (lo lower : ℕ) (xs : List ℕ) → lower ≤ lo → Rise lo xs → Rise lower xs
rise_lower lo lower [] l h = tt
rise_lower lo lower (x ∷ xs) l h = let here : lo ≤ x = h.0 in (omega (arith, l, here), h.1)

rise_row : (lo a n : ℕ) (rest : List ℕ) → lo ≤ a → Rise (a + n) rest → Rise lo (row a n ++ rest)
rise_row lo a zero rest l h = rise_lower (a + zero) lo rest (omega (arith, l)) h
rise_row lo a (suc n) rest l h =
    let joined : row a n ++ ((a + n) ∷ rest) ≡ row a (suc n) ++ rest = sym (append_assoc (row a n) ((a + n) ∷ []) rest) ∙ ap (λ xs. xs ++ rest) (sym (row_more a n)) in
    let next : a + suc n ≡ suc (a + n) = omega arith in
    subst (Rise lo) joined (rise_row lo a n ((a + n) ∷ rest) l (omega arith, subst (λ m. Rise m rest) next h))

abbrev Behind : ℕ → List SpanPart → Type 0
Behind lo spans = All (λ s. lo ≤ s.address / 4096) spans

rise_if : (b : Bool) (lo a n : ℕ) (rest : List ℕ) → lo ≤ a → Rise (a + n) rest → Rise lo (cond b (row a n) [] ++ rest)
rise_if true lo a n rest l h = rise_row lo a n rest l h
rise_if false lo a n rest l h = rise_lower (a + n) lo rest (omega (arith, l)) h

rise_all : (lo : ℕ) (spans : List SpanPart) → All IsSpan spans → AllPairs (λ a b. end_of a ≤ b.address) spans → Behind lo spans → Rise lo (pages_of_all spans)
unfolding pages_of_all
rise_all lo [] each ascend low = tt
rise_all lo (s ∷ ss) each ascend low =
    let here : IsSpan s = All-head IsSpan s ss each in
    let aligned : s.address % 4096 ≡ 0 = here.aligned in
    rise_if (is_tables s) lo (s.address / 4096) s.pages (pages_of_all ss) (All-head (λ (s : SpanPart). lo ≤ s.address / 4096) s ss low)
    (rise_all (s.address / 4096 + s.pages) ss (All-tail IsSpan s ss each)
    (λ i j d l k. ascend (suc i) (suc j) d (omega (arith, l)) (omega (arith, k)))
    (λ k d l. let next = ascend 0 (suc k) d (omega arith) (omega (arith, l)) in omega (arith, next, aligned)))

low_each : (lo : ℕ) (xs : List ℕ) → Rise lo xs → (j : ℕ) → j < length xs → lo ≤ slice_index xs j
low_each lo [] h j l = absurd (omega (arith, l))
low_each lo (x ∷ xs) h zero l = h.0
low_each lo (x ∷ xs) h (suc j) l =
    let here : lo ≤ x = h.0 in
    let later = low_each (suc x) xs h.1 j (omega (arith, l)) in
    omega (arith, here, later)

rising_from : (lo : ℕ) (xs : List ℕ) → Rise lo xs → IsRising xs
rising_from lo [] h i j a b = absurd (omega (arith, b))
rising_from lo (x ∷ xs) h zero zero a b = absurd (omega (arith, a))
rising_from lo (x ∷ xs) h zero (suc j) a b = low_each (suc x) xs h.1 j (omega (arith, b))
rising_from lo (x ∷ xs) h (suc i) zero a b = absurd (omega (arith, a))
rising_from lo (x ∷ xs) h (suc i) (suc j) a b = rising_from (suc x) xs h.1 i j (omega (arith, a)) (omega (arith, b))

-- ---- how many there are

row_long : (a n : ℕ) → length (row a n) ≡ n
row_long a n = length-map (numbers_below n) (λ k. a + k) ∙ length_numbers n

if_long : (kind : SpanKind) (e : Bool) (a n : ℕ) → length (cond (is_kernel kind && e) (row a n) []) ≤ cond (is_device kind) 0 n
if_long Own e a n = omega arith
if_long Channel e a n = omega arith
if_long Provided e a n = omega arith
if_long Device e a n = omega arith
if_long Kernel true a n = let many = row_long a n in omega (arith, many)
if_long Kernel false a n = omega arith

all_long : (spans : List SpanPart) → length (pages_of_all spans) ≤ sum_by pages_of spans
unfolding pages_of_all
all_long [] = omega arith
all_long (s ∷ ss) =
    let both = length-append (pages_of_tables s) (pages_of_all ss) in
    let here = if_long s.kind (part_code s.tag.part == part_code Ept) (s.address / 4096) s.pages in
    let sum = sum_by-cons pages_of s ss in
    omega (arith, both, here, sum, all_long ss)

-- ---- all

page_below : (address pages t : ℕ) → address % 4096 ≡ 0 → address + 4096 * pages ≤ 1099511627776 → t < address / 4096 + pages → t < 1099511627776
page_below address pages t a b c = omega (arith, a, b, c)

few_pages : (n sum most : ℕ) → n ≤ sum → 4096 * sum ≤ 67108864 → n ≤ 1099511627776
few_pages n sum most a b = omega (arith, a, b)

module _ (i : Image) (parts : IsParts i) (pages : List ℕ) (is : pages ≡ pages_of_all i.spans) where
  -- such a page is one of a span
  pub record OfSpan (t : ℕ) : Type 0 where
    pub index : ℕ
    pub span : SpanPart
    pub here : slice_get i.spans index ≡ Some span
    pub low : span.address / 4096 ≤ t
    pub high : t < span.address / 4096 + span.pages

  pub of_span : (t : ℕ) → is_among pages t ≡ true → OfSpan t
  of_span t h =
      let p = any_passing (has_page t) i.spans (sym (among_all i.spans t) ∙ ap (λ ns. is_among ns t) (sym is) ∙ h) in
      let s = p.one in
      let both = and_parts (is_tables s) _ p.passes in
      let ends = and_parts (nat_le (s.address / 4096) t) (nat_lt t (s.address / 4096 + s.pages)) both.1 in
      record { index = p.index; span = s; here = p.here; low = leb-true _ _ ends.0; high = ltb-true _ _ ends.1 }

  -- **the tables** that are declared
  pub are_tables : AreTables (memory_of i) pages
  are_tables = record {
    rising = subst IsRising (sym is) (rising_from 0 (pages_of_all i.spans) (rise_all 0 i.spans (parts_keep i parts).spans.each (parts_keep i parts).spans.ascend (λ k d l. omega arith)));
    there = λ t h. let o = of_span t h in in_span_there i parts o.index o.span o.here t o.low o.high;
    small = λ t h.
        let o = of_span t h in
        let span = all_at IsSpan i.spans o.index o.span (parts_keep i parts).spans.each o.here in
        page_below o.span.address o.span.pages t span.aligned span.low o.high;
    few =
        let long = all_long i.spans in
        let many : length pages ≡ length (pages_of_all i.spans) = ap length is in
        few_pages (length pages) (sum_by pages_of i.spans) 0 (omega (arith, long, many)) (parts_keep i parts).spans.room.pages;
  }
