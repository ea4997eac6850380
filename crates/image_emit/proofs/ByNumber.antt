-- Look-ups by number in the image that is made.
use Rattle.std.proofs.Common.{◌≡◌, ◌≢◌, ◌∙◌, refl, sym, ap, subst, arith, ℕ, zero, suc, ◌+◌, ◌-◌, ◌<◌, ◌==◌, inl, inr, true, List, [], ◌∷◌, ◌++◌, length, map, get_or, eq-eqb, ne_eqb, Some}
use Rattle.std.specs.Prelude.{option_map, slice_get}
use Rattle.std.specs.List.{AllPairs, Contains, enumerate_from, filter_map, find, zip}
use Rattle.std.proofs.lemmas.List.Sorted.{Contains-permutation, length_permutation}
use Rattle.std.proofs.lemmas.Option.{get_or_from_slice_get, slice_get_within}
use Rattle.std.proofs.lemmas.Bool.{cases_lt}
use Rattle.std.proofs.lemmas.Slice.Zip.{AllZip-long}
use Rattle.std.proofs.lemmas.List.{length-map}
use Rattle.std.proofs.lemmas.List.FromFn.{length-enumerate_from}
use Rattle.image_emit.proofs.AtIndexes.{looked_up, mapped_there, none_missing}
use Rattle.image_emit.specs.Made.{IsMade, Made, content_at, image_of, policy_of}
use Rattle.image_soundness.specs.Memory.{Span, by_number, span_at}
use Rattle.image_pack.specs.declared.parts.SpanPart.{SpanPart}
use Rattle.muen_num.proofs.Lists.{find-map, get_left, get_right}
use Rattle.muen_num.specs.Range.{numbers_below}
use Rattle.span_emit.specs.Spans.{device_span, device_spans, region_span, region_spans}
use Rattle.policy_lawful.specs.ByIndex.{memories_of}
use Rattle.span_emit.specs.SpansOf.{spans_of}
use Rattle.policy_lawful.specs.Ranges.{in_a_block}

-- ---- lists in which no two have one number

found : {X : Type 0} (number : X → ℕ) (ys : List X) (x : X) (k : ℕ) → AllPairs (λ a b. number a ≢ number b) ys → k < length ys → get_or ys k x ≡ x → find (λ y. number y == number x) ys ≡ Some x
found number [] x k differ l e = absurd (omega (arith, l))
found number (y ∷ ys) x zero differ l e = rw (eq-eqb (number y) (number x) (ap number e)) (ap Some e)
found number (y ∷ ys) x (suc k) differ l e =
    rw (ne_eqb (number y) (number x) (λ same. differ 0 (suc k) x (omega arith) l (same ∙ ap number (sym e))))
    (found number ys x k (λ i j d a b. differ (suc i) (suc j) d (omega (arith, a)) (omega (arith, b))) (omega (arith, l)) e)

pub zip_self : {X Y : Type 0} (f : X → Y) (xs : List X) → zip xs (map f xs) ≡ map (λ x. (x, f x)) xs
zip_self f [] = refl
zip_self f (x ∷ xs) = ap (λ r. (x, f x) ∷ r) (zip_self f xs)

-- ---- the spans by number

pub zip_length : {A B : Type 0} (xs : List A) (ys : List B) → length ys ≡ length xs → length (zip xs ys) ≡ length xs
zip_length [] ys h = refl
zip_length (x ∷ xs) [] h = absurd (omega (arith, h))
zip_length (x ∷ xs) (y ∷ ys) h = ap suc (zip_length xs ys (omega (arith, h)))

-- as many addresses as regions
pub as_many_addresses : (m : Made) → IsMade m → length m.placed.addresses ≡ length m.placed.expanded.regions
as_many_addresses m h = AllZip-long (λ r address. in_a_block (policy_of m).memory_blocks address r.size ≡ true) m.placed.expanded.regions m.placed.addresses h.inside

pub region_spans_length : (m : Made) → IsMade m → length (region_spans m.placed.expanded.regions m.placed.addresses) ≡ length m.placed.expanded.regions
region_spans_length m h =
    let regions = m.placed.expanded.regions in
    let addresses = m.placed.addresses in
    length-map (enumerate_from 0 (zip regions addresses)) region_span ∙ length-enumerate_from 0 (zip regions addresses) ∙ zip_length regions addresses (as_many_addresses m h)

-- the spans are in the order of their numbers
number_is : (m : Made) → IsMade m → (n : ℕ) (s : SpanPart) → slice_get (spans_of m.placed) n ≡ Some s → s.number ≡ n
unfolding spans_of
number_is m h n s at =
    let regions = m.placed.expanded.regions in
    let addresses = m.placed.addresses in
    let front = region_spans regions addresses in
    let back = device_spans (length regions) (policy_of m).devices in
    let many = region_spans_length m h in
    elim (cases_lt n (length front)) [
      | inl low ↦
          let found = mapped_there region_span 0 (zip regions addresses) n s (sym (get_left front back n low) ∙ at) in
          ap (λ (p : SpanPart). p.number) (sym found.2) ∙ omega arith
      | inr high ↦
          let split : length front + (n - length front) ≡ n = omega (arith, high) in
          let there : slice_get back (n - length front) ≡ Some s = sym (get_right front back (n - length front)) ∙ ap (slice_get (front ++ back)) split ∙ at in
          let found = mapped_there device_span (length regions) (memories_of (policy_of m).devices) (n - length front) s there in
          ap (λ (p : SpanPart). p.number) (sym found.2) ∙ omega (arith, many, high)
    ]

-- what is looked up by number is the span of this number
pub span_found : (m : Made) → IsMade m → (n : ℕ) (s : SpanPart) → slice_get (spans_of m.placed) n ≡ Some s → find (λ (y : SpanPart). y.number == n) m.spans ≡ Some s
span_found m h n s at =
    let is = number_is m h n s at in
    let all : Contains (spans_of m.placed) s = (n, slice_get_within (spans_of m.placed) n s at, get_or_from_slice_get (spans_of m.placed) n s s at) in
    let among : Contains m.spans s = Contains-permutation (spans_of m.placed) m.spans s h.numbered all in
    let first : find (λ (y : SpanPart). y.number == s.number) m.spans ≡ Some s = found (λ (y : SpanPart). y.number) m.spans s among.0 h.spans.differ among.1 among.2 in
    subst (λ k. find (λ (y : SpanPart). y.number == k) m.spans ≡ Some s) is first

-- and with what it has in the image
pub span_numbered : (m : Made) → IsMade m → (n : ℕ) (s : SpanPart) → slice_get (spans_of m.placed) n ≡ Some s → span_at (image_of m) n ≡ Some (s, content_at m s)
unfolding image_of
span_numbered m h n s at =
    ap (find (λ (e : SpanPart × List ℕ). e.0.number == n)) (zip_self (content_at m) m.spans)
    ∙ find-map (λ (e : SpanPart × List ℕ). e.0.number == n) (λ (x : SpanPart). (x, content_at m x)) m.spans
    ∙ ap (option_map (λ (x : SpanPart). (x, content_at m x))) (span_found m h n s at)

-- ---- all spans by number

pub by_number_is : (m : Made) → IsMade m → by_number (image_of m) ≡ map (λ s. (s, content_at m s)) (spans_of m.placed)
unfolding by_number image_of
by_number_is m h =
    let spans = spans_of m.placed in
    let held : SpanPart → Span = λ s. (s, content_at m s) in
    let many : length m.spans ≡ length spans = length_permutation spans m.spans h.numbered in
    ap (λ n. filter_map (span_at (image_of m)) (numbers_below n)) many
    ∙ none_missing (span_at (image_of m)) held (numbers_below (length spans)) spans (looked_up (span_at (image_of m)) (λ s. Some (held s)) spans (span_numbered m h))
