-- The spans of regions at their addresses.
use Rattle.std.proofs.Common.{◌≡◌, ℕ, suc, ◌+◌, ◌*◌, ◌/◌, ◌%◌, ◌<◌, ◌≤◌, ◌⊎◌, inl, inr, true, false, All, List, [], ◌∷◌, length, map, Some, refl, ap, ◌∙◌, arith}
use Rattle.std.specs.Prelude.{slice_get, slice_index}
use Rattle.std.specs.List.{AllPairs, enumerate_from, zip}
use Rattle.std.proofs.lemmas.List.{length-map}
use Rattle.std.proofs.lemmas.List.Elements.{All-cons, All-head, All-nil, All-tail}
use Rattle.std.proofs.lemmas.List.FromFn.{length-enumerate_from}
use Rattle.std.proofs.lemmas.List.Kept.{AllPairs-cons}
use Rattle.std.proofs.lemmas.Slice.Zip.{length-zip}
use Rattle.expand_kernel.specs.thing.Region.{Region}
use Rattle.image_pack.specs.Codes.{is_device, is_part, part_code}
use Rattle.image_pack.specs.SpanConditions.{end_of}
use Rattle.image_pack.specs.declared.parts.SpanPart.{SpanPart}
use Rattle.muen_num.specs.declared.limits.TheConstants.{PAGE}
use Rattle.policy_lawful.specs.source.Block.{Block}
use Rattle.region_alloc.proofs.Placing.{IsSized}
use Rattle.region_alloc.specs.Placed.{AreDisjoint, AreInside}
use Rattle.span_emit.specs.Spans.{region_span, region_spans}
use Rattle.span_emit.proofs.KeptRegions.{IsWhole}
use Rattle.span_emit.proofs.PairLaws.{pairs_nil}
use Rattle.policy_lawful.specs.Ranges.{in_a_block}

-- they share no address
abbrev pub AreApart : SpanPart → SpanPart → Type 0
AreApart a b = (end_of a ≤ b.address) ⊎ (end_of b ≤ a.address)

pub record IsRegionSpan (blocks : List Block) (s : SpanPart) : Type 0 where
  pub bytes : is_device s.kind ≡ false
  pub aligned : s.address % PAGE ≡ 0
  pub some : 0 < s.pages
  pub part : is_part s.kind (part_code s.tag.part) ≡ true
  pub inside : in_a_block blocks s.address (PAGE * s.pages) ≡ true

-- ---- each

module _ (blocks : List Block) where
  region_span_is : (k address : ℕ) (r : Region) → IsWhole r → IsSized r → address % PAGE ≡ 0 → in_a_block blocks address r.size ≡ true → IsRegionSpan blocks (region_span (k, (r, address)))
  region_span_is k address r h sized aligned inside =
      let pages = h.pages in
      let some = sized.0 in
      let size : PAGE * (r.size / PAGE) ≡ r.size = omega arith in
      record {
        bytes = h.no_device;
        aligned = aligned;
        some = omega arith;
        part = h.part;
        inside = ap (in_a_block blocks address) size ∙ inside;
      }

  numbered_are : (k : ℕ) (rs : List Region) (ps : List ℕ) → All IsWhole rs → All IsSized rs → All (λ a. a % PAGE ≡ 0) ps → AreInside blocks rs ps
      → All (IsRegionSpan blocks) (map region_span (enumerate_from k (zip rs ps)))
  numbered_are k [] ps h sized aligned inside = All-nil (IsRegionSpan blocks)
  numbered_are k (r ∷ rs) [] h sized aligned inside = absurd inside
  numbered_are k (r ∷ rs) (p ∷ ps) h sized aligned inside =
      All-cons (IsRegionSpan blocks) (region_span (k, (r, p))) (map region_span (enumerate_from (k + 1) (zip rs ps)))
      (region_span_is k p r (All-head IsWhole r rs h) (All-head IsSized r rs sized) (All-head (λ a. a % PAGE ≡ 0) p ps aligned) inside.0)
      (numbered_are (k + 1) rs ps (All-tail IsWhole r rs h) (All-tail IsSized r rs sized) (All-tail (λ a. a % PAGE ≡ 0) p ps aligned) inside.1)

pub region_spans_are : (blocks : List Block) (rs : List Region) (ps : List ℕ) → All IsWhole rs → All IsSized rs → All (λ a. a % PAGE ≡ 0) ps → AreInside blocks rs ps → All (IsRegionSpan blocks) (region_spans rs ps)
region_spans_are blocks rs ps h sized aligned inside = numbered_are blocks 0 rs ps h sized aligned inside

-- ---- pairs

-- what holds of each at its address
each_at : (P : SpanPart → Type 0) (k : ℕ) (rs : List Region) (ps : List ℕ) → ((n i : ℕ) (r : Region) → i < length ps → slice_get rs i ≡ Some r → P (region_span (n, (r, slice_index ps i))))
    → All P (map region_span (enumerate_from k (zip rs ps)))
each_at P k [] ps h = All-nil P
each_at P k (r ∷ rs) [] h = All-nil P
each_at P k (r ∷ rs) (p ∷ ps) h =
    All-cons P (region_span (k, (r, p))) (map region_span (enumerate_from (k + 1) (zip rs ps)))
    (h k 0 r (omega arith) refl)
    (each_at P (k + 1) rs ps (λ n i b l e. h n (suc i) b (omega arith) e))

pub less_pages : (n : ℕ) → PAGE * (n / PAGE) ≤ n
less_pages n = omega arith

-- where regions share no address, no more do their spans
spans_apart : (m n : ℕ) (r b : Region) (p q : ℕ) → (p + r.size ≤ q) ⊎ (q + b.size ≤ p) → AreApart (region_span (m, (r, p))) (region_span (n, (b, q)))
spans_apart m n r b p q (inl before) = let l = less_pages r.size in inl (omega arith)
spans_apart m n r b p q (inr behind) = let l = less_pages b.size in inr (omega arith)

numbered_apart : (k : ℕ) (rs : List Region) (ps : List ℕ) → AreDisjoint rs ps → AllPairs AreApart (map region_span (enumerate_from k (zip rs ps)))
numbered_apart k [] ps h = pairs_nil AreApart
numbered_apart k (r ∷ rs) [] h = pairs_nil AreApart
numbered_apart k (r ∷ rs) (p ∷ ps) h =
    AllPairs-cons AreApart (region_span (k, (r, p))) (map region_span (enumerate_from (k + 1) (zip rs ps)))
    (each_at (AreApart (region_span (k, (r, p)))) (k + 1) rs ps (λ n i b l e. spans_apart k n r b p (slice_index ps i) (h 0 (suc i) r b (omega arith) (omega arith) refl e)))
    (numbered_apart (k + 1) rs ps (λ i j a b l m e f. h (suc i) (suc j) a b (omega arith) (omega arith) e f))

pub region_spans_apart : (rs : List Region) (ps : List ℕ) → AreDisjoint rs ps → AllPairs AreApart (region_spans rs ps)
region_spans_apart rs ps h = numbered_apart 0 rs ps h

pub as_many : (blocks : List Block) (rs : List Region) (ps : List ℕ) → AreInside blocks rs ps → length rs ≡ length ps
as_many blocks [] [] h = refl
as_many blocks [] (p ∷ ps) h = absurd h
as_many blocks (r ∷ rs) [] h = absurd h
as_many blocks (r ∷ rs) (p ∷ ps) h = let rest = as_many blocks rs ps h.1 in omega arith

pub many_spans : (rs : List Region) (ps : List ℕ) → length rs ≡ length ps → length (region_spans rs ps) ≡ length rs
many_spans rs ps same =
    let a = length-map (enumerate_from 0 (zip rs ps)) region_span in
    let b = length-enumerate_from 0 (zip rs ps) in
    let c = length-zip rs ps in
    omega arith
