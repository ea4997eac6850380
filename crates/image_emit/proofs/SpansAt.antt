-- The spans of the image that is made, by the numbers of regions.
use Rattle.std.proofs.Common.{◌≡◌, ◌∙◌, sym, ap, arith, ℕ, Bool, true, length, get_or, Some}
use Rattle.std.specs.Prelude.{option_map, slice_get, slice_index}
use Rattle.std.specs.List.{enumerate_from, list_any, zip}
use Rattle.std.proofs.lemmas.Option.{slice_get-get_or, slice_get-map, slice_get_within}
use Rattle.std.proofs.lemmas.List.Sorted.{list_any-IsPermutation}
use Rattle.std.proofs.lemmas.Map.Keys.{any_passes_from_place}
use Rattle.expand_kernel.specs.thing.Region.{Region}
use Rattle.image_emit.proofs.ByNumber.{as_many_addresses, region_spans_length}
use Rattle.image_emit.specs.Made.{IsMade, Made, policy_of}
use Rattle.image_pack.specs.declared.parts.SpanPart.{SpanPart}
use Rattle.muen_num.proofs.Lists.{get_left, numbered_at}
use Rattle.muen_num.proofs.Pairs.{zipped_at}
use Rattle.span_emit.specs.Spans.{device_spans, region_span, region_spans}
use Rattle.span_emit.specs.SpansOf.{spans_of}

-- the span of the region of a number
pub region_at : (m : Made) → IsMade m → (n : ℕ) (y : Region) → slice_get m.placed.expanded.regions n ≡ Some y → slice_get (spans_of m.placed) n ≡ Some (region_span (n, (y, slice_index m.placed.addresses n)))
unfolding spans_of
region_at m h n y at =
    let regions = m.placed.expanded.regions in
    let addresses = m.placed.addresses in
    let within = slice_get_within regions n y at in
    let many = as_many_addresses m h in
    let address : slice_get addresses n ≡ Some (get_or addresses n 0) = slice_get-get_or addresses n 0 (omega (arith, within, many)) in
    let front = region_spans_length m h in
    get_left (region_spans regions addresses) (device_spans (length regions) (policy_of m).devices) n (omega (arith, within, front))
    ∙ slice_get-map region_span (enumerate_from 0 (zip regions addresses)) n
    ∙ ap (option_map region_span) (numbered_at 0 (zip regions addresses) n (y, get_or addresses n 0) (zipped_at regions addresses n y (get_or addresses n 0) at address))
    ∙ ap (λ k. Some (region_span (k, (y, get_or addresses n 0)))) (omega arith)

-- a test that the span of a number passes, some span of the image passes
pub some_span : (m : Made) → IsMade m → (test : SpanPart → Bool) (n : ℕ) (s : SpanPart) → slice_get (spans_of m.placed) n ≡ Some s → test s ≡ true → list_any test m.spans ≡ true
some_span m h test n s at passes = sym (list_any-IsPermutation test (spans_of m.placed) m.spans h.numbered) ∙ any_passes_from_place test (spans_of m.placed) n s at passes
