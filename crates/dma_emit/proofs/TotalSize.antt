-- The regions of a placed policy's memory have no more bytes than its blocks.
use Rattle.std.proofs.Common.{◌≡◌, ℕ, ◌+◌, ◌*◌, ◌/◌, ◌<◌, ◌≤◌, true, All, List, [], ◌∷◌, ◌++◌, length, map, refl, arith}
use Rattle.std.specs.List.{AllPairs, enumerate_from, flat_map, sum_by, zip}
use Rattle.std.specs.List.Sorted.{IsPermutation}
use Rattle.std.proofs.lemmas.List.Elements.{All-weaker}
use Rattle.std.proofs.lemmas.List.Sorted.{All-permutation, sum_by-IsPermutation}
use Rattle.std.proofs.lemmas.List.Sums.{sum_by-append, sum_by-cons}
use Rattle.dma_emit.proofs.Ranges.{ascending, before}
use Rattle.expand_kernel.specs.Ordered.{in_order}
use Rattle.expand_kernel.proofs.Ordered.{in_order_permutes}
use Rattle.expand_kernel.specs.Regions.{kernel_regions_of, region_of, regions_of}
use Rattle.expand_kernel.specs.thing.Region.{Region}
use Rattle.span_emit.specs.parts.SpanPart.{SpanPart}
use Rattle.muen_num.proofs.Lists.{sum_by-map}
use Rattle.muen_num.specs.declared.limits.TheConstants.{MOST_BLOCK_BYTES, PAGE}
use Rattle.policy_lawful.specs.Thing.{Item, channel_item, component_by, placed_items, provided_items, region_item}
use Rattle.policy_lawful.specs.source.Block.{Block}
use Rattle.policy_lawful.specs.source.Device.{Device}
use Rattle.policy_lawful.specs.source.Source.{Source}
use Rattle.span_emit.specs.Spans.{region_span, region_spans}
use Rattle.span_emit.proofs.Placed.{IsPlaced}
use Rattle.span_emit.proofs.RegionSpans.{AreApart, IsRegionSpan, as_many, region_spans_apart, region_spans_are}
use Rattle.span_emit.proofs.Room.{in_blocks}
use Rattle.policy_lawful.specs.Ranges.{in_a_block}

-- ---- spans that are apart

abbrev bytes_of : SpanPart → ℕ
bytes_of s = PAGE * s.pages

few_bytes : (blocks : List Block) (rs : List SpanPart) → All (IsRegionSpan blocks) rs → AllPairs AreApart rs → sum_by bytes_of rs ≤ sum_by (λ b. b.size) blocks
few_bytes blocks rs are apart =
    let ys = in_order (before (λ (s : SpanPart). s.address)) rs in
    let moved : IsPermutation rs ys = in_order_permutes (before (λ (s : SpanPart). s.address)) rs in
    let still = All-permutation (IsRegionSpan blocks) rs ys moved are in
    let up = ascending (λ (s : SpanPart). s.address) bytes_of rs (All-weaker (IsRegionSpan blocks) (λ s. 0 < bytes_of s) (λ s is. let some = is.some in omega arith) rs are) apart in
    let room = in_blocks (λ (s : SpanPart). s.address) bytes_of blocks ys up (All-weaker (IsRegionSpan blocks) (λ s. in_a_block blocks s.address (bytes_of s) ≡ true) (λ s is. is.inside) ys still) in
    let same = sum_by-IsPermutation bytes_of rs ys moved in
    omega arith

-- ---- regions

abbrev pub whole_bytes : Region → ℕ
whole_bytes r = PAGE * (r.size / PAGE)

spans_bytes : (k : ℕ) (rs : List Region) (ps : List ℕ) → length rs ≡ length ps → sum_by bytes_of (map region_span (enumerate_from k (zip rs ps))) ≡ sum_by whole_bytes rs
spans_bytes k [] [] e = refl
spans_bytes k [] (p ∷ ps) e = absurd (omega arith)
spans_bytes k (r ∷ rs) [] e = absurd (omega arith)
spans_bytes k (r ∷ rs) (p ∷ ps) e =
    let rest = spans_bytes (k + 1) rs ps (omega arith) in
    let a = sum_by-cons bytes_of (region_span (k, (r, p))) (map region_span (enumerate_from (k + 1) (zip rs ps))) in
    let b = sum_by-cons whole_bytes r rs in
    omega arith

-- of all regions
pub regions_bytes : (blocks : List Block) (devices : List Device) (rs : List Region) (ps : List ℕ) → IsPlaced blocks devices rs ps → sum_by whole_bytes rs ≤ MOST_BLOCK_BYTES
regions_bytes blocks devices rs ps h =
    let spans = region_spans rs ps in
    let few = few_bytes blocks spans (region_spans_are blocks rs ps h.whole h.sized h.aligned h.inside) (region_spans_apart rs ps h.disjoint) in
    let same = spans_bytes 0 rs ps (as_many blocks rs ps h.inside) in
    let most = h.block_bytes in
    omega arith

-- of those of memory
pub memory_bytes : (p : Source) → sum_by whole_bytes (regions_of p) ≤ MOST_BLOCK_BYTES → sum_by (λ m. PAGE * (m.size / PAGE)) p.memory ≤ MOST_BLOCK_BYTES
unfolding regions_of placed_items
memory_bytes p few =
    let bytes : Item → ℕ = λ i. PAGE * (i.size / PAGE) in
    let own = map region_item p.memory in
    let channels = map channel_item p.channels in
    let all = sum_by-append whole_bytes (map region_of (placed_items p)) (flat_map (kernel_regions_of p) p.subjects) in
    let placed = sum_by-map whole_bytes region_of (placed_items p) in
    let two = sum_by-append bytes (own ++ channels) (flat_map (λ s. provided_items s.name (component_by p s.component)) p.subjects) in
    let one = sum_by-append bytes own channels in
    omega (arith, few, all, placed, two, one, sum_by-map bytes region_item p.memory)
