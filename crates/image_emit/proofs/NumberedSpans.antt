-- What the span of a number is: that of the region of this number, or that of a device's memory.
use Rattle.std.proofs.Common.{◌≡◌, ℕ, ◌+◌, ◌-◌, ◌<◌, ◌≤◌, ◌⊎◌, inl, inr, List, ◌++◌, length, Some, sym, ap, ◌∙◌, arith}
use Rattle.std.specs.Prelude.{slice_get, slice_index}
use Rattle.std.specs.List.{zip}
use Rattle.std.proofs.lemmas.Bool.{cases_lt}
use Rattle.std.proofs.lemmas.Option.{get_or_from_slice_get}
use Rattle.expand_kernel.specs.thing.Region.{Region}
use Rattle.image_emit.specs.Made.{IsMade, Made, policy_of}
use Rattle.image_emit.proofs.AtIndexes.{mapped_there}
use Rattle.image_emit.proofs.ByNumber.{region_spans_length}
use Rattle.image_pack.specs.declared.parts.SpanPart.{SpanPart}
use Rattle.muen_num.proofs.Lists.{get_left, get_right}
use Rattle.muen_num.proofs.Pairs.{zipped_both}
use Rattle.policy_lawful.specs.source.DeviceMemory.{DeviceMemory}
use Rattle.span_emit.specs.Spans.{device_span, device_spans, region_span, region_spans}
use Rattle.policy_lawful.specs.ByIndex.{memories_of}
use Rattle.span_emit.specs.SpansOf.{spans_of}

-- the span of the region of this number
pub record IsRegionAt (m : Made) (n : ℕ) (s : SpanPart) : Type 0 where
  pub within : n < length m.placed.expanded.regions
  pub region : Region
  pub there : slice_get m.placed.expanded.regions n ≡ Some region
  pub is : s ≡ region_span (n, (region, slice_index m.placed.addresses n))

-- the span of a device's memory, whose numbers come behind those of the regions
pub record IsMemoryAt (m : Made) (n : ℕ) (s : SpanPart) : Type 0 where
  pub behind : length m.placed.expanded.regions ≤ n
  pub memory : List ℕ × DeviceMemory
  pub there : slice_get (memories_of (policy_of m).devices) (n - length m.placed.expanded.regions) ≡ Some memory
  pub is : s ≡ device_span (n, memory)

pub span_is : (m : Made) → IsMade m → (n : ℕ) (s : SpanPart) → slice_get (spans_of m.placed) n ≡ Some s → IsRegionAt m n s ⊎ IsMemoryAt m n s
unfolding spans_of
span_is m h n s at =
    let regions = m.placed.expanded.regions in
    let addresses = m.placed.addresses in
    let front = region_spans regions addresses in
    let back = device_spans (length regions) (policy_of m).devices in
    let many = region_spans_length m h in
    elim (cases_lt n (length front)) [
      | inl low ↦
          let found = mapped_there region_span 0 (zip regions addresses) n s (sym (get_left front back n low) ∙ at) in
          let both = zipped_both regions addresses n found.0 found.1 in
          let number : 0 + n ≡ n = omega arith in
          let address : slice_index addresses n ≡ found.0.1 = get_or_from_slice_get addresses n found.0.1 0 both.1 in
          inl (record {
            within = omega (arith, low, many);
            region = found.0.0;
            there = both.0;
            is = sym found.2 ∙ (λ i. region_span (number i, (found.0.0, sym address i)));
          })
      | inr high ↦
          let split : length front + (n - length front) ≡ n = omega (arith, high) in
          let there : slice_get back (n - length front) ≡ Some s = sym (get_right front back (n - length front)) ∙ ap (slice_get (front ++ back)) split ∙ at in
          let found = mapped_there device_span (length regions) (memories_of (policy_of m).devices) (n - length front) s there in
          let number : length regions + (n - length front) ≡ n = omega (arith, many, high) in
          inr (record {
            behind = omega (arith, many, high);
            memory = found.0;
            there = ap (λ k. slice_get (memories_of (policy_of m).devices) (n - k)) (sym many) ∙ found.1;
            is = sym found.2 ∙ ap (λ k. device_span (k, found.0)) number;
          })
    ]
