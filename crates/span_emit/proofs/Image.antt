-- The spans of a placed policy, by their addresses, are those of an image.
use Rattle.std.proofs.Common.{◌≡◌, ℕ, ◌+◌, ◌*◌, ◌%◌, ◌<◌, ◌≤◌, inl, inr, Bool, true, false, All, List, ◌++◌, length, ap, ◌∙◌, subst, arith, length-append}
use Rattle.std.specs.Prelude.{◌||◌, ◌==◌, ◌≢◌, nat_le, not}
use Rattle.std.specs.List.{AllPairs, enumerate_from, sum_by, zip}
use Rattle.std.specs.List.Sorted.{IsNonDecreasingBy, IsPermutation}
use Rattle.std.proofs.lemmas.Bool.{eq-eqb, le-leb, leb-true, not-false, or_cases}
use Rattle.std.proofs.lemmas.List.{length-map}
use Rattle.std.proofs.lemmas.List.Elements.{All-append, All-weaker}
use Rattle.std.proofs.lemmas.List.FromFn.{length-enumerate_from}
use Rattle.std.proofs.lemmas.List.Sorted.{All-permutation, length_permutation, sum_by-IsPermutation}
use Rattle.std.proofs.lemmas.List.Sums.{sum_by-append}
use Rattle.std.proofs.Math.Bool.{or_comm}
use Rattle.expand_kernel.specs.thing.Region.{Region}
use Rattle.image_pack.specs.Codes.{is_device, is_part, part_code}
use Rattle.image_pack.specs.SpanConditions.{AreSpans, Ascend, HaveDifferentNumbers, HaveRoom, device_pages_of, end_of}
use Rattle.image_pack.specs.declared.parts.SpanPart.{SpanPart}
use Rattle.muen_num.proofs.Numbers.{equal_turned}
use Rattle.muen_num.specs.declared.limits.TheConstants.{PAGE, PHYSICAL_END}
use Rattle.policy_lawful.specs.source.Block.{Block}
use Rattle.policy_lawful.specs.source.Device.{Device}
use Rattle.region_alloc.proofs.Lowest.{block_end, ends_well}
use Rattle.span_emit.specs.ByAddress.{AreSpansByAddress, HasNames}
use Rattle.span_emit.specs.Spans.{device_span, device_spans, region_spans}
use Rattle.policy_lawful.specs.ByIndex.{memories_of}
use Rattle.span_emit.proofs.DeviceSpans.{IsDeviceSpan, beside_regions, device_pages_are, device_spans_apart, device_spans_are}
use Rattle.span_emit.proofs.Numbers.{Numbered, devices_numbered, numbered_append, numbered_between, numbered_differ, regions_numbered}
use Rattle.span_emit.proofs.Pages.{no_device_pages, pages_within}
use Rattle.span_emit.proofs.PairLaws.{ascend, pairs_append, pairs_permuted, pairs_weaker}
use Rattle.span_emit.proofs.Placed.{IsPlaced}
use Rattle.span_emit.proofs.RegionSpans.{AreApart, IsRegionSpan, as_many, many_spans, region_spans_apart, region_spans_are}
use Rattle.policy_lawful.specs.Ranges.{in_a_block}

-- ---- tests that tell two spans apart

abbrev clash : SpanPart → SpanPart → Bool
clash a b = not (nat_le (end_of a) b.address || nat_le (end_of b) a.address)

no_clash : (a b : SpanPart) → AreApart a b → clash a b ≡ false
no_clash a b (inl before) = ap (λ t. not (t || nat_le (end_of b) a.address)) (le-leb (end_of a) b.address before)
no_clash a b (inr behind) =
    ap (λ t. not (nat_le (end_of a) b.address || t)) (le-leb (end_of b) a.address behind)
    ∙ ap not (or_comm (nat_le (end_of a) b.address) true)

apart_from : (a b : SpanPart) → clash a b ≡ false → AreApart a b
apart_from a b h = elim (or_cases (nat_le (end_of a) b.address) (nat_le (end_of b) a.address) (not-false _ h)) [
  | inl before ↦ inl (leb-true _ _ before)
  | inr behind ↦ inr (leb-true _ _ behind)
]

-- ---- each span

-- what an image asks of a span but for its names
record IsBody (s : SpanPart) : Type 0 where
  aligned : s.address % PAGE ≡ 0
  some : 0 < s.pages
  low : end_of s ≤ PHYSICAL_END
  part : is_part s.kind (part_code s.tag.part) ≡ true

region_body : (blocks : List Block) → All ends_well blocks → (s : SpanPart) → IsRegionSpan blocks s → IsBody s
region_body blocks ends s h =
    let end = block_end blocks s.address (PAGE * s.pages) ends h.inside in
    record { aligned = h.aligned; some = h.some; low = omega arith; part = h.part }

device_body : (s : SpanPart) → IsDeviceSpan s → IsBody s
device_body s h = record { aligned = h.aligned; some = h.some; low = h.low; part = h.part }

-- ---- all

module _ (blocks : List Block) (devices : List Device) (regions : List Region) (addresses : List ℕ) (h : IsPlaced blocks devices regions addresses) where
  abbrev rs : List SpanPart
  rs = region_spans regions addresses

  abbrev ds : List SpanPart
  ds = device_spans (length regions) devices

  are_regions : All (IsRegionSpan blocks) rs
  are_regions = region_spans_are blocks regions addresses h.whole h.sized h.aligned h.inside

  are_devices : All IsDeviceSpan ds
  are_devices = device_spans_are (length regions) (memories_of devices) h.physical

  bodies : All IsBody (rs ++ ds)
  bodies = All-append IsBody rs ds (All-weaker (IsRegionSpan blocks) IsBody (region_body blocks h.ends) rs are_regions) (All-weaker IsDeviceSpan IsBody device_body ds are_devices)

  apart : AllPairs AreApart (rs ++ ds)
  apart =
      pairs_append AreApart rs ds (region_spans_apart regions addresses h.disjoint) (device_spans_apart (length regions) (memories_of devices) h.apart.pairs)
      (beside_regions blocks rs (length regions) (memories_of devices) are_regions h.apart.outside)

  many_regions : length rs ≡ length regions
  many_regions = many_spans regions addresses (as_many blocks regions addresses h.inside)

  many_devices : length ds ≡ length (memories_of devices)
  many_devices = length-map (enumerate_from (length regions) (memories_of devices)) device_span ∙ length-enumerate_from (length regions) (memories_of devices)

  numbered : Numbered 0 (rs ++ ds)
  numbered =
      let first : length regions ≡ 0 + length rs = omega (arith, many_regions) in
      numbered_append 0 rs ds (regions_numbered 0 (zip regions addresses))
      (subst (λ n. Numbered n ds) first (devices_numbered (length regions) (memories_of devices)))

  inside : All (λ s. is_device s.kind ≡ false → in_a_block blocks s.address (PAGE * s.pages) ≡ true) (rs ++ ds)
  inside =
      All-append (λ s. is_device s.kind ≡ false → in_a_block blocks s.address (PAGE * s.pages) ≡ true) rs ds
      (λ k d l e. (are_regions k d l).inside)
      (λ k d l e. let device = (are_devices k d l).bytes in absurd (cc))

  device_room : PAGE * sum_by device_pages_of (rs ++ ds) ≡ sum_by (λ x. x.1.size) (memories_of devices)
  device_room =
      let none = no_device_pages rs (All-weaker (IsRegionSpan blocks) (λ s. is_device s.kind ≡ false) (λ s is. is.bytes) rs are_regions) in
      let some = device_pages_are (length regions) (memories_of devices) h.physical in
      let both = sum_by-append device_pages_of rs ds in
      omega arith

  -- in any order
  module _ (ys : List SpanPart) (p : IsPermutation (rs ++ ds) ys) where
    all_length : length ys ≡ length regions + length (memories_of devices)
    all_length =
        let a = length_permutation (rs ++ ds) ys p in
        let b = length-append rs ds in
        let c = many_regions in
        let d = many_devices in
        omega arith

    all_bodies : All IsBody ys
    all_bodies = All-permutation IsBody (rs ++ ds) ys p bodies

    all_apart : AllPairs AreApart ys
    all_apart =
        pairs_weaker (λ a b. clash a b ≡ false) AreApart apart_from ys
        (pairs_permuted clash (λ a b. ap not (or_comm (nat_le (end_of a) b.address) (nat_le (end_of b) a.address))) (rs ++ ds) ys p
        (pairs_weaker AreApart (λ a b. clash a b ≡ false) no_clash (rs ++ ds) apart))

    below : All (λ s. s.number < length ys) ys
    below =
        let a = length_permutation (rs ++ ds) ys p in
        All-permutation (λ s. s.number < length ys) (rs ++ ds) ys p
        (All-weaker (λ s. (0 ≤ s.number) × (s.number < 0 + length (rs ++ ds))) (λ s. s.number < length ys) (λ s both. let l = both.1 in omega arith) (rs ++ ds)
        (numbered_between 0 (rs ++ ds) numbered))

    differ : HaveDifferentNumbers ys
    differ =
        pairs_weaker (λ a b. (a.number == b.number) ≡ false) (λ a b. a.number ≢ b.number)
        (λ a b no e. let yes = eq-eqb a.number b.number e in absurd (cc)) ys
        (pairs_permuted (λ a b. a.number == b.number) (λ a b. equal_turned a.number b.number) (rs ++ ds) ys p (numbered_differ 0 (rs ++ ds) numbered))

    -- by address
    module _ (up : IsNonDecreasingBy (λ s. s.address) ys) where
      ascending : Ascend ys
      ascending =
          ascend (λ s. s.address) (λ s. PAGE * s.pages) ys up
          (All-weaker IsBody (λ s. 0 < PAGE * s.pages) (λ s body. let some = body.some in omega arith) ys all_bodies)
          all_apart

      have_room : HaveRoom ys
      have_room =
          let with_bytes = pages_within blocks ys ascending (All-permutation (λ s. is_device s.kind ≡ false → in_a_block blocks s.address (PAGE * s.pages) ≡ true) (rs ++ ds) ys p inside) in
          let block_bytes = h.block_bytes in
          let same = sum_by-IsPermutation device_pages_of (rs ++ ds) ys p in
          let of_devices = device_room in
          let device_bytes = h.device_bytes in
          record { pages = omega arith; device_pages = omega arith }

      pub are_spans : All (λ s. HasNames s.tag) ys → AreSpans ys
      are_spans named =
          let many = all_length in
          let few = h.few in
          let windows = h.windows in
          record {
            few = omega arith;
            each = λ k d l. let body = all_bodies k d l in let names = named k d l in
                record { aligned = body.aligned; some = body.some; low = body.low; part = body.part; owner = names.owner; called = names.called };
            ascend = ascending;
            numbered = below;
            differ = differ;
            room = have_room;
          }

-- from spans by number
pub by_address : (blocks : List Block) (devices : List Device) (regions : List Region) (addresses : List ℕ) → IsPlaced blocks devices regions addresses → (first all : List SpanPart) → first ≡ region_spans regions addresses
    → all ≡ first ++ device_spans (length first) devices → All (λ s. HasNames s.tag) all → AreSpansByAddress all
by_address blocks devices regions addresses h first all first_is all_is named ordered p up =
    let many : length first ≡ length regions = ap length first_is ∙ many_spans regions addresses (as_many blocks regions addresses h.inside) in
    let whole : all ≡ region_spans regions addresses ++ device_spans (length regions) devices =
    all_is ∙ ap (λ n. first ++ device_spans n devices) many ∙ ap (λ xs. xs ++ device_spans (length regions) devices) first_is in
    are_spans blocks devices regions addresses h ordered (subst (λ (xs : List SpanPart). IsPermutation xs ordered) whole p) up
    (All-permutation (λ s. HasNames s.tag) all ordered p named)
