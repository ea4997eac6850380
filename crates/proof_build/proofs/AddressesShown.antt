-- Where things lie in the image that is made: where the policy's placement has what has their numbers.
use Rattle.std.proofs.Common.{◌≡◌, ℕ, ◌+◌, ◌≤◌, List, [], ◌∷◌, ◌++◌, inl, inr, length, map, take, Some, refl, sym, ap, ◌∙◌, arith, length-append}
use Rattle.std.specs.Prelude.{option_map, slice_get, slice_index, unwrap_or}
use Rattle.std.specs.List.{enumerate_from, zip}
use Rattle.std.proofs.lemmas.Bool.{cases_lt}
use Rattle.std.proofs.lemmas.List.{get_or_past, length-map, length-take-le, map-append}
use Rattle.std.proofs.lemmas.Option.{get_or_from_slice_get, slice_get-map}
use Rattle.std.proofs.lemmas.Slice.Zip.{AllZip-long}
use Rattle.expand_kernel.specs.ByIndex.{kernel_first}
use Rattle.expand_kernel.specs.Regions.{anywhere}
use Rattle.expand_kernel.specs.thing.Region.{Region}
use Rattle.expand_kernel.specs.thing.RegionKind.TheVariants.{Kernel}
use Rattle.expand_kernel.specs.thing.Thing.{Thing as NumberedThing}
use Rattle.expand_kernel.specs.thing.ThingIndex.{ThingIndex}
use Rattle.expand_kernel.specs.thing.ThingIndex.TheVariants.{Declared, State as StatePage}
use Rattle.image_emit.specs.Made.{IsMade, Made, image_of, policy_of, subject_parts}
use Rattle.image_emit.proofs.BySubject.{subject_at}
use Rattle.image_emit.proofs.ConditionsOfPlan.{subjects_many}
use Rattle.image_emit.proofs.RegionSizes.{first_regions}
use Rattle.image_emit.proofs.SpansOfKernel.{placed_of}
use Rattle.image_soundness.proofs.AddressesByNumber.{address_by_number}
use Rattle.image_soundness.specs.Memory.{Span, address_at}
use Rattle.image_soundness.specs.Numbered.{address_at_number}
use Rattle.image_soundness.specs.Sound.{address_of, thing_spans}
use Rattle.image_pack.specs.declared.parts.SpanPart.{SpanPart}
use Rattle.image_pack.specs.declared.parts.SubjectPart.{SubjectPart}
use Rattle.muen_num.proofs.Lists.{map-map, there}
use Rattle.muen_num.specs.declared.limits.TheConstants.{PAGE}
use Rattle.muen_num.specs.declared.tag.TagPart.TheVariants.{State as StatePart}
use Rattle.policy_lawful.proofs.SourceElements.{many_subjects}
use Rattle.policy_lawful.proofs.ThingsByIndex.{things_by_index}
use Rattle.policy_lawful.specs.Resolution.{Resolution, source_of}
use Rattle.policy_lawful.specs.Thing.{Item, Thing, items_of, things_of}
use Rattle.policy_lawful.specs.Things.{IsThingOf, device_things, placed_things, region_of_thing, thing_index, things_by_number}
use Rattle.policy_lawful.specs.source.DeviceMemory.{DeviceMemory}
use Rattle.proof_build.proofs.AddressesKept.{lies_at}
use Rattle.proof_build.proofs.Contents.{addresses_enough, memories_are, memory_thing, spans_of_memory, spans_of_regions, thing_spans_are, with_content}
use Rattle.policy_lawful.specs.ByIndex.{memories_of}
use Rattle.region_alloc.proofs.OwnRegions.{placed_within}
use Rattle.region_alloc.specs.Placed.{address_of as placed_at, thing_addresses}
use Rattle.span_emit.specs.Spans.{device_span, region_span}
use Rattle.subject_emit.proofs.TablesReady.{addresses_many, kernel_at}

-- ---- the addresses of spans

region_addresses : (n : ℕ) (ys : List Region) (ps : List ℕ) → length ys ≤ length ps → map (λ s. s.address) (map region_span (enumerate_from n (zip ys ps))) ≡ take (length ys) ps
region_addresses n [] ps l = refl
region_addresses n (y ∷ ys) [] l = absurd (omega (arith, l))
region_addresses n (y ∷ ys) (p ∷ ps) l = ap (λ qs. p ∷ qs) (region_addresses (n + 1) ys ps (omega (arith, l)))

memory_addresses : (n : ℕ) (xs : List (List ℕ × DeviceMemory)) → map (λ s. s.address) (map device_span (enumerate_from n xs)) ≡ map (λ x. x.1.physical_address) xs
memory_addresses n [] = refl
memory_addresses n (x ∷ xs) = ap (λ qs. x.1.physical_address ∷ qs) (memory_addresses (n + 1) xs)

module _ (m : Made) (h : IsMade m) where
  abbrev r : Resolution
  r = policy_of m

  abbrev fixed_address : NumberedThing → ℕ
  fixed_address t = unwrap_or t.fixed 0

  addresses_of_spans : map (λ e. e.0.address) (thing_spans (image_of m)) ≡ thing_addresses m.placed
  addresses_of_spans =
      let regions = region_addresses 0 (first_regions m) m.placed.addresses (addresses_enough m h) ∙ ap (λ n. take n m.placed.addresses) (length-map (placed_things r) region_of_thing) in
      let memory = memory_addresses (length m.placed.expanded.regions) (memories_of r.devices) ∙ sym (ap (map fixed_address) (memories_are r) ∙ map-map fixed_address memory_thing (memories_of r.devices)) in
      ap (map (λ (e : Span). e.0.address)) (thing_spans_are m h)
      ∙ map-map (λ (e : Span). e.0.address) (with_content m) (spans_of_regions m ++ spans_of_memory m)
      ∙ map-append (λ (s : SpanPart). s.address) (spans_of_regions m) (spans_of_memory m)
      ∙ (λ i. regions i ++ memory i)

  -- as many spans as things
  spans_many : length (thing_spans (image_of m)) ≡ length (things_of (source_of r))
  unfolding things_of
  spans_many =
      let spans = length-map (thing_spans (image_of m)) (λ (e : Span). e.0.address) in
      let addresses = ap length addresses_of_spans in
      let both = length-append (take (length (placed_things r)) m.placed.addresses) (map fixed_address (device_things r)) in
      let placed = length-take-le (length (placed_things r)) m.placed.addresses (placed_within m.placed (placed_of m h)) in
      let devices = length-map (device_things r) fixed_address in
      let items = length-map (items_of (source_of r)) (λ (i : Item). i.thing) in
      let things = AllZip-long (IsThingOf r (source_of r)) (items_of (source_of r)) (things_by_number r) (things_by_index r h.resolved) in
      let all = length-append (placed_things r) (device_things r) in
      omega (arith, spans, addresses, both, placed, devices, items, things, all)

  -- ---- state pages

  abbrev state_address : SubjectPart → ℕ
  state_address q = address_at (image_of m) q.state

  parts_many : length (subject_parts m) ≡ length r.subjects
  unfolding image_of
  parts_many = subjects_many m h

  state_at : (k : ℕ) → slice_index (map state_address (subject_parts m)) k ≡ slice_index m.placed.addresses (kernel_first r k)
  state_at k =
      let parts = subject_parts m in
      let first = kernel_first r k in
      elim (cases_lt k (length r.subjects)) [
        | inl here ↦
            let part = there parts k (omega (arith, here, parts_many)) in
            let at = subject_at m h k part.0 part.1 in
            let page = anywhere Kernel at.subject.name StatePart PAGE in
            let number : first + 0 ≡ first = omega arith in
            let region : slice_get m.placed.expanded.regions first ≡ Some page =
            ap (slice_get m.placed.expanded.regions) (sym number) ∙ kernel_at m.placed (placed_of m h) k 0 at.subject at.granted page at.is.subject at.is.granted refl in
            get_or_from_slice_get (map state_address parts) k (state_address part.0) 0 (slice_get-map state_address parts k ∙ ap (option_map state_address) part.1)
            ∙ ap state_address at.made
            ∙ lies_at m h first page region
        | inr past ↦
            let many = length-map parts state_address in
            let all = addresses_many m.placed (placed_of m h) in
            get_or_past (map state_address parts) k 0 (omega (arith, past, many, parts_many))
            ∙ sym (get_or_past m.placed.addresses first 0 (omega (arith, past, all)))
      ]

  -- ---- all

  by_number : (number : ThingIndex) → address_at_number (image_of m) number ≡ placed_at m.placed number
  unfolding image_of
  by_number (Declared n) = ap (λ addresses. slice_index addresses n) addresses_of_spans
  by_number (StatePage k) = state_at k

  -- **where a thing lies**
  pub address_is : (x : Thing) → address_of (source_of r) (image_of m) x ≡ placed_at m.placed (thing_index (source_of r) x)
  address_is x =
      address_by_number (source_of r) (image_of m) spans_many (subjects_many m h ∙ sym (many_subjects r)) x
      ∙ by_number (thing_index (source_of r) x)
