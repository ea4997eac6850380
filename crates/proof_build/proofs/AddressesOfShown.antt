-- Each page of what a subject's windows show stands in the image's memory.
use Rattle.std.proofs.Common.{◌≡◌, ℕ, ◌+◌, ◌-◌, ◌*◌, ◌/◌, ◌%◌, ◌<◌, ◌≤◌, true, List, length, get_or, Option, Some, sym, ap, ◌∙◌, subst, arith}
use Rattle.std.specs.Prelude.{◌&&◌, is_some, nat_le, nat_lt, option_map, slice_get, unwrap_or}
use Rattle.std.specs.List.{enumerate_from}
use Rattle.std.proofs.lemmas.Bool.{and_parts, eqb-true}
use Rattle.std.proofs.lemmas.List.Elements.{All-map}
use Rattle.std.proofs.lemmas.Option.{slice_get-map}
use Rattle.ept_emit.specs.declared.window.Window.{Window}
use Rattle.ept_emit.specs.Emitted.{HasWindowPages}
use Rattle.expand_kernel.proofs.GrantedWindows.{guests_granted, windows_whole}
use Rattle.expand_kernel.specs.ByIndex.{kernel_first}
use Rattle.expand_kernel.specs.Grants.{AreGrantsOf}
use Rattle.expand_kernel.specs.Regions.{anywhere}
use Rattle.expand_kernel.specs.granted.Grants.{Grants}
use Rattle.expand_kernel.specs.thing.Region.{Region}
use Rattle.expand_kernel.specs.thing.RegionKind.TheVariants.{Kernel}
use Rattle.expand_kernel.specs.thing.Thing.{Thing}
use Rattle.image_emit.specs.Made.{IsMade, Made, image_of, policy_of}
use Rattle.image_emit.proofs.ByNumber.{region_spans_length}
use Rattle.image_emit.proofs.SpansOfKernel.{placed_of}
use Rattle.image_emit.proofs.SpansAt.{region_at}
use Rattle.image_soundness.specs.Memory.{memory_of}
use Rattle.image_pack.specs.declared.parts.SpanPart.{SpanPart}
use Rattle.machine_layout.specs.Memory.{is_there, page_of}
use Rattle.muen_num.proofs.Lists.{get_right, numbered_at}
use Rattle.muen_num.proofs.Options.{from_some}
use Rattle.muen_num.specs.Numbers.{is_page_aligned}
use Rattle.muen_num.specs.declared.limits.TheConstants.{GUEST_END, PAGE}
use Rattle.muen_num.specs.declared.tag.TagPart.TheVariants.{State as StatePart}
use Rattle.policy_lawful.specs.ByIndex.{memories_of}
use Rattle.policy_lawful.specs.Rules.{is_guest, is_page_size}
use Rattle.policy_lawful.specs.Things.{device_things, region_of_thing}
use Rattle.policy_lawful.specs.declared.resolved.Subject.{Subject}
use Rattle.policy_lawful.specs.source.DeviceMemory.{DeviceMemory}
use Rattle.proof_build.proofs.Contents.{memories_are, memory_thing}
use Rattle.proof_build.proofs.PagesThere.{page_there}
use Rattle.region_alloc.proofs.AddressesFit.{whole_fits}
use Rattle.region_alloc.proofs.OwnRegions.{region_there as thing_there}
use Rattle.region_alloc.proofs.ThingAddresses.{each_number}
use Rattle.span_emit.specs.Spans.{device_span, device_spans, region_span, region_spans}
use Rattle.span_emit.specs.SpansOf.{spans_of}
use Rattle.subject_emit.specs.Mapped.{mapped, mapped_windows}

-- each page of so many bytes from an address on is there
abbrev pub AreThere : Made → ℕ → ℕ → Type 0
AreThere m address size = (j : ℕ) → address ≤ 4096 * j → 4096 * j < address + size → is_there (memory_of (image_of m)) j ≡ true

module _ (m : Made) (h : IsMade m) where
  -- .. where these are whole pages
  abbrev AreThereWhole : ℕ → ℕ → Type 0
  AreThereWhole address size = size % 4096 ≡ 0 → address % 4096 ≡ 0 → AreThere m address size

  -- of a span
  span_there : (n : ℕ) (s : SpanPart) (size : ℕ) → slice_get (spans_of m.placed) n ≡ Some s → s.address % 4096 ≡ 0 → size ≡ 4096 * s.pages → AreThere m s.address size
  span_there n s size at aligned long j low high =
      let k : ℕ = j - s.address / 4096 in
      let is : s.address / 4096 + k ≡ j = omega (arith, aligned, low) in
      let within : k < s.pages = omega (arith, aligned, low, high, long) in
      ap (λ i. is_some (page_of (memory_of (image_of m)) i)) (sym is)
      ∙ ap (λ (o : Option (List ℕ)). is_some o) (page_there m h n s at k within)

  -- of a region
  region_there : (n : ℕ) (y : Region) → slice_get m.placed.expanded.regions n ≡ Some y → AreThereWhole (get_or m.placed.addresses n 0) y.size
  region_there n y at whole aligned =
      span_there n (region_span (n, (y, get_or m.placed.addresses n 0))) y.size (region_at m h n y at) aligned (omega (arith, whole))

  -- of a device's memory
  memory_there : (n : ℕ) (x : List ℕ × DeviceMemory) → slice_get (memories_of (policy_of m).devices) n ≡ Some x → AreThereWhole x.1.physical_address x.1.size
  unfolding spans_of
  memory_there n x at whole aligned =
      let many = length m.placed.expanded.regions in
      let front = region_spans m.placed.expanded.regions m.placed.addresses in
      let number : many + n ≡ length front + n = omega (arith, region_spans_length m h) in
      span_there (many + n) (device_span (many + n, x)) x.1.size
      (ap (slice_get (spans_of m.placed)) number
      ∙ get_right front (device_spans many (policy_of m).devices) n
      ∙ slice_get-map device_span (enumerate_from many (memories_of (policy_of m).devices)) n
      ∙ ap (option_map device_span) (numbered_at many (memories_of (policy_of m).devices) n x at))
      aligned (omega (arith, whole))

  device_there : (n : ℕ) (t : Thing) → slice_get (device_things (policy_of m)) n ≡ Some t → AreThereWhole (unwrap_or t.fixed 0) t.size
  device_there n t at =
      let memories = memories_of (policy_of m).devices in
      let x = from_some memory_thing (slice_get memories n) t (sym (slice_get-map memory_thing memories n) ∙ sym (ap (λ ts. slice_get ts n) (memories_are (policy_of m))) ∙ at) in
      subst (λ (t : Thing). AreThereWhole (unwrap_or t.fixed 0) t.size) x.2 (memory_there n x.0 x.1)

  -- ---- its windows

  whole_guest : (guest size : ℕ) → is_guest guest size ≡ true → size % 4096 ≡ 0
  whole_guest guest size is =
      let both = and_parts (is_page_aligned guest && is_page_size size) (nat_le (guest + size) GUEST_END) is in
      let range = and_parts (is_page_aligned guest) (is_page_size size) both.0 in
      eqb-true (size % 4096) 0 (and_parts (is_page_aligned size) (nat_lt 0 size) range.1).0

  pub has_addresses : (k : ℕ) (s : Subject) (g : Grants) → slice_get (policy_of m).subjects k ≡ Some s → AreGrantsOf (policy_of m) s g → HasWindowPages (memory_of (image_of m)) (mapped_windows m.placed g)
  has_addresses k s g at granted =
      let placed = placed_of m h in
      let whole = windows_whole (policy_of m) h.resolved k s at g granted in
      let guests = guests_granted (policy_of m) h.resolved k s at h.lawful g granted in
      All-map (λ (w : Window). (j : ℕ) → w.address ≤ 4096 * j → 4096 * j < w.address + w.size → is_there (memory_of (image_of m)) j ≡ true) (mapped m.placed) g.windows
      (λ i d l.
      let w = get_or g.windows i d in
      each_number m.placed placed AreThereWhole
      (record {
        thing = λ n t at. region_there n (region_of_thing t) (thing_there m.placed placed n t at);
        device = device_there;
        state = λ k s at. region_there (kernel_first (policy_of m) k) (anywhere Kernel s.name StatePart PAGE) at;
      })
      w.thing w.size (whole i d l) (whole_guest w.guest w.size (guests i d l)) (whole_fits m.placed placed w (whole i d l)).whole)
