-- What the spans hold that aren't the kernel's: the things of the policy, in their order.
use Rattle.std.proofs.Common.{◌≡◌, ℕ, suc, ◌+◌, ◌*◌, ◌/◌, ◌≤◌, All, Bool, true, false, not, cond, List, [], ◌∷◌, ◌++◌, length, map, Option, Some, None, refl, sym, ap, ◌∙◌, subst, arith, length-append}
use Rattle.std.specs.Prelude.{option_map, replicate, slice_get, slice_index_or}
use Rattle.std.specs.List.{AllZip, enumerate_from, filter, flat_map, zip}
use Rattle.std.proofs.lemmas.List.{length-map, map-append}
use Rattle.std.proofs.lemmas.List.Elements.{All-append, All-from_recursion, All-head, All-map, All-nil, All-tail, filter-append}
use Rattle.std.proofs.lemmas.Option.{get_or_from_slice_get, slice_get-map, slice_get_within}
use Rattle.expand_kernel.specs.ByIndex.{kernel_for, kernel_for_each}
use Rattle.policy_lawful.specs.ByIndex.{provided_at, memories_of}
use Rattle.expand_kernel.specs.thing.Region.{Region}
use Rattle.expand_kernel.specs.thing.Thing.{Thing as NumberedThing}
use Rattle.image_emit.specs.Made.{IsMade, Made, content_at, image_of, kernel_bytes, policy_of, region_bytes}
use Rattle.image_soundness.specs.ThingBytes.{bytes_held, thing_bytes}
use Rattle.image_emit.proofs.ByNumber.{as_many_addresses, by_number_is}
use Rattle.image_emit.proofs.ContentLengths.{whole_regions, whole_size}
use Rattle.muen_num.proofs.PiecesOfLists.{flat_map_at, zip_append}
use Rattle.image_emit.proofs.PlanDevices.{kept_memories}
use Rattle.image_emit.proofs.RegionSizes.{first_regions, last_regions, regions_are}
use Rattle.image_soundness.proofs.ThingBytes.{bytes_are, size_is}
use Rattle.image_soundness.specs.Memory.{Span, bytes_of}
use Rattle.image_soundness.specs.Sound.{AreContents, IsSpanOf, is_kernel, kind_of, thing_spans}
use Rattle.image_pack.specs.declared.parts.SpanPart.{SpanPart}
use Rattle.muen_num.proofs.Lists.{all_flat, all_front, filter-map, get_left, map-flat_map, map-map}
use Rattle.muen_num.specs.declared.limits.TheConstants.{PAGE}
use Rattle.policy_lawful.proofs.ThingsByIndex.{things_by_index}
use Rattle.policy_lawful.proofs.ThingsDiffer.{item_found}
use Rattle.policy_lawful.specs.Resolution.{Resolution, source_of}
use Rattle.policy_lawful.specs.Contents.{Held}
use Rattle.policy_lawful.specs.Thing.{Item, Thing, channel, device_memory, item_of, items_of, provided, region, state, things_of}
use Rattle.policy_lawful.specs.Things.{AreDeclared, IsThingOf, brought_by, brought_things, channel_thing, device_thing, device_things, device_things_of, own_thing, placed_things, provided_thing, region_kind, region_of_thing, things_by_number}
use Rattle.policy_lawful.specs.declared.resolved.ComponentUse.{ComponentUse}
use Rattle.policy_lawful.specs.source.Component.{Component}
use Rattle.policy_lawful.specs.source.DeviceMemory.{DeviceMemory}
use Rattle.policy_lawful.specs.source.Source.{Source}
use Rattle.span_emit.specs.Spans.{device_span, region_span, region_spans, span_kind}
use Rattle.span_emit.specs.SpansOf.{spans_of}
use Rattle.policy_lawful.proofs.KeptAddresses.{IsPhysical}
use Rattle.span_emit.proofs.KeptRegions.{IsWhole}

-- ---- which spans they are

abbrev keeps : SpanPart → Bool
keeps s = not (is_kernel s.kind)

abbrev IsKept : Bool → Region → Type 0
IsKept kept y = not (is_kernel (span_kind y.kind)) ≡ kept

-- the spans of regions that are the kernel's are left out
none_kept : (n : ℕ) (ys : List Region) (ps : List ℕ) → All (IsKept false) ys → filter keeps (map region_span (enumerate_from n (zip ys ps))) ≡ []
none_kept n [] ps h = refl
none_kept n (y ∷ ys) [] h = refl
none_kept n (y ∷ ys) (p ∷ ps) h =
    ap (λ b. cond b (region_span (n, (y, p)) ∷ filter keeps (map region_span (enumerate_from (n + 1) (zip ys ps)))) (filter keeps (map region_span (enumerate_from (n + 1) (zip ys ps))))) (All-head (IsKept false) y ys h)
    ∙ none_kept (n + 1) ys ps (All-tail (IsKept false) y ys h)

front_kept : (n : ℕ) (ys ks : List Region) (ps : List ℕ) → All (IsKept true) ys → All (IsKept false) ks → filter keeps (map region_span (enumerate_from n (zip (ys ++ ks) ps))) ≡ map region_span (enumerate_from n (zip ys ps))
front_kept n [] ks ps h none = none_kept n ks ps none
front_kept n (y ∷ ys) ks [] h none = refl
front_kept n (y ∷ ys) ks (p ∷ ps) h none =
    ap (λ b. cond b (region_span (n, (y, p)) ∷ filter keeps (map region_span (enumerate_from (n + 1) (zip (ys ++ ks) ps)))) (filter keeps (map region_span (enumerate_from (n + 1) (zip (ys ++ ks) ps))))) (All-head (IsKept true) y ys h)
    ∙ ap (λ ss. region_span (n, (y, p)) ∷ ss) (front_kept (n + 1) ys ks ps (All-tail (IsKept true) y ys h) none)

devices_kept : (n : ℕ) (xs : List (List ℕ × DeviceMemory)) → filter keeps (map device_span (enumerate_from n xs)) ≡ map device_span (enumerate_from n xs)
devices_kept n [] = refl
devices_kept n (x ∷ xs) = ap (λ ss. device_span (n, x) ∷ ss) (devices_kept (n + 1) xs)

abbrev IsThing : NumberedThing → Type 0
IsThing t = IsKept true (region_of_thing t)

brought_kept : (components : List Component) (subject : List ℕ) (o : Option ComponentUse) → All IsThing (brought_by components subject o)
brought_kept components subject None = All-nil IsThing
brought_kept components subject (Some used) = All-map IsThing (provided_thing subject used.used) (enumerate_from 0 (provided_at components (Some used))) (λ k d l. refl)

last_kept : (m : Made) → All (IsKept false) (last_regions m)
unfolding kernel_for_each
last_kept m =
    all_flat (IsKept false) kernel_for (λ e. All-from_recursion (IsKept false) (kernel_for e) (refl, (refl, (refl, (refl, (refl, tt))))))
    (zip (policy_of m).subjects m.placed.expanded.grants)

-- of each region that isn't the kernel's
first_kept : (m : Made) → All (IsKept true) (first_regions m)
unfolding placed_things
first_kept m =
    let r = policy_of m in
    let own = map own_thing (enumerate_from 0 r.memory) in
    let channels = map channel_thing r.channels in
    All-map (IsKept true) region_of_thing (placed_things r)
    (All-append IsThing (own ++ channels) (flat_map (brought_things r.components) r.subjects)
    (All-append IsThing own channels
    (All-map IsThing own_thing (enumerate_from 0 r.memory) (λ k d l. refl))
    (All-map IsThing channel_thing r.channels (λ k d l. refl)))
    (all_flat IsThing (brought_things r.components) (λ s. brought_kept r.components s.name s.component) r.subjects))

abbrev pub with_content : Made → SpanPart → Span
with_content m s = (s, content_at m s)

-- the spans of regions that aren't the kernel's, then those of devices' memory
abbrev pub spans_of_regions : Made → List SpanPart
spans_of_regions m = map region_span (enumerate_from 0 (zip (first_regions m) m.placed.addresses))

abbrev pub spans_of_memory : Made → List SpanPart
spans_of_memory m = map device_span (enumerate_from (length m.placed.expanded.regions) (memories_of (policy_of m).devices))

pub thing_spans_are : (m : Made) → IsMade m → thing_spans (image_of m) ≡ map (with_content m) (spans_of_regions m ++ spans_of_memory m)
unfolding spans_of
thing_spans_are m h =
    let memory = spans_of_memory m in
    let kept = front_kept 0 (first_regions m) (last_regions m) m.placed.addresses (first_kept m) (last_kept m) in
    ap (filter (λ (e : Span). not (is_kernel e.0.kind))) (by_number_is m h)
    ∙ filter-map (λ (e : Span). not (is_kernel e.0.kind)) (with_content m) (spans_of m.placed)
    ∙ ap (map (with_content m)) (
    filter-append keeps (region_spans m.placed.expanded.regions m.placed.addresses) memory
    ∙ ap (λ ys. filter keeps (region_spans ys m.placed.addresses) ++ filter keeps memory) (regions_are m h)
    ∙ (λ i. kept i ++ devices_kept (length m.placed.expanded.regions) (memories_of (policy_of m).devices) i))

-- ---- what each has

kind_is : (x : Thing) → span_kind (region_kind x) ≡ kind_of x
kind_is (region name) = refl
kind_is (channel name) = refl
kind_is (provided subject logical) = refl
kind_is (device_memory device memory) = refl
kind_is (state subject) = refl

abbrev pub memory_thing : List ℕ × DeviceMemory → NumberedThing
memory_thing x = device_thing x.0 x.1

-- the devices' memory, by number
pub memories_are : (r : Resolution) → device_things r ≡ map memory_thing (memories_of r.devices)
unfolding device_things
memories_are r =
    flat_map_at device_things_of (λ d. map memory_thing (map (λ m. (d.name, m)) d.memory)) r.devices (λ k d at. sym (map-map memory_thing (λ m. (d.name, m)) d.memory))
    ∙ sym (map-flat_map memory_thing (λ d. map (λ m. (d.name, m)) d.memory) r.devices)

module _ (files : Held) (r : Resolution) where
  abbrev p : Source
  p = source_of r

  -- the span of a thing by number has what is declared of it
  record IsHeld (t : NumberedThing) (e : Span) : Type 0 where
    tag : e.0.tag ≡ t.tag
    kind : e.0.kind ≡ span_kind t.kind
    size : PAGE * e.0.pages ≡ t.size
    bytes : bytes_of e ≡ bytes_held files r t

  region_has : (n address : ℕ) (t : NumberedThing) (held : List ℕ) → IsWhole (region_of_thing t) → held ≡ bytes_held files r t → IsHeld t (region_span (n, (region_of_thing t, address)), held)
  region_has n address t held whole has = record {
    tag = refl;
    kind = refl;
    size = whole_size t.size whole.pages;
    bytes = ap (λ d. cond d (replicate (PAGE * (t.size / PAGE)) 0) held) whole.no_device ∙ has;
  }

  regions_have : (look : ℕ → List ℕ) (n : ℕ) (ts : List NumberedThing) (ps : List ℕ) → length ts ≤ length ps → All IsWhole (map region_of_thing ts) → ((k : ℕ) (t : NumberedThing) → slice_get ts k ≡ Some t → look (n + k) ≡ bytes_held files r t)
      → AllZip IsHeld ts (map (λ s. (s, look s.number)) (map region_span (enumerate_from n (zip (map region_of_thing ts) ps))))
  regions_have look n [] ps long whole looks = tt
  regions_have look n (t ∷ ts) [] long whole looks = absurd (omega (arith, long))
  regions_have look n (t ∷ ts) (a ∷ ps) long whole looks =
      let first : n + 0 ≡ n = omega arith in (
        region_has n a t (look n) (All-head IsWhole (region_of_thing t) (map region_of_thing ts) whole) (ap look (sym first) ∙ looks 0 t refl),
        regions_have look (n + 1) ts ps (omega (arith, long)) (All-tail IsWhole (region_of_thing t) (map region_of_thing ts) whole)
            (λ k u at. let next : n + 1 + k ≡ n + suc k = omega arith in ap look next ∙ looks (suc k) u at),
      )

  memory_has : (n : ℕ) (x : List ℕ × DeviceMemory) (held : List ℕ) → IsPhysical x.1 → IsHeld (memory_thing x) (device_span (n, x), held)
  memory_has n x held physical =
      let size : PAGE * (x.1.size / PAGE) ≡ x.1.size = whole_size x.1.size physical.pages in
      record { tag = refl; kind = refl; size = size; bytes = ap (λ k. replicate k 0) size }

  memories_have : (look : ℕ → List ℕ) (n : ℕ) (xs : List (List ℕ × DeviceMemory)) → All (λ x. IsPhysical x.1) xs → AllZip IsHeld (map memory_thing xs) (map (λ s. (s, look s.number)) (map device_span (enumerate_from n xs)))
  memories_have look n [] physical = tt
  memories_have look n (x ∷ xs) physical =
      (memory_has n x (look n) (All-head (λ (x : List ℕ × DeviceMemory). IsPhysical x.1) x xs physical), memories_have look (n + 1) xs (All-tail (λ (x : List ℕ × DeviceMemory). IsPhysical x.1) x xs physical))

  span_of : (i : Item) (t : NumberedThing) (e : Span) → item_of p i.thing ≡ Some i → IsThingOf r p i t → IsHeld t e → IsSpanOf p files i.thing e
  span_of i t e found is held = record {
    tag = held.tag ∙ (λ j. (is.region j).tag);
    kind = held.kind ∙ (λ j. span_kind (is.region j).kind) ∙ kind_is i.thing;
    size = size_is r i found t is ∙ ap Some (sym held.size);
    bytes = held.bytes ∙ sym (bytes_are r i found t is files);
  }

  spans_of_items : (items : List Item) (ts : List NumberedThing) (es : List Span) → ((k : ℕ) (i : Item) → slice_get items k ≡ Some i → item_of p i.thing ≡ Some i) → AreDeclared r items ts → AllZip IsHeld ts es
      → AllZip (IsSpanOf p files) (map (λ i. i.thing) items) es
  spans_of_items [] [] [] found are held = tt
  spans_of_items [] [] (e ∷ es) found are held = absurd held
  spans_of_items [] (t ∷ ts) es found are held = absurd are
  spans_of_items (i ∷ items) [] es found are held = absurd are
  spans_of_items (i ∷ items) (t ∷ ts) [] found are held = absurd held
  spans_of_items (i ∷ items) (t ∷ ts) (e ∷ es) found are held =
      (span_of i t e (found 0 i refl) are.0 held.0, spans_of_items items ts es (λ k j at. found (suc k) j at) are.1 held.1)

-- ---- all

-- there is an address for each of them
pub addresses_enough : (m : Made) → IsMade m → length (first_regions m) ≤ length m.placed.addresses
addresses_enough m h =
    let addresses = as_many_addresses m h in
    let all = ap length (regions_are m h) in
    let both = length-append (first_regions m) (last_regions m) in
    omega (arith, addresses, all, both)

first_whole : (m : Made) → IsMade m → All IsWhole (first_regions m)
first_whole m h = all_front IsWhole (first_regions m) (last_regions m) (subst (All IsWhole) (regions_are m h) (whole_regions m h))

-- what is looked up by the number of a thing is what it holds
looked : (m : Made) (k : ℕ) (b : List ℕ) → slice_get m.things k ≡ Some b → slice_index_or (region_bytes m) k [] ≡ b
looked m k b at = get_or_from_slice_get (region_bytes m) k b [] (get_left m.things (flat_map kernel_bytes m.pages) k (slice_get_within m.things k b at) ∙ at)

-- **the contents**: the spans that aren't the kernel's are the things of the policy
pub contents : (files : Held) (m : Made) → IsMade m → m.things ≡ thing_bytes files (policy_of m) → AreContents (source_of (policy_of m)) files (image_of m)
unfolding things_of
contents files m h held =
    let r = policy_of m in
    let placed = placed_things r in
    let look : ℕ → List ℕ = λ n. slice_index_or (region_bytes m) n [] in
    let many = length-map placed region_of_thing in
    let regions : AllZip (IsHeld files r) placed (map (with_content m) (spans_of_regions m)) =
    regions_have files r look 0 placed m.placed.addresses (omega (arith, many, addresses_enough m h)) (first_whole m h)
    (λ k t at.
    let number : 0 + k ≡ k = omega arith in
    ap look number ∙ looked m k (bytes_held files r t) (ap (λ bs. slice_get bs k) held ∙ slice_get-map (bytes_held files r) placed k ∙ ap (option_map (bytes_held files r)) at)) in
    let memory : AllZip (IsHeld files r) (device_things r) (map (with_content m) (spans_of_memory m)) =
    subst (λ ts. AllZip (IsHeld files r) ts (map (with_content m) (spans_of_memory m))) (sym (memories_are r)) (memories_have files r look (length m.placed.expanded.regions) (memories_of r.devices) (kept_memories m h)) in
    subst (AllZip (IsSpanOf (source_of r) files) (things_of (source_of r))) (sym (thing_spans_are m h ∙ map-append (with_content m) (spans_of_regions m) (spans_of_memory m)))
    (spans_of_items files r (items_of (source_of r)) (things_by_number r) (map (with_content m) (spans_of_regions m) ++ map (with_content m) (spans_of_memory m))
    (item_found (source_of r) h.resolved.names) (things_by_index r h.resolved)
    (zip_append (IsHeld files r) placed (map (with_content m) (spans_of_regions m)) (device_things r) (map (with_content m) (spans_of_memory m)) regions memory))
