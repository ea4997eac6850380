-- What windows show lies whole in spans of the image.
use Rattle.std.proofs.Common.{◌≡◌, ℕ, ◌+◌, ◌*◌, ◌/◌, ◌%◌, ◌<◌, ◌≤◌, inl, inr, All, Bool, true, List, length, map, get_or, Some, refl, sym, ap, ◌∙◌, arith, true≢false}
use Rattle.std.specs.Prelude.{◌&&◌, nat_le, nat_lt, not, option_map, slice_get, slice_index}
use Rattle.std.specs.Option.{option_map_or}
use Rattle.std.specs.List.{list_all, list_any}
use Rattle.std.proofs.lemmas.Bool.{and_parts, eqb-true, leb-true, ltb-true}
use Rattle.std.proofs.lemmas.List.Elements.{All-from_recursion}
use Rattle.std.proofs.lemmas.List.Folds.{list_all-map}
use Rattle.std.proofs.lemmas.List.Sums.{AllPass-from_list_all, passes_at_first}
use Rattle.std.proofs.lemmas.Option.{get_or_from_slice_get, slice_get-map, slice_get_within}
use Rattle.std.proofs.lemmas.Slice.Zip.{AllZip-long}
use Rattle.ept_check.specs.Sound.{HasPages, IsWhole}
use Rattle.ept_check.specs.window.Window.{Window as EptWindow}
use Rattle.image_pack.proofs.PartsKeep.{parts_keep}
use Rattle.image_pack.specs.ImageConditions.{KeepsConditions}
use Rattle.image_pack.specs.SpanConditions.{IsSpan}
use Rattle.image_pack.specs.declared.parts.Image.{Image}
use Rattle.image_pack.specs.declared.parts.SpanPart.{SpanPart}
use Rattle.image_pack.specs.declared.parts.SubjectPart.{SubjectPart}
use Rattle.image_memory.specs.Memory.{Span, address_at, by_number, bytes_of, memory_of, span_at}
use Rattle.image_soundness.proofs.AddressesByNumber.{address_by_number}
use Rattle.image_soundness.proofs.WindowsOn.{IsOn, IsOnState, IsOnThing, each_window}
use Rattle.image_soundness.specs.Numbered.{address_at_number}
use Rattle.image_soundness.specs.Sound.{IsSpanOf, address_of, is_kernel, thing_spans}
use Rattle.image_verify.proofs.InSpans.{in_span_there}
use Rattle.image_verify.specs.Filled.{IsFilled}
use Rattle.image_verify.specs.Windows.{window_on}
use Rattle.ept_check.specs.Memory.{is_there}
use Rattle.muen_num.proofs.Lists.{all_at, passes_at, there}
use Rattle.muen_num.proofs.Lookups.{found_any, found_position}
use Rattle.muen_num.proofs.Pairs.{other_at}
use Rattle.muen_num.specs.Range.{numbers_below}
use Rattle.muen_num.specs.declared.limits.TheConstants.{GUEST_END}
use Rattle.policy_lawful.proofs.FirstIndexes.{first_named}
use Rattle.policy_lawful.proofs.KeptAddresses.{addresses_kept}
use Rattle.policy_lawful.proofs.KeptRules.{rules_of}
use Rattle.policy_lawful.proofs.NoPages.{pages_apart}
use Rattle.policy_lawful.proofs.SameThings.{same_things}
use Rattle.policy_lawful.proofs.UniqueNames.{unique}
use Rattle.policy_lawful.specs.Contents.{Held, initial_bytes}
use Rattle.policy_lawful.specs.Rules.{is_guest, is_page_size, window_extent, window_extents}
use Rattle.muen_num.specs.Numbers.{is_page_aligned}
use Rattle.policy_lawful.specs.Thing.{Thing, channel, device_memory, provided, region, same_thing, state, things_of}
use Rattle.policy_lawful.specs.Things.{thing_index, thing_number}
use Rattle.policy_lawful.specs.Windows.{Window, windows_of}
use Rattle.policy_lawful.specs.declared.offence.Extent.{Extent}
use Rattle.policy_lawful.specs.declared.thing.ThingIndex.TheVariants.{Declared}
use Rattle.policy_lawful.specs.source.Source.{Source}
use Rattle.policy_lawful.specs.source.Subject.{Subject}
use Rattle.muen_num.proofs.Indexed.{filtered_at, kept_at}
use Rattle.image_memory.proofs.SpanPages.{by_its_number, span_by, span_with}
use Rattle.image_memory.proofs.SubjectSpans.{subject_spans}

-- what stands at an index of a list that is mapped
pub mapped_at : {X Y : Type 0} (f : X → Y) (xs : List X) (k : ℕ) (x : X) (d : Y) → slice_get xs k ≡ Some x → get_or (map f xs) k d ≡ f x
mapped_at f xs k x d at = get_or_from_slice_get (map f xs) k (f x) d (slice_get-map f xs k ∙ ap (option_map f) at)

-- ---- numbers

whole_of : (w : EptWindow) (guests : is_guest w.guest w.size ≡ true) → w.address % 4096 ≡ 0 → w.address + w.size ≤ 1099511627776 → IsWhole w
whole_of w guests aligned end =
    let both = and_parts (is_page_aligned w.guest && is_page_size w.size) (nat_le (w.guest + w.size) GUEST_END) guests in
    let range = and_parts (is_page_aligned w.guest) (is_page_size w.size) both.0 in
    record {
      guest = eqb-true (w.guest % 4096) 0 range.0;
      size = eqb-true (w.size % 4096) 0 (and_parts (is_page_aligned w.size) (nat_lt 0 w.size) range.1).0;
      address = aligned;
      end = leb-true (w.guest + w.size) GUEST_END both.1;
      address_end = end;
    }

low_page : (address start k : ℕ) → address ≡ start → address ≤ 4096 * k → start / 4096 ≤ k
low_page address start k e l = omega (arith, e, l)

high_page : (address start size pages k : ℕ) → address ≡ start → start % 4096 ≡ 0 → size ≤ 4096 * pages → 4096 * k < address + size → k < start / 4096 + pages
high_page address start size pages k e a r l = omega (arith, e, a, r, l)

-- ---- rooms

-- so many bytes from this address on are of a span of the image
record Room (i : Image) (address size : ℕ) : Type 0 where
  index : ℕ
  span : SpanPart
  here : slice_get i.spans index ≡ Some span
  first : address ≡ span.address
  enough : size ≤ 4096 * span.pages

module _ (p : Source) (files : Held) (i : Image) (h : IsFilled p files i) where
  keeps : KeepsConditions i
  keeps = parts_keep i h.parts

  spans_many : length (thing_spans i) ≡ length (things_of p)
  spans_many = AllZip-long (IsSpanOf p files) (things_of p) (thing_spans i) h.contents

  -- a declared thing has a number
  numbered : (t : Thing) → list_any (λ y. same_thing y t) (things_of p) ≡ true → thing_index p t ≡ Declared (thing_number p t)
  numbered (region name) e = refl
  numbered (channel name) e = refl
  numbered (provided subject logical) e = refl
  numbered (device_memory device memory) e = refl
  numbered (state name) e = absurd (true≢false (sym e ∙ pages_apart p name))

  -- a thing has the span of its number
  of_thing : (w : Window Thing) → IsOnThing p w → Room i (address_of p i w.thing) w.size
  unfolding by_number
  of_thing w on =
      let t = w.thing in
      let test : Thing → Bool = λ y. same_thing y t in
      let n = thing_number p t in
      let low : n < length (things_of p) = ltb-true n (length (things_of p)) (found_position test (things_of p) ∙ found_any test (things_of p) ∙ on.declared) in
      let y = there (things_of p) n low in
      let passes : test y.0 ≡ true = ap test (sym (get_or_from_slice_get (things_of p) n y.0 y.0 y.1)) ∙ passes_at_first test (things_of p) y.0 low in
      let same : y.0 ≡ t = same_things y.0 t passes in
      let b = other_at (IsSpanOf p files) (things_of p) (thing_spans i) n y.0 h.contents y.1 in
      let e : Span = b.0 in
      let kept = filtered_at (λ (e : Span). not (is_kernel e.0.kind)) (by_number i) n e b.1 in
      let from = kept_at (span_at i) (numbers_below (length i.spans)) kept.0 e kept.1 in
      let within = (span_by i keeps from.0 e from.1).0 in
      let long : length (bytes_of e) ≡ 4096 * e.0.pages = within.long in
      let bytes : length (bytes_of e) ≡ length (initial_bytes p files t) = ap length (b.2.bytes ∙ ap (initial_bytes p files) same) in
      let most : w.size ≤ length (initial_bytes p files t) = on.bytes files in
      record {
        index = within.index;
        span = e.0;
        here = within.span;
        first =
            address_by_number p i spans_many h.many t
            ∙ ap (address_at_number i) (numbered t on.declared)
            ∙ mapped_at (λ (e : Span). e.0.address) (thing_spans i) n e 0 b.1;
        enough = omega (arith, long, bytes, most);
      }

  -- a state page the one that the subject's part of the image has
  of_state : (k : ℕ) (n : Subject) (w : Window Thing) → IsOnState p k n w → Room i (address_of p i w.thing) w.size
  of_state k n w on =
      let within = slice_get_within p.subjects on.number on.subject on.at in
      let many = h.many in
      let q = there i.subjects on.number (omega (arith, within, many)) in
      let span = (subject_spans i keeps on.number q.0 q.1).state in
      let c = span_with i keeps span.index span.span span.here in
      let is : span_at i q.0.state ≡ Some (span.span, c.0) = by_its_number i keeps q.0.state (span.span, c.0) c.1 span.number in
      let size : w.size ≡ 4096 = on.size in
      let some : 1 ≤ span.span.pages = span.pages_there in
      record {
        index = span.index;
        span = span.span;
        here = span.here;
        first =
            ap (address_of p i) (sym on.page)
            ∙ address_by_number p i spans_many h.many (state on.subject.name)
            ∙ ap (slice_index (map (λ (q : SubjectPart). address_at i q.state) i.subjects)) (first_named (λ (s : Subject). s.name) p.subjects on.number on.subject (unique p (rules_of h.lawful).rule_1).subjects on.at).at
            ∙ mapped_at (λ (q : SubjectPart). address_at i q.state) i.subjects on.number q.0 0 q.1
            ∙ ap (λ o. option_map_or (λ (e : Span). e.0.address) o 0) is;
        enough = omega (arith, size, some);
      }

  room_of : (k : ℕ) (n : Subject) (w : Window Thing) → IsOn p k n w → Room i (address_of p i w.thing) w.size
  room_of k n w (inl on) = of_thing w on
  room_of k n w (inr on) = of_state k n w on

  -- ---- the windows of a subject

  pub record Fits (w : Window Thing) : Type 0 where
    pub whole : IsWhole (window_on p i w)
    pub pages : HasPages (is_there (memory_of i)) (window_on p i w)

  fits_room : (w : Window Thing) → is_guest w.guest w.size ≡ true → Room i (address_of p i w.thing) w.size → Fits w
  fits_room w guests room =
      let on = window_on p i w in
      let span : IsSpan room.span = all_at IsSpan i.spans room.index room.span keeps.spans.each room.here in
      let first : on.address ≡ room.span.address = room.first in
      let aligned : room.span.address % 4096 ≡ 0 = span.aligned in
      let low : room.span.address + 4096 * room.span.pages ≤ 1099511627776 = span.low in
      let enough : w.size ≤ 4096 * room.span.pages = room.enough in
      record {
        whole = whole_of on guests (ap (λ n. n % 4096) first ∙ aligned) (omega (arith, first, low, enough));
        pages = λ k l m. in_span_there i h.parts room.index room.span room.here k (low_page on.address room.span.address k first l) (high_page on.address room.span.address w.size room.span.pages k first aligned enough m);
      }

  module _ (k : ℕ) (n : Subject) (at : slice_get p.subjects k ≡ Some n) where
    -- they are ranges of guest addresses, and share none
    pub guests_kept : list_all (λ e. is_guest e.address e.size) (window_extents p n) ≡ true
    guests_kept = passes_at (λ s. list_all (λ e. is_guest e.address e.size) (window_extents p s)) p.subjects k n (addresses_kept p (rules_of h.lawful).rule_4).windows at

    pub windows_fit : All Fits (windows_of p n)
    unfolding window_extents
    windows_fit =
        let ws = windows_of p n in
        let on = All-from_recursion (IsOn p k n) ws (each_window p h.lawful k n at) in
        let guests = AllPass-from_list_all (λ (w : Window Thing). is_guest w.guest w.size) ws (sym (list_all-map (λ (e : Extent). is_guest e.address e.size) window_extent ws) ∙ guests_kept) in
        λ j d l. fits_room (get_or ws j d) (guests j d l) (room_of k n (get_or ws j d) (on j d l))
