-- The memories of a sound image's devices lie where the policy's things of these names do, and are as long.
use Rattle.std.proofs.Common.{◌≡◌, ◌*◌, ◌/◌, ◌%◌, ◌<◌, ◌∷◌, ◌++◌, ◌∙◌}
use Rattle.std.proofs.Common.{ℕ, zero, suc, Bool, true, false, not, List, [], length, Option, Some, None, option_and_then, option_map, find, refl, sym, ap, ap₂, arith}
use Rattle.std.specs.Prelude.{◌==◌, if◌then◌else◌, option_to_list, slice_get}
use Rattle.std.specs.List.{flat_map}
use Rattle.std.specs.Str.{bytes_eq}
use Rattle.std.proofs.lemmas.Bool.{eqb-true, false≢true}
use Rattle.std.proofs.lemmas.Option.{same_Some, slice_get-map}
use Rattle.std.proofs.lemmas.Slice.Eq.{bytes_eq-Decides}
use Rattle.std.proofs.lemmas.Map.Keys.{any_passes_from_place}
use Rattle.muen_num.proofs.NumbersBelow.{number_at}
use Rattle.muen_num.proofs.Options.{from_some, one_value}
use Rattle.muen_num.proofs.Lists.{all_at}
use Rattle.muen_num.proofs.Pairs.{first_at}
use Rattle.muen_num.specs.Range.{numbers_below}
use Rattle.image_load.specs.Resolving.{NamedMemory, named_memories_of, memory_of_span, memory_of_window}
use Rattle.image_soundness.specs.Memory.{Span, by_number, span_at}
use Rattle.image_soundness.specs.Named.{tag_at}
use Rattle.image_soundness.specs.Sound.{IsDeviceOf, IsSound, IsSpanOf, is_kernel, kind_of, thing_spans}
use Rattle.image_pack.specs.Codes.{is_device, part_name}
use Rattle.image_pack.specs.ImageConditions.{KeepsConditions}
use Rattle.image_pack.specs.SpanConditions.{IsSpan}
use Rattle.image_pack.specs.declared.parts.DevicePart.{DevicePart}
use Rattle.image_pack.specs.declared.parts.Image.{Image}
use Rattle.image_pack.specs.declared.parts.SpanKind.{SpanKind}
use Rattle.image_pack.specs.declared.parts.SpanKind.TheVariants.{Own, Channel as ChannelKind, Provided as ProvidedKind, Kernel, Device as DeviceKind}
use Rattle.image_pack.specs.declared.parts.SpanPart.{SpanPart}
use Rattle.image_pack.specs.declared.parts.WindowPart.{WindowPart}
use Rattle.muen_num.specs.declared.tag.Tag.{Tag}
use Rattle.policy_lawful.specs.Contents.{Held}
use Rattle.policy_lawful.specs.Thing.{Thing, device_memory, same_thing, things_of, thing_tag}
use Rattle.policy_lawful.specs.source.Device.{Device}
use Rattle.policy_lawful.specs.source.DeviceMemory.{DeviceMemory}
use Rattle.policy_lawful.specs.source.Source.{Source}
use Rattle.record_text.specs.Bench.{BenchDevice}
use Rattle.policy_lawful.proofs.SameThings.{same_thing_self}
use Rattle.proof_start.specs.GroundOf.{ground_of}
use Rattle.muen_num.proofs.Indexed.{filtered_there, found_at, kept_there}
use Rattle.proof_start.proofs.SpanPages.{by_its_number, span_with}
use Rattle.proof_start.proofs.OnceFacts.{thing_once}
use Rattle.proof_start.proofs.SpansOfThings.{listed_span, thing_by}
use Rattle.proof_runs.proofs.BenchGround.{HasMemories, IsThing}
use Rattle.proof_runs.proofs.SameBench.{memory_from}

-- ---- what stands once in a list

-- it stands at one index at most
abbrev Once : {X : Type 0} → List X → X → Type 0
Once xs x = (n m : ℕ) → slice_get xs n ≡ Some x → slice_get xs m ≡ Some x → n ≡ m

-- ---- the span of a thing that stands once

-- where a thing lies, and how long it is
record LiesAt (p : Source) (i : Image) (x : Thing) (s : SpanPart) : Type 0 where
  first : (ground_of p i).first x ≡ s.address / 4096
  pages : (ground_of p i).pages x ≡ s.pages

-- a span with the tag and the kind of a thing that stands once is the thing's
lies_at : (p : Source) (files : Held) (i : Image) → KeepsConditions i → IsSound p files i → (x : Thing) → Once (things_of p) x → is_kernel (kind_of x) ≡ false
    → (a : ℕ) (s : SpanPart) → slice_get i.spans a ≡ Some s → s.tag ≡ thing_tag x → s.kind ≡ kind_of x → LiesAt p i x s
unfolding by_number
lies_at p files i keeps sound x once other a s here tagged kind =
    let b = span_with i keeps a s here in
    let e : Span = (s, b.0) in
    let low : s.number < length i.spans = all_at (λ (u : SpanPart). u.number < length i.spans) i.spans a s keeps.spans.numbered here in
    let found : span_at i s.number ≡ Some e = by_its_number i keeps s.number e b.1 refl in
    let among = kept_there (span_at i) (numbers_below (length i.spans)) s.number s.number e (number_at (length i.spans) s.number low) found in
    let listed = filtered_there (λ (u : Span). not (is_kernel u.0.kind)) (by_number i) among.0 e among.1 (ap (λ k. not (is_kernel k)) kind ∙ ap not other) in
    let of_thing = first_at (IsSpanOf p files) (things_of p) (thing_spans i) listed.0 e sound.contents listed.1 in
    let same : of_thing.0 ≡ x = thing_by of_thing.0 x (sym of_thing.2.tag ∙ tagged) (sym of_thing.2.kind ∙ kind) in
    let at : slice_get (things_of p) listed.0 ≡ Some x = of_thing.1 ∙ ap Some same in
    let t = listed_span p files i keeps sound x (any_passes_from_place (λ y. same_thing y x) (things_of p) listed.0 x at (same_thing_self x)) in
    let index : listed.0 ≡ t.number = once listed.0 t.number at t.listed in
    let is : e ≡ t.span = one_value (slice_get (thing_spans i) t.number) e t.span (ap (slice_get (thing_spans i)) (sym index) ∙ listed.1) t.numbered in
    record { first = t.first ∙ ap (λ (u : Span). u.0.address / 4096) (sym is); pages = t.pages ∙ ap (λ (u : Span). u.0.pages) (sym is) }

-- ---- the window of a memory

-- an element that something is made of
record MadeOf {X Y : Type 0} (f : X → Option Y) (xs : List X) (y : Y) : Type 0 where
  index : ℕ
  one : X
  here : slice_get xs index ≡ Some one
  made : f one ≡ Some y

made_of : {X Y : Type 0} (f : X → Option Y) (xs : List X) (n : ℕ) (y : Y) → slice_get (flat_map (λ x. option_to_list (f x)) xs) n ≡ Some y → MadeOf f xs y
made_of f [] n y a = absurd (cc)
made_of {X} {Y} f (x ∷ xs) n y a = by_first (f x) refl (λ n. made_of f xs n y) n a
  where
    by_first : (o : Option Y) → f x ≡ o → ((n : ℕ) → slice_get (flat_map (λ x. option_to_list (f x)) xs) n ≡ Some y → MadeOf f xs y)
        → (n : ℕ) → slice_get (option_to_list o ++ flat_map (λ x. option_to_list (f x)) xs) n ≡ Some y → MadeOf f (x ∷ xs) y
    by_first None e later n a = let r = later n a in record { index = suc r.index; one = r.one; here = r.here; made = r.made }
    by_first (Some z) e later zero a = record { index = 0; one = x; here = refl; made = e ∙ a }
    by_first (Some z) e later (suc n) a = let r = later n a in record { index = suc r.index; one = r.one; here = r.here; made = r.made }

-- the memory is that of a device's span
record ShowsMemory (s : SpanPart) (m : NamedMemory) : Type 0 where
  device : is_device s.kind ≡ true
  named : part_name s.tag.part ≡ Some m.name
  address : m.address ≡ s.address
  bytes : m.bytes ≡ 4096 * s.pages

shows_by : (s : SpanPart) (m : NamedMemory) (b : Bool) (o : Option (List ℕ)) → is_device s.kind ≡ b → part_name s.tag.part ≡ o
    → option_map (memory_from s) (if b then o else None) ≡ Some m → ShowsMemory s m
shows_by s m true (Some text) kind part h =
    let e : memory_from s text ≡ m = same_Some (memory_from s text) m h in
    record {
      device = kind;
      named = part ∙ ap (λ (u : NamedMemory). Some u.name) e;
      address = sym (ap (λ (u : NamedMemory). u.address) e);
      bytes = sym (ap (λ (u : NamedMemory). u.bytes) e);
    }
shows_by s m true None kind part h = absurd (cc (h))
shows_by s m false o kind part h = absurd (cc (h))

shows_memory : (s : SpanPart) (m : NamedMemory) → memory_of_span s ≡ Some m → ShowsMemory s m
shows_memory s m h = shows_by s m (is_device s.kind) (part_name s.tag.part) refl refl h

-- what a window shows is the memory of the span that its number finds
shown_by : (o : Option SpanPart) (m : NamedMemory) → option_and_then memory_of_span o ≡ Some m → (s : SpanPart) × (o ≡ Some s) × ShowsMemory s m
shown_by None m h = absurd (cc (h))
shown_by (Some s) m h = (s, refl, shows_memory s m h)

device_kind : (k : SpanKind) → is_device k ≡ true → k ≡ DeviceKind
device_kind Own h = absurd (false≢true h)
device_kind ChannelKind h = absurd (false≢true h)
device_kind ProvidedKind h = absurd (false≢true h)
device_kind Kernel h = absurd (false≢true h)
device_kind DeviceKind h = refl

-- ---- the device of the policy

-- a device of the image with the policy's at the same index
record DeviceAt (p : Source) (i : Image) (device : List ℕ) (d : DevicePart) : Type 0 where
  one : Device
  is : IsDeviceOf p i one d
  named : one.name ≡ device

device_at : (p : Source) (files : Held) (i : Image) → IsSound p files i → (device : List ℕ) (d : DevicePart) → find (λ d. bytes_eq d.name device) i.devices ≡ Some d
    → DeviceAt p i device d
device_at p files i sound device d found =
    let f = found_at (λ (d : DevicePart). bytes_eq d.name device) i.devices d found in
    let x = first_at (IsDeviceOf p i) p.devices i.devices f.index d sound.plan_and_events.devices f.here in
    let name : d.name ≡ x.0.name = ap (λ (b : BenchDevice). b.name) x.2.may in
    record { one = x.0; is = x.2; named = sym name ∙ (bytes_eq-Decides d.name device).0 f.passes }

-- ---- the memory of the policy

-- the tag that a window of the device has, by the name of a memory of the policy's
window_tag : (p : Source) (i : Image) (x : Device) (d : DevicePart) → IsDeviceOf p i x d → (j : ℕ) (w : WindowPart) → slice_get d.windows j ≡ Some w
    → (m : DeviceMemory) × (tag_at i w.span ≡ Some (thing_tag (device_memory x.name m.name)))
window_tag p i x d is j w here =
    let tag_of : DeviceMemory → Option Tag = λ m. Some (thing_tag (device_memory x.name m.name)) in
    let tag_in : WindowPart → Option Tag = λ w. tag_at i w.span in
    let o = from_some tag_of (slice_get x.memory j) (tag_at i w.span)
    (sym (slice_get-map tag_of x.memory j) ∙ ap (λ ts. slice_get ts j) (sym is.windows) ∙ slice_get-map tag_in d.windows j ∙ ap (option_map tag_in) here) in
    (o.0, sym o.2)

-- the tag of the span that a number finds
found_tag : (i : Image) → KeepsConditions i → (n a : ℕ) (s : SpanPart) → slice_get i.spans a ≡ Some s → s.number ≡ n → tag_at i n ≡ Some s.tag
found_tag i keeps n a s here is =
    let b = span_with i keeps a s here in
    let e : Span = (s, b.0) in
    ap (option_map (λ (u : Span). u.0.tag)) (by_its_number i keeps n e b.1 is)

-- a tag of a device's memory, by its names
named_tag : (device memory a b name : List ℕ) (t : Tag) → t ≡ thing_tag (device_memory a b) → a ≡ device → part_name t.part ≡ Some name → name ≡ memory
    → t ≡ thing_tag (device_memory device memory)
named_tag device memory a b name t e owner part is =
    let text : b ≡ name = same_Some b name (sym (ap (λ (u : Tag). part_name u.part) e) ∙ part) in
    e ∙ ap₂ (λ x y. thing_tag (device_memory x y)) owner (text ∙ is)

whole_pages : (n : ℕ) → n % 4096 ≡ 0 → n ≡ 4096 * (n / 4096)
whole_pages n h = omega (arith, h)

is_thing : (p : Source) (i : Image) (device memory : List ℕ) (s : SpanPart) (m : NamedMemory) → s.address % 4096 ≡ 0 → ShowsMemory s m
    → LiesAt p i (device_memory device memory) s → IsThing (ground_of p i) device memory m
is_thing p i device memory s m aligned shown lies = record {
  address = shown.address ∙ whole_pages s.address aligned ∙ ap (λ n. 4096 * n) (sym lies.first);
  bytes = shown.bytes ∙ ap (λ n. 4096 * n) (sym lies.pages);
}

-- ---- the whole

-- a memory of a sound image's device lies where the policy's thing of these names does, and is as long
pub memories_of_image : (p : Source) (files : Held) (i : Image) → KeepsConditions i → IsSound p files i → HasMemories (ground_of p i) i
memories_of_image p files i keeps sound device memory d m found found_memory =
    let x = device_at p files i sound device d found in
    let f = found_at (λ (m : NamedMemory). bytes_eq m.name memory) (named_memories_of i.spans d) m found_memory in
    let w = made_of (memory_of_window i.spans) d.windows f.index m f.here in
    let s = shown_by (find (λ (s : SpanPart). s.number == w.one.span) i.spans) m w.made in
    let at = found_at (λ (s : SpanPart). s.number == w.one.span) i.spans s.0 s.1 in
    let number : s.0.number ≡ w.one.span = eqb-true s.0.number w.one.span at.passes in
    let tag = window_tag p i x.one d x.is w.index w.one w.here in
    let tagged : s.0.tag ≡ thing_tag (device_memory x.one.name tag.0.name) =
    same_Some s.0.tag (thing_tag (device_memory x.one.name tag.0.name)) (sym (found_tag i keeps w.one.span at.index s.0 at.here number) ∙ tag.1) in
    let memory_name : m.name ≡ memory = (bytes_eq-Decides m.name memory).0 f.passes in
    let is_tag = named_tag device memory x.one.name tag.0.name m.name s.0.tag tagged x.named s.2.named memory_name in
    let aligned = (all_at IsSpan i.spans at.index s.0 keeps.spans.each at.here).aligned in
    is_thing p i device memory s.0 m aligned s.2
    (lies_at p files i keeps sound (device_memory device memory) (thing_once p sound.lawful (device_memory device memory)) refl at.index s.0 at.here is_tag (device_kind s.0.kind s.2.device))
