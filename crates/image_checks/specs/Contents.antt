-- When a span is that of a thing of the policy, and the first that isn't (this project's own format).
use Rattle.std.specs.Prelude.{◌≡◌, ℕ, ◌*◌, ◌<◌, ◌==◌, List, length, position, slice_get, Option, Some, None, option_and_then, if◌then◌else◌}
use Rattle.std.specs.Option.{option_map_or}
use Rattle.std.specs.List.{filter_map}
use Rattle.image_pack.specs.declared.parts.Image.{Image}
use Rattle.image_pack.specs.declared.parts.SpanKind.{SpanKind}
use Rattle.image_pack.specs.declared.parts.SpanKind.TheVariants.{Own, Channel, Provided, Kernel, Device}
use Rattle.image_pack.specs.declared.parts.SpanPart.{SpanPart}
use Rattle.image_soundness.specs.Memory.{Span}
use Rattle.image_soundness.specs.Sound.{AreContents, IsSpanOf, is_kernel, thing_spans}
use Rattle.muen_num.specs.Range.{numbers_below}
use Rattle.muen_num.specs.declared.limits.TheConstants.{PAGE}
use Rattle.policy_lawful.specs.Contents.{Held}
use Rattle.policy_lawful.specs.Thing.{Thing, thing_tag, things_of}
use Rattle.policy_lawful.specs.declared.thing.RegionKind.{RegionKind}
use Rattle.policy_lawful.specs.declared.thing.RegionKind.TheVariants.{Own as OwnRegion, Channel as ChannelRegion, Provided as ProvidedRegion, Device as DeviceRegion, Kernel as KernelRegion}
use Rattle.policy_lawful.specs.declared.thing.Thing.{Thing as NumberedThing}
use Rattle.policy_lawful.specs.source.Source.{Source}

-- ---- which spans there are

abbrev pub unless_kernel : ℕ → SpanPart → Option ℕ
unless_kernel k s = if is_kernel s.kind then None else Some k

-- the index of the span of this number, where there is one that isn't the kernel's
unfoldable pub thing_index : List SpanPart → ℕ → Option ℕ
thing_index spans number =
    option_and_then (λ k. option_and_then (unless_kernel k) (slice_get spans k)) (position (λ s. s.number == number) spans)

-- in the order of the numbers
unfoldable pub thing_indexes : List SpanPart → List ℕ
thing_indexes spans = filter_map (thing_index spans) (numbers_below (length spans))

-- ---- a span that is a thing's

abbrev pub span_kind : RegionKind → SpanKind
span_kind OwnRegion = Own
span_kind ChannelRegion = Channel
span_kind ProvidedRegion = Provided
span_kind DeviceRegion = Device
span_kind KernelRegion = Kernel

-- it has these bytes, where there are some
abbrev pub HasBytes : Option (List ℕ) → List ℕ → Type 0
HasBytes None held = Unit {0}
HasBytes (Some bytes) held = bytes ≡ held

-- it has the name, the kind and the size of the thing, and holds these bytes, where there are some
pub record IsThingSpan (t : NumberedThing) (bytes : Option (List ℕ)) (s : SpanPart) (held : List ℕ) : Type 0 where
  pub tag : t.tag ≡ s.tag
  pub kind : span_kind t.kind ≡ s.kind
  pub size : t.size ≡ PAGE * s.pages
  pub holds : HasBytes bytes held

-- ---- the first that isn't a thing's, by the policy's and the image's meaning

-- the thing of this number has its span
pub record HasSpanAt (p : Source) (files : Held) (i : Image) (k : ℕ) : Type 0 where
  pub thing : Thing
  pub span : Span
  pub is : slice_get (things_of p) k ≡ Some thing
  pub at : slice_get (thing_spans i) k ≡ Some span
  pub of : IsSpanOf p files thing span

-- whose they are: the thing's, where there is one of this number, else the span's
abbrev pub owner_at : Source → Image → ℕ → Option (List ℕ)
owner_at p i k =
    option_map_or (λ x. Some (thing_tag x).owner) (slice_get (things_of p) k)
    (option_map_or (λ e. Some e.0.tag.owner) (slice_get (thing_spans i) k) None)

-- the first number at which there is a thing or a span, and not both of which the one is the other's
pub record IsFirstOther (p : Source) (files : Held) (i : Image) (owner : List ℕ) : Type 0 where
  pub k : ℕ
  pub before : (j : ℕ) → j < k → HasSpanAt p files i j
  pub here : HasSpanAt p files i k → ⊥
  pub is : owner_at p i k ≡ Some owner

-- no fault where the spans are the policy's things; else whose the first is that isn't
abbrev pub IsContentsFault : Source → Held → Image → Option (List ℕ) → Type 0
IsContentsFault p files i None = AreContents p files i
IsContentsFault p files i (Some owner) = IsFirstOther p files i owner
