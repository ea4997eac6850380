-- What the kernel's regions for a subject are in the image: their spans and what these hold, by number.
use Rattle.std.proofs.Common.{◌≡◌, ℕ, zero, suc, ◌+◌, ◌-◌, ◌*◌, ◌≤◌, List, [], ◌∷◌, length, get_or, take, replicate, Option, Some, refl, ap, ◌∙◌, arith, length-append}
use Rattle.std.specs.Prelude.{slice_get}
use Rattle.std.specs.Option.{option_map_or}
use Rattle.std.specs.List.{flat_map}
use Rattle.std.proofs.lemmas.List.{length-replicate}
use Rattle.std.proofs.lemmas.Option.{get_or_from_slice_get, slice_get_within}
use Rattle.ept_emit.specs.Pages.{ept_pages}
use Rattle.event_emit.specs.declared.event_tables.EventTables.{EventTables}
use Rattle.expand_kernel.specs.granted.Grants.{Grants}
use Rattle.expand_kernel.specs.ByIndex.{granted_ranges, kernel_first}
use Rattle.expand_kernel.specs.Regions.{anywhere, kernel_regions}
use Rattle.expand_kernel.specs.thing.RegionKind.TheVariants.{Kernel}
use Rattle.image_emit.specs.Made.{IsMade, Made, content_at, image_of, kernel_bytes, policy_of, region_bytes}
use Rattle.image_emit.proofs.ByNumber.{span_numbered}
use Rattle.image_emit.proofs.BySubject.{IsAtIndex}
use Rattle.image_emit.proofs.SpansAt.{region_at}
use Rattle.image_soundness.specs.Memory.{Span, bytes_at, bytes_of}
use Rattle.image_pack.specs.declared.parts.SpanPart.{SpanPart}
use Rattle.muen_num.proofs.Lists.{get_right}
use Rattle.muen_num.specs.declared.tag.TagPart.{TagPart}
use Rattle.image_soundness.specs.PageFields.{padded}
use Rattle.policy_lawful.specs.declared.resolved.Subject.{Subject}
use Rattle.region_alloc.specs.Placed.{IsPlaced}
use Rattle.span_emit.specs.Spans.{region_span}
use Rattle.span_emit.specs.SpansOf.{spans_of}
use Rattle.subject_emit.specs.declared.subject_pages.SubjectPages.{SubjectPages}
use Rattle.expand_kernel.proofs.Pieces.{at_piece}
use Rattle.subject_emit.proofs.TablesReady.{kernel_at}

-- what is padded is as long
pub padded_length : (size : ℕ) (bytes : List ℕ) → length bytes ≤ size → length (padded size bytes) ≡ size
unfolding padded
padded_length size bytes l = omega (arith, l, length-append bytes (replicate (size - length bytes) 0), length-replicate {A = ℕ} (size - length bytes) 0)

pub placed_of : (m : Made) → IsMade m → IsPlaced m.placed
placed_of m h = record {
  resolved = h.resolved;
  lawful = h.lawful;
  expansion = h.expansion;
  placement = h.placement;
  inside = h.inside;
  disjoint = h.disjoint;
}

-- ---- what they hold

five_each : (k : ℕ) (qs : List SubjectPages) → k ≤ length qs → length (flat_map kernel_bytes (take k qs)) ≡ 5 * k
five_each zero qs l = refl
five_each (suc k) [] l = absurd (omega (arith, l))
five_each (suc k) (q ∷ qs) l =
    let rest = five_each k qs (omega (arith, l)) in
    omega (arith, length-append (kernel_bytes q) (flat_map kernel_bytes (take k qs)), rest)

kernel_held : (m : Made) → IsMade m → (k c : ℕ) (q : SubjectPages) (bytes : List ℕ) → slice_get m.pages k ≡ Some q → slice_get (kernel_bytes q) c ≡ Some bytes → slice_get (region_bytes m) (kernel_first (policy_of m) k + c) ≡ Some bytes
kernel_held m h k c q bytes at e =
    let within = slice_get_within m.pages k q at in
    let before = five_each k m.pages (omega (arith, within)) in
    let number : kernel_first (policy_of m) k + c ≡ length m.things + (length (flat_map kernel_bytes (take k m.pages)) + c) = omega (arith, h.filled.many, before) in
    ap (slice_get (region_bytes m)) number
    ∙ get_right m.things (flat_map kernel_bytes m.pages) (length (flat_map kernel_bytes (take k m.pages)) + c)
    ∙ at_piece kernel_bytes m.pages k c q bytes at e

-- ---- of a subject

module _ (m : Made) (h : IsMade m) (k : ℕ) (s : Subject) (g : Grants) (t : EventTables) (q : SubjectPages) (at : IsAtIndex m k s g t q) where
  abbrev pub kernel_span : (c : ℕ) → ℕ → TagPart → SpanPart
  kernel_span c size part = region_span (kernel_first (policy_of m) k + c, (anywhere Kernel s.name part size, get_or m.placed.addresses (kernel_first (policy_of m) k + c) 0))

  -- the span of this number among those of the kernel for the subject
  pub kernel_numbered : (c size : ℕ) (part : TagPart) → slice_get (kernel_regions s.name (ept_pages (granted_ranges g.windows))) c ≡ Some (anywhere Kernel s.name part size)
      → slice_get (spans_of m.placed) (kernel_first (policy_of m) k + c) ≡ Some (kernel_span c size part)
  kernel_numbered c size part e =
      region_at m h (kernel_first (policy_of m) k + c) (anywhere Kernel s.name part size)
      (kernel_at m.placed (placed_of m h) k c s g (anywhere Kernel s.name part size) at.subject at.granted e)

  -- has these bytes in the image
  pub kernel_content : (c size : ℕ) (part : TagPart) (bytes : List ℕ) → slice_get (kernel_bytes q) c ≡ Some bytes → bytes_of (kernel_span c size part, content_at m (kernel_span c size part)) ≡ bytes
  kernel_content c size part bytes e =
      get_or_from_slice_get (region_bytes m) (kernel_first (policy_of m) k + c) bytes [] (kernel_held m h k c q bytes at.kept e)

  pub kernel_bytes_at : (c size : ℕ) (part : TagPart) (bytes : List ℕ) → slice_get (kernel_regions s.name (ept_pages (granted_ranges g.windows))) c ≡ Some (anywhere Kernel s.name part size) → slice_get (kernel_bytes q) c ≡ Some bytes
      → bytes_at (image_of m) (kernel_first (policy_of m) k + c) ≡ bytes
  kernel_bytes_at c size part bytes e b =
      ap (λ (o : Option Span). option_map_or bytes_of o []) (span_numbered m h (kernel_first (policy_of m) k + c) (kernel_span c size part) (kernel_numbered c size part e))
      ∙ kernel_content c size part bytes b
