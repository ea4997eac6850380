-- The spans of the image, by number, are the policy's regions where its placement has them, and then the devices' memory.
use Rattle.std.proofs.Common.{List, ◌++◌, length, map, ap, ◌∙◌}
use Rattle.std.proofs.lemmas.List.{map-id}
use Rattle.expand_kernel.specs.thing.Region.{Region}
use Rattle.image_emit.specs.Made.{IsMade, Made, content_at, image_of, policy_of}
use Rattle.image_emit.proofs.ByNumber.{by_number_is}
use Rattle.image_pack.specs.declared.parts.SpanPart.{SpanPart}
use Rattle.image_soundness.specs.Memory.{Span}
use Rattle.muen_num.proofs.Lists.{map-map}
use Rattle.policy_lawful.specs.Resolution.{source_of}
use Rattle.proof_build.specs.Built.{HasSpans}
use Rattle.span_emit.specs.Spans.{device_spans, region_spans}
use Rattle.span_emit.specs.SpansOf.{spans_of}

pub spans_by_number : (m : Made) → IsMade m → HasSpans (source_of (policy_of m)) (image_of m)
unfolding spans_of source_of
spans_by_number m h = record {
  addresses = m.placed.addresses;
  are = h.placement;
  spans =
      ap (map (λ (e : Span). e.0)) (by_number_is m h)
      ∙ map-map (λ (e : Span). e.0) (λ (s : SpanPart). (s, content_at m s)) (spans_of m.placed)
      ∙ map-id (spans_of m.placed)
      ∙ ap (λ (ys : List Region). region_spans ys m.placed.addresses ++ device_spans (length ys) (policy_of m).devices) h.expansion.regions;
}
