use Rattle.std.proofs.Common.{◌≡◌, ◌∙◌, IfOk, List, ap, map, sym, subst}
use Rattle.std.specs.List.{zip}
use Rattle.machine_layout.specs.Memory.{Page}
use Rattle.phys_mem.specs.Found.{frames_kept}
use Rattle.phys_mem.specs.Spans.{AreSpans, pages_of_spans}
use Rattle.image_pack.specs.Parts.{IsParts}
use Rattle.image_pack.specs.declared.parts.SpanPart.{SpanPart}
use Rattle.image_memory.specs.Memory.{memory_of, memory_span}
use Rattle.image_memory.proofs.Rising.{parts_load}
use Rattle.image_memory.proofs.memory.memory_of.Goals as goal

pub start-requires : goal.start-requires
start-requires c =
    let i = c.into_image-image.result in
    subst AreSpans (sym (c.in_ok-memory.ensures ∙ ap (λ (ss : List SpanPart). map memory_span (zip ss i.contents)) c.items.ensures))
    (parts_load i (subst IsParts (sym c.into_image-image.ensures.same) c.into_image-image.ensures.parts))

pub returns : goal.returns
returns c =
    let i = c.into_image-image.result in
    subst (λ (ps : List Page). IfOk c.start.result (λ m. frames_kept m ≡ ps))
    (ap pages_of_spans (c.in_ok-memory.ensures ∙ ap (λ (ss : List SpanPart). map memory_span (zip ss i.contents)) c.items.ensures) ∙ ap memory_of c.into_image-image.ensures.same)
    c.start.ensures
