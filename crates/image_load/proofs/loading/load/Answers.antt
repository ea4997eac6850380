use Rattle.std.proofs.Common.{◌∙◌, List, ap, map, sym, subst}
use Rattle.phys_mem.specs.Spans.{AreSpans}
use Rattle.image_pack.specs.Parts.{IsParts}
use Rattle.image_pack.specs.declared.parts.SpanPart.{SpanPart}
use Rattle.std.specs.List.{zip}
use Rattle.image_memory.specs.Memory.{AreLow, memory_span}
use Rattle.image_memory.proofs.Rising.{parts_load, parts_low}
use Rattle.image_load.proofs.loading.load.Goals as goal

pub setup_of-requires : goal.setup_of-requires
setup_of-requires c =
    subst AreLow (sym c.items.ensures) (parts_low c.into_image-image.result (subst IsParts (sym c.into_image-image.ensures.same) c.into_image-image.ensures.parts))

pub returns-clause-apart : goal.returns-clause-apart
returns-clause-apart c =
    let i = c.into_image-image.result in
    subst AreSpans (sym (c.in_ok-memory.ensures ∙ ap (λ (ss : List SpanPart). map memory_span (zip ss i.contents)) c.items-2.ensures))
    (parts_load i (subst IsParts (sym c.into_image-image.ensures.same) c.into_image-image.ensures.parts))
