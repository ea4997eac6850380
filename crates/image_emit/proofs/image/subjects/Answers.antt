use Rattle.std.proofs.Common.{◌∙◌, ap, length}
use Rattle.std.proofs.lemmas.Slice.Zip.{AllZip-long}
use Rattle.image_emit.proofs.image.subjects.Goals as goal

pub subject_parts-requires-clause-as_many : goal.subject_parts-requires-clause-as_many
subject_parts-requires-clause-as_many c = AllZip-long _ _ _ c.in_ok-events.ensures ∙ ap (λ x. length x.lawful.subjects) c.expanded.ensures.value
