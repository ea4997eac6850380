use Rattle.std.proofs.Common.{◌∙◌, ap, subst, sym, List}
use Rattle.std.specs.List.{All}
use Rattle.image_checks.proofs.SubjectsTold.{are_full}
use Rattle.image_checks.proofs.events.subject_fault.Goals as goal
use Rattle.image_checks.specs.Agreement.{IsFull}
use Rattle.image_pack.specs.declared.parts.Image.{Image}
use Rattle.image_pack.specs.declared.parts.SubjectPart.{SubjectPart}

pub first_other-requires-clause-full : goal.first_other-requires-clause-full
first_other-requires-clause-full c =
    subst (λ (qs : List SubjectPart). All IsFull qs) (sym (c.items-parts.ensures ∙ ap (λ (i : Image). i.subjects) c.image.ensures.same))
    (are_full c.args.image.now c.image.ensures.parts)
