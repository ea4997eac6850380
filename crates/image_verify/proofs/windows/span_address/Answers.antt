use Rattle.std.proofs.Common.{ap, ◌∙◌}
use Rattle.std.specs.Prelude.{◌==◌}
use Rattle.std.specs.List.{find}
use Rattle.image_verify.proofs.SpanAddresses.{span_lies}
use Rattle.image_verify.proofs.windows.span_address.Goals as goal

pub returns-in-None : goal.returns-in-None
returns-in-None c =
    let is = c.span_numbered.ensures ∙ ap (find (λ s. s.number == c.args.number)) (c.items.ensures ∙ ap (λ i. i.spans) c.image.ensures.same) in
    span_lies c.args.image.now c.image.ensures.parts c.args.number _ (rw c.in-None.is at is)

pub returns-in-Some : goal.returns-in-Some
returns-in-Some c =
    let is = c.span_numbered.ensures ∙ ap (find (λ s. s.number == c.args.number)) (c.items.ensures ∙ ap (λ i. i.spans) c.image.ensures.same) in
    span_lies c.args.image.now c.image.ensures.parts c.args.number _ (rw c.in-Some.is at is)
