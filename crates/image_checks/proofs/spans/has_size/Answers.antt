use Rattle.image_checks.proofs.SpansTold.{no_size, some_size}
use Rattle.image_checks.proofs.spans.has_size.Goals as goal

pub returns-in-None : goal.returns-in-None
returns-in-None c =
    no_size c.args.image.now c.args.number c.requires c.items.result.now c.items.ensures (rw (c.in-None.is, c.from.ensures) at c.span_numbered.ensures) c.args.size

pub returns-in-Some : goal.returns-in-Some
returns-in-Some c =
    some_size c.args.image.now c.args.number c.requires c.items.result.now c.items.ensures c.in-Some.span.now (rw (c.in-Some.is, c.from.ensures) at c.span_numbered.ensures)
    c.size_of.result c.args.size c.size_of.ensures
