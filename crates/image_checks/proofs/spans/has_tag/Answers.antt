use Rattle.std.proofs.lemmas.Bool.Decides.{Decides-at}
use Rattle.image_checks.proofs.Equal.{tag_tells}
use Rattle.image_checks.proofs.SpansTold.{no_tag, some_tag}
use Rattle.image_checks.proofs.spans.has_tag.Goals as goal

pub returns-in-None : goal.returns-in-None
returns-in-None c =
    no_tag c.args.image.now c.args.number c.requires c.items.result.now c.items.ensures (rw (c.in-None.is, c.from.ensures) at c.span_numbered.ensures) c.args.tag.now

pub returns-in-Some : goal.returns-in-Some
returns-in-Some c =
    some_tag c.args.image.now c.args.number c.requires c.items.result.now c.items.ensures c.in-Some.span.now (rw (c.in-Some.is, c.from.ensures) at c.span_numbered.ensures)
    c.args.tag.now c.eq.result (Decides-at c.eq.result _ c.eq.ensures (tag_tells c.in-Some.span.now.tag c.args.tag.now))
