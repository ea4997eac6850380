use Rattle.std.proofs.Common.{◌∙◌, ◌==◌, ◌<◌, ℕ, List, length, arith, ap₂, rules}
use Rattle.std.specs.List.{find, zip}
use Rattle.image_checks.proofs.PageLaws.{no_span, span_here}
use Rattle.image_pack.specs.declared.parts.SpanPart.{SpanPart}
use Rattle.image_checks.proofs.span_pages.span_at.Goals as goal

pub returns-then-span-number : goal.returns-then-span-number
returns-then-span-number c =
    let k = c.loop-index.index in
    let l : k < length c.items-spans.result.now = omega (arith, c.min-index-end.ensures) in
    let m : k < length c.items-contents.result.now = omega (arith, c.min-index-end.ensures) in
    span_here c.items-spans.result.now c.items-contents.result.now c.args.number k c.index-spans-index.result c.index-contents-index.result l m c.index-spans-index.is c.index-contents-index.is (search rules) c.loop-index.invariant
    ∙ ap₂ (λ (xs : List SpanPart) (ys : List (List ℕ)). find (λ (e : SpanPart × List ℕ). e.0.number == c.args.number) (zip xs ys)) c.items-spans.ensures c.items-contents.ensures

pub returns : goal.returns
returns c =
    no_span c.items-spans.result.now c.items-contents.result.now c.args.number c.loop-index.index (omega (arith, c.min-index-end.ensures)) c.loop-index.invariant
    ∙ ap₂ (λ (xs : List SpanPart) (ys : List (List ℕ)). find (λ (e : SpanPart × List ℕ). e.0.number == c.args.number) (zip xs ys)) c.items-spans.ensures c.items-contents.ensures
