use Rattle.std.proofs.Common.{◌≡◌, [], ◌∷◌, ◌++◌, length, refl, ap, ◌∙◌, rules}
use Rattle.span_emit.specs.Spans.{device_span}
use Rattle.span_emit.proofs.by_number.push_span.Goals as goal

pub returns-clause-spans : goal.returns-clause-spans
returns-clause-spans c =
    let many : c.len-number.result ≡ length c.args.spans.now.items = search rules in
    c.in_ok-push.ensures.items
    ∙ ap (λ s. c.args.spans.now.items ++ s ∷ [])
    (c.device_span.ensures.span c.args.device refl ∙ ap (λ n. device_span (n, (c.args.device, c.args.memory.now))) many)
