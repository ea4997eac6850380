use Rattle.std.proofs.Common.{◌≡◌, ℕ, get_or, map, ap, ◌∙◌, arith}
use Rattle.std.proofs.lemmas.List.{take_all}
use Rattle.image_checks.proofs.SpansOfNumbers.{no_span}
use Rattle.image_verify.proofs.SpanAddresses.{addresses_are}
use Rattle.image_verify.proofs.windows.thing_addresses.Goals as goal

pub returns : goal.returns
returns c =
    let address : ℕ → ℕ = λ k. (get_or c.items-spans.result.now k no_span).address in
    let done = c.loop-index-test.false in
    let all : c.loop-index.addresses.items ≡ map address c.in_ok-indexes.indexes.items =
    c.loop-index.invariant ∙ ap (map address) (take_all c.loop-index.index-index c.deref-index-items.result.now (omega (arith, done)) ∙ c.deref-index-items.ensures.value) in
    addresses_are c.args.image.now c.image.ensures.parts c.items-spans.result.now c.in_ok-indexes.indexes.items c.loop-index.addresses.items
    (c.items-spans.ensures ∙ ap (λ i. i.spans) c.image.ensures.same) c.in_ok-indexes.ensures.value all
