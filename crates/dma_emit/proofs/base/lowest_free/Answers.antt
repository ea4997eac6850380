use Rattle.std.proofs.Common.{◌≡◌, Some, not, sym, ap, ◌∙◌, arith, option_map}
use Rattle.std.specs.List.{find}
use Rattle.dma_emit.proofs.LowestFree.{ends_free, goes_on, is_beside, not_far}
use Rattle.dma_emit.proofs.base.lowest_free.Goals as goal

pub in_the_way-requires-clause-small : goal.in_the_way-requires-clause-small
in_the_way-requires-clause-small c =
    let far = not_far c.args.extents.now c.args.bytes c.loop-extent.base c.loop-extent.invariant in
    omega (arith, c.requires.room)

pub overflow_add-base : goal.overflow_add-base
overflow_add-base c =
    let found : find (λ e. not (is_beside c.args.bytes c.loop-extent.base e)) c.args.extents.now ≡ Some c.in-Some.extent.now = sym c.in_the_way.ensures ∙ ap (option_map (λ e. e.now)) c.in-Some.is in
    let next = goes_on c.args.extents.now c.args.bytes c.loop-extent.base c.in-Some.extent.now c.requires.aligned c.requires.ends c.loop-extent.invariant found in
    omega (arith, next.end)

pub loop-extent-smaller : goal.loop-extent-smaller
loop-extent-smaller c =
    let found : find (λ e. not (is_beside c.args.bytes c.loop-extent.base e)) c.args.extents.now ≡ Some c.in-Some.extent.now = sym c.in_the_way.ensures ∙ ap (option_map (λ e. e.now)) c.in-Some.is in
    let next = goes_on c.args.extents.now c.args.bytes c.loop-extent.base c.in-Some.extent.now c.requires.aligned c.requires.ends c.loop-extent.invariant found in
    omega (arith, next.end, next.more)

pub loop-extent-preserved : goal.loop-extent-preserved
loop-extent-preserved c =
    let found : find (λ e. not (is_beside c.args.bytes c.loop-extent.base e)) c.args.extents.now ≡ Some c.in-Some.extent.now = sym c.in_the_way.ensures ∙ ap (option_map (λ e. e.now)) c.in-Some.is in
    (goes_on c.args.extents.now c.args.bytes c.loop-extent.base c.in-Some.extent.now c.requires.aligned c.requires.ends c.loop-extent.invariant found).on

pub returns-clause-lowest : goal.returns-clause-lowest
returns-clause-lowest c =
    ends_free c.args.extents.now c.args.bytes c.loop-extent.base c.loop-extent.invariant (sym c.in_the_way.ensures ∙ ap (option_map (λ e. e.now)) c.in_default.is)

pub returns-clause-low : goal.returns-clause-low
returns-clause-low c =
    let far = not_far c.args.extents.now c.args.bytes c.loop-extent.base c.loop-extent.invariant in
    omega (arith, c.requires.room)
