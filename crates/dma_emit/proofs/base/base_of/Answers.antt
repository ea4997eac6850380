use Rattle.std.proofs.Common.{◌≡◌, ◌+◌, ◌*◌, ◌%◌, ◌≤◌, All, sym, ap, ◌∙◌, subst, arith}
use Rattle.std.specs.List.{sum_by}
use Rattle.std.proofs.lemmas.List.Elements.{All-weaker}
use Rattle.dma_emit.specs.Base.{IsLowestFree}
use Rattle.dma_emit.proofs.Extents.{IsWhole, all_whole, room}
use Rattle.dma_emit.proofs.base.base_of.Goals as goal
use Rattle.muen_num.specs.declared.limits.TheConstants.{PAGE, PHYSICAL_END}
use Rattle.policy_lawful.specs.Resolution.{source_of}
use Rattle.policy_lawful.specs.Rules.{extents_of}

pub lowest_free-requires-clause-aligned : goal.lowest_free-requires-clause-aligned
lowest_free-requires-clause-aligned c =
    let p = source_of c.args.placed.now.expanded.lawful in
    let is = c.resolved.ensures.value ∙ c.lawful.ensures ∙ ap (λ x. x.lawful) c.expanded.ensures.value in
    let extents = c.deref.ensures.value ∙ c.in_ok-extents.ensures ∙ ap (λ r. extents_of (source_of r)) is in
    subst (All (λ e. (e.address + e.size) % PAGE ≡ 0)) (sym extents) (All-weaker IsWhole (λ e. (e.address + e.size) % PAGE ≡ 0) (λ e h. h.aligned) (extents_of p) (all_whole p c.expanded.ensures.placed.lawful))

pub lowest_free-requires-clause-ends : goal.lowest_free-requires-clause-ends
lowest_free-requires-clause-ends c =
    let p = source_of c.args.placed.now.expanded.lawful in
    let is = c.resolved.ensures.value ∙ c.lawful.ensures ∙ ap (λ x. x.lawful) c.expanded.ensures.value in
    let extents = c.deref.ensures.value ∙ c.in_ok-extents.ensures ∙ ap (λ r. extents_of (source_of r)) is in
    subst (All (λ e. e.address + e.size ≤ PHYSICAL_END)) (sym extents) (All-weaker IsWhole (λ e. e.address + e.size ≤ PHYSICAL_END) (λ e h. h.low) (extents_of p) (all_whole p c.expanded.ensures.placed.lawful))

pub lowest_free-requires-clause-room : goal.lowest_free-requires-clause-room
lowest_free-requires-clause-room c =
    let p = source_of c.args.placed.now.expanded.lawful in
    let is = c.resolved.ensures.value ∙ c.lawful.ensures ∙ ap (λ x. x.lawful) c.expanded.ensures.value in
    let extents = c.deref.ensures.value ∙ c.in_ok-extents.ensures ∙ ap (λ r. extents_of (source_of r)) is in
    subst (λ es. sum_by (λ e. e.size + PAGE * c.args.pages) es + PAGE * c.args.pages ≤ PHYSICAL_END) (sym extents) (room p (PAGE * c.args.pages) c.expanded.ensures.placed.lawful (omega arith))

pub returns-clause-base : goal.returns-clause-base
returns-clause-base c =
    let is = c.resolved.ensures.value ∙ c.lawful.ensures ∙ ap (λ x. x.lawful) c.expanded.ensures.value in
    let extents = c.deref.ensures.value ∙ c.in_ok-extents.ensures ∙ ap (λ r. extents_of (source_of r)) is in
    subst (λ es. IsLowestFree es (PAGE * c.args.pages) c.lowest_free.result) extents c.lowest_free.ensures.lowest
