use Rattle.std.proofs.Common.{arith, sym, ◌∙◌, Some, None}
use Rattle.muen_num.proofs.FirstSteps.{first_numbered_step}
use Rattle.muen_num.proofs.searches.first_numbered.Goals as goal

pub returns-in-Some : goal.returns-in-Some
returns-in-Some g c = λ h says.
    let answer = says c.loop-index.index _ (Some c.in-Some.answer) (omega arith) (record { met = c.in-Some.ensures }) in
    sym (first_numbered_step h c.args.items.now c.loop-index.index c.index-items-index.result (Some c.in-Some.answer) (omega arith) c.index-items-index.is answer)
    ∙ c.loop-index.invariant h says

pub loop-index-preserved : goal.loop-index-preserved
loop-index-preserved g c = λ h says.
    let answer = says c.loop-index.index _ None (omega arith) (record { met = c.in-None.ensures }) in
    sym (first_numbered_step h c.args.items.now c.loop-index.index c.index-items-index.result None (omega arith) c.index-items-index.is answer)
    ∙ c.loop-index.invariant h says
