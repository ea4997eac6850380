use Rattle.std.proofs.Common.{arith, refl, sym, ◌∙◌, Some, None}
use Rattle.muen_num.proofs.FirstSteps.{first_step}
use Rattle.muen_num.proofs.searches.first.Goals as goal

pub returns-in-Some : goal.returns-in-Some
returns-in-Some g c = λ h says.
    let answer = says c.x-item.result (Some c.in-Some.answer) (record { shown = _; shows = refl; says = record { met = c.in-Some.ensures } }) in
    sym (first_step h c.args.items.now c.loop-x.x-index c.x-item.result (Some c.in-Some.answer) (omega arith) c.x-item.is answer) ∙ c.loop-x.invariant h says

pub loop-x-preserved : goal.loop-x-preserved
loop-x-preserved g c = λ h says.
    let answer = says c.x-item.result None (record { shown = _; shows = refl; says = record { met = c.in-None.ensures } }) in
    sym (first_step h c.args.items.now c.loop-x.x-index c.x-item.result None (omega arith) c.x-item.is answer) ∙ c.loop-x.invariant h says
