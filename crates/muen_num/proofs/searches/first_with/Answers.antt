use Rattle.std.proofs.Common.{arith, refl, sym, ◌∙◌, Some, None}
use Rattle.std.proofs.lemmas.List.{at_drop_all}
use Rattle.muen_num.specs.Search.{first_in}
use Rattle.muen_num.proofs.FirstSteps.{first_step}
use Rattle.muen_num.proofs.searches.first_with.Goals as goal

pub returns-in-Some : goal.returns-in-Some
returns-in-Some g c = λ h says.
    let answer = says c.x-item.result c.args.later.now (Some c.in-Some.answer) (record { first = _; second = _; shows = (refl, refl); says = record { met = c.in-Some.ensures } }) in
    sym (first_step (λ x. h x c.args.later.now) c.args.before.now c.loop-x.x-index c.x-item.result (Some c.in-Some.answer) (omega arith) c.x-item.is answer) ∙ c.loop-x.invariant h says

pub loop-x-preserved : goal.loop-x-preserved
loop-x-preserved g c = λ h says.
    let answer = says c.x-item.result c.args.later.now None (record { first = _; second = _; shows = (refl, refl); says = record { met = c.in-None.ensures } }) in
    sym (first_step (λ x. h x c.args.later.now) c.args.before.now c.loop-x.x-index c.x-item.result None (omega arith) c.x-item.is answer) ∙ c.loop-x.invariant h says

pub returns : goal.returns
returns g c = λ h says. sym (at_drop_all (first_in (λ x. h x c.args.later.now)) c.args.before.now c.loop-x.x-index (omega arith)) ∙ c.loop-x.invariant h says
