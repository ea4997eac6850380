use Rattle.std.proofs.Common.{arith, sym, ◌∙◌, Some, None}
use Rattle.muen_num.specs.Search.{first_in}
use Rattle.muen_num.proofs.FirstSteps.{first_after_step}
use Rattle.muen_num.proofs.searches.first_pair.Goals as goal

pub returns-in-Some : goal.returns-in-Some
returns-in-Some g c = λ h says.
    sym (first_after_step (λ before x. first_in (λ b. h b x) before) c.args.items.now c.loop-index.index c.index-items-index.result (Some c.in-Some.answer) (omega arith) c.index-items-index.is (c.in-Some.ensures h says))
    ∙ c.loop-index.invariant h says

pub loop-index-preserved : goal.loop-index-preserved
loop-index-preserved g c = λ h says.
    sym (first_after_step (λ before x. first_in (λ b. h b x) before) c.args.items.now c.loop-index.index c.index-items-index.result None (omega arith) c.index-items-index.is (c.in-None.ensures h says))
    ∙ c.loop-index.invariant h says
