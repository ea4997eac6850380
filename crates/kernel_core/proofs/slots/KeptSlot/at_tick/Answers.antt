use Rattle.std.proofs.Common.{◌∙◌, ap, sym}
use Rattle.std.specs.Prelude.{◌&&◌, ◌==◌}
use Rattle.kernel_core.proofs.KeptSlots.{told}
use Rattle.kernel_core.proofs.slots.KeptSlot.at_tick.Goals as goal
use Rattle.kernel_core.proofs.slots.KeptSlot.at_tick.Goals.{then-self, else-self}

pub returns-after-self : goal.returns-after-self
returns-after-self c = λ frames is.
    let passed = c.in_ok-passed in
    let one = passed.passed == 0 in
    let same = sym c.ne.ensures ∙ c.if-ne.false in
    told frames c.args.self.now c.args.at c.args.tick passed.passed c.if-self.result is same passed.ensures.0 passed.ensures.1 c.if-passed-self.true (
    elim c.if-self.branch [
      | then-self w ↦ w.result-is ∙ ap (λ b. b && one) (sym w.if-self.true)
      | else-self w ↦ w.result-is ∙ w.if-self.false ∙ ap (λ b. b && one) (sym w.if-self.false)
    ]
    )
