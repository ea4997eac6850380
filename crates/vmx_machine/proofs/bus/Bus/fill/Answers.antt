use Rattle.std.proofs.Common.{◌∙◌, ap, ◌+◌, ◌*◌}
use Rattle.machine_layout.specs.PageFields.{number_at}
use Rattle.vmx_machine.specs.Machine.{page_bytes_at}
use Rattle.vmx_machine.proofs.AreaSteps.{filled_step}
use Rattle.vmx_machine.proofs.bus.Bus.fill.Goals as goal

pub loop-entry-preserved : goal.loop-entry-preserved
loop-entry-preserved g c =
    let at = 16 * c.from-at.result in
    let index = c.load-index.ensures.number ∙ ap (λ k. number_at (page_bytes_at c.args.self.now k) at 4) c.from-page.ensures in
    let value = c.load-value.ensures.number ∙ ap (λ k. number_at (page_bytes_at c.args.self.now k) (at + 8) 8) c.from-page.ensures in
    filled_step (page_bytes_at c.args.self.now c.args.area) c.loop-entry.entry c.from-at.result c.load-index.result c.load-value.result c.args.file.now c.loop-entry.file c.put.new.self c.from-at.ensures index value c.loop-entry.invariant c.put.ensures
