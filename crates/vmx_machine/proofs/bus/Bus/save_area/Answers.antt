use Rattle.std.proofs.Common.{◌∙◌, ap}
use Rattle.vmx_machine.specs.Machine.{entry_saved}
use Rattle.vmx_machine.proofs.AreaSteps.{saved_step}
use Rattle.vmx_machine.proofs.bus.Bus.save_area.Goals as goal

pub loop-entry-preserved : goal.loop-entry-preserved
loop-entry-preserved g c =
    let entry = c.save_entry.ensures ∙ ap (λ area. entry_saved c.args.file.now area c.from.result c.loop-entry.self) c.from-page.ensures in
    saved_step c.args.file.now c.args.area c.loop-entry.entry c.from.result c.args.self.now c.loop-entry.self c.save_entry.new.self c.from.ensures c.loop-entry.invariant entry
