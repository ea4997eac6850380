use Rattle.std.proofs.Common.{◌∙◌}
use Rattle.vmx_machine.proofs.AreaSteps.{entry_passed, entry_put}
use Rattle.vmx_machine.proofs.bus.Bus.save_entry.Goals as goal

pub returns-in_default : goal.returns-in_default
returns-in_default g c =
    entry_passed c.args.file.now c.args.area c.args.entry c.load-index.result c.args.self.now c.load-index.ensures.number c.in_default.ensures

pub returns-in-Some : goal.returns-in-Some
returns-in-Some g c =
    c.store.ensures
    ∙ entry_put c.args.file.now c.args.area c.args.entry c.load-index.result c.in-Some.value c.args.self.now c.load-index.ensures.number c.in-Some.ensures
