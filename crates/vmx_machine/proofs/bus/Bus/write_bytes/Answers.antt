use Rattle.vmx_machine.specs.Machine.{written}
use Rattle.vmx_machine.proofs.AreaSteps.{written_step}
use Rattle.vmx_machine.proofs.bus.Bus.write_bytes.Goals as goal

pub loop-i-preserved : goal.loop-i-preserved
loop-i-preserved g c =
    written_step c.args.bytes.now c.loop-i.i c.args.at c.from.result c.loop-i.self c.store.new.self (written c.args.self.now c.args.at c.args.bytes.now) c.loop-i-test.true c.from.ensures c.loop-i.invariant c.store.ensures
