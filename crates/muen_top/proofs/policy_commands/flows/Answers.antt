use Rattle.std.proofs.Common.{refl}
use Rattle.muen_top.specs.Commands.{flows}
use Rattle.muen_top.proofs.Ending.{ended, printed}
use Rattle.muen_top.proofs.policy_commands.flows.Goals as goal

pub returns-in-Ok : goal.returns-in-Ok
returns-in-Ok g c = printed (flows c.args.policy.now) _ _ _ _ c.read_lawful.ensures.held _ _ _ c.print_flows.result c.in-Ok.ensures.ok c.print_flows.ensures

pub returns-in-Err : goal.returns-in-Err
returns-in-Err g c = ended (flows c.args.policy.now) _ _ _ _ c.read_lawful.ensures.held _ _ c.in-Err.error c.in-Err.ensures.err refl
