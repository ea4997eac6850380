use Rattle.std.proofs.Common.{refl}
use Rattle.muen_top.specs.Commands.{map}
use Rattle.muen_top.proofs.Ending.{ended, printed}
use Rattle.muen_top.proofs.policy_commands.map.Goals as goal

pub returns-in-Ok : goal.returns-in-Ok
returns-in-Ok g c =
    let is = c.in-Ok.ensures.ok in
    printed (map c.args.policy.now) _ _ _ _ c.read_placed.ensures.held _ _ _ c.print_map.result is.answered (c.print_map.ensures is.addresses is.placement)

pub returns-in-Err : goal.returns-in-Err
returns-in-Err g c = ended (map c.args.policy.now) _ _ _ _ c.read_placed.ensures.held _ _ c.in-Err.error c.in-Err.ensures.err refl
