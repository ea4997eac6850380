use Rattle.std.proofs.Common.{refl}
use Rattle.muen_top.specs.Commands.{run}
use Rattle.muen_top.proofs.Ending.{ended, printed}
use Rattle.muen_top.proofs.run.run.Goals as goal

pub returns-in-Ok : goal.returns-in-Ok
returns-in-Ok g c = printed (run c.args.image.now c.args.inputs.now _) _ _ _ _ c.read_all.ensures.held _ _ _ c.run_image.result c.in-Ok.ensures.ok c.run_image.ensures

pub returns-in-Err : goal.returns-in-Err
returns-in-Err g c = ended (run c.args.image.now c.args.inputs.now _) _ _ _ _ c.read_all.ensures.held _ _ c.in-Err.error c.in-Err.ensures.err refl
