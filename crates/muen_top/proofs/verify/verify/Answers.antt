use Rattle.std.proofs.Common.{refl}
use Rattle.muen_top.specs.Commands.{verify}
use Rattle.muen_top.proofs.Ending.{ended}
use Rattle.muen_top.proofs.Judging.{are_of_files, comes_of}
use Rattle.muen_top.proofs.verify.verify.Goals as goal

pub judge-requires : goal.judge-requires
judge-requires g c = are_of_files c.args.image.now c.args.policy.now _ _ _ c.in-Ok.read.parts c.in-Ok.read.policy c.in-Ok.read.things c.in-Ok.ensures.ok

pub returns-in-Ok : goal.returns-in-Ok
returns-in-Ok g c = comes_of c.args.image.now c.args.policy.now _ _ _ c.in-Ok.read.parts c.in-Ok.read.policy c.in-Ok.read.things c.in-Ok.ensures.ok _ c.read_to_judge.ensures.held _ _ c.judge.result c.judge.ensures

pub returns-in-Err : goal.returns-in-Err
returns-in-Err g c = ended (verify c.args.image.now c.args.policy.now) _ _ _ _ c.read_to_judge.ensures.held _ _ c.in-Err.error c.in-Err.ensures.err refl
