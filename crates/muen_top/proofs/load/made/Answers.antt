use Rattle.muen_top.proofs.GeneratedRuns.{made_so, unmade_so}
use Rattle.muen_top.proofs.load.made.Goals as goal

pub returns-in-Ok : goal.returns-in-Ok
returns-in-Ok c = made_so c.args.number c.args.document.now c.requires _ _ _ _ c.in-Ok.made c.in-Ok.ensures.ok

pub only_memory-requires : goal.only_memory-requires
only_memory-requires c = unmade_so c.args.number c.args.document.now c.requires _ _ _ _ c.in-Err.error c.in-Err.ensures.err
