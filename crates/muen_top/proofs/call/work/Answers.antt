use Rattle.std.proofs.Common.{None, refl}
use Rattle.muen_top.proofs.Ending.{loaded, unasked}
use Rattle.muen_top.proofs.call.work.Goals as goal

pub returns-in-Usage-clause-came : goal.returns-in-Usage-clause-came
returns-in-Usage-clause-came g c = rw (← c.parse.ensures, c.in-Usage.is) (unasked None _ _ _ refl)

pub returns-in-Build-clause-came : goal.returns-in-Build-clause-came
returns-in-Build-clause-came g c = rw (← c.parse.ensures, c.in-Build.is) (c.build.ensures _)

pub returns-in-Load-clause-came : goal.returns-in-Load-clause-came
returns-in-Load-clause-came g c = rw (← c.parse.ensures, c.in-Load.is) (loaded _ _ _ _ _ _ c.load.ensures)
