use Rattle.ept_walk.specs.Cache.{FitsCached}
use Rattle.phys_mem.specs.Found.{frames_kept}
use Rattle.tests_machine.proofs.walks.worked_tables.Given as goal

abbrev pub invariant-loop-eptp : goal.invariant-loop-eptp
invariant-loop-eptp g l = FitsCached l.keeping (frames_kept l.mem)
