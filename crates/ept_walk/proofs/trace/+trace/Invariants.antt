use Rattle.ept_walk.proofs.trace.+trace.Given as goal

abbrev pub decreases-trace : goal.decreases-trace
decreases-trace g l = l.level
