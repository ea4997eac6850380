use Rattle.ept_check.proofs.entering.+leaves.Given as goal

abbrev pub decreases-leaves : goal.decreases-leaves
decreases-leaves t l = l.level
