use Rattle.event_router.proofs.vectors.+end_of.Given as goal

abbrev pub decreases-end_of : goal.decreases-end_of
decreases-end_of l = l.end
