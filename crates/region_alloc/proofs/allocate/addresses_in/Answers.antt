use Rattle.region_alloc.proofs.EachInTurn.{regions_in_turn}
use Rattle.region_alloc.proofs.Placing.{IsSized}
use Rattle.region_alloc.proofs.allocate.addresses_in.Goals as goal

pub place_each-requires-clause-regions : goal.place_each-requires-clause-regions
place_each-requires-clause-regions c =
    rw (c.deref.ensures.value, c.in_ok-turns.ensures) (regions_in_turn IsSized c.args.regions.now c.requires.regions)
