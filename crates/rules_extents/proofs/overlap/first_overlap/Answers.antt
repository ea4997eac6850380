-- The later one of the first pair ends the least front that has a pair.
use Rattle.std.proofs.Common.{◌∙◌}
use Rattle.rules_extents.proofs.Overlaps.{overlap_with_last}
use Rattle.rules_extents.proofs.overlap.first_overlap.Goals as goal

pub returns : goal.returns
returns c =
    let least = c.in_ok-last.ensures in
    c.earlier.ensures
    ∙ overlap_with_last c.args.extents.now c.in_ok-last.last c.index-extents-last.result least.within c.index-extents-last.is least.apart least.one_more
