use Rattle.std.proofs.Common.{◌∙◌, ◌&&◌, ◌||◌}
use Rattle.event_router.specs.Vectors.{has}
use Rattle.event_router.proofs.Ends.{greatest_stays}
use Rattle.event_router.proofs.vectors.delivered.Goals as goal

pub returns : goal.returns
returns c =
    c.greatest_below.ensures
    ∙ greatest_stays c.end_for.result 256 (λ v. has c.args.now.now.marks v || (c.args.entry && has c.args.later.now.marks v)) c.end_for.ensures.end c.end_for.ensures.none
