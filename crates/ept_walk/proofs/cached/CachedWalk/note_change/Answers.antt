use Rattle.std.proofs.Common.{arith}
use Rattle.ept_walk.proofs.CacheLaws.{keeps_noted}
use Rattle.ept_walk.proofs.cached.CachedWalk.note_change.Goals as goal

pub returns : goal.returns
returns c =
    let w = c.args.self.now in
    keeps_noted c.args.at c.args.len _ w.clock w.slots.items w.changed.items (omega (arith, w.whole, w.changed.ok.0)) c.requires.len (omega (arith, c.saturating_sub.ensures)) w.kept_by
