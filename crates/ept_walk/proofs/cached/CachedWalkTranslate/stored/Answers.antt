use Rattle.std.proofs.Common.{◌/◌}
use Rattle.ept_walk.proofs.CacheLaws.{fits_after, drops_after}
use Rattle.ept_walk.proofs.cached.CachedWalkTranslate.stored.Goals as goal

pub returns-clause-fits : goal.returns-clause-fits
returns-clause-fits c =
    let old = c.args.self.now in
    let new = c.drop_read.new.self in
    fits_after c.args.at c.args.len old.slots.items new.slots.items old.changed.items new.changed.items c.drop_read.ensures

pub returns-clause-drops : goal.returns-clause-drops
returns-clause-drops c = λ m eptp addr k fits held within touched.
    let old = c.args.self.now in
    let new = c.drop_read.new.self in
    drops_after c.args.at c.args.len old.slots.items new.slots.items old.changed.items new.changed.items c.drop_read.ensures m eptp (addr / 4096) k fits within touched
