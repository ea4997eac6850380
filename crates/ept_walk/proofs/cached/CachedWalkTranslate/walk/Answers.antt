use Rattle.std.proofs.Common.{sym, arith}
use Rattle.ept_walk.proofs.CacheLaws.{hit_small, hit_violation, hit_at}
use Rattle.ept_walk.proofs.cached.CachedWalkTranslate.walk.Goals as goal

pub returns-then-slot-want-clause-walk : goal.returns-then-slot-want-clause-walk
returns-then-slot-want-clause-walk g c =
    let w = c.args.self.now in
    hit_violation (g.M.PhysMem.pages c.args.mem.now) w.slots.items w.changed.items c.requires.fits c.in-Some.slot.now c.args.eptp c.args.addr (sym c.in-Some.ensures) c.args.kind c.bit-want.result c.bit-want.ensures c.if-slot-want.true

pub overflow_mul-result : goal.overflow_mul-result
overflow_mul-result g c =
    let w = c.args.self.now in
    let small = hit_small (g.M.PhysMem.pages c.args.mem.now) w.slots.items w.changed.items c.requires.fits c.in-Some.slot.now c.args.eptp c.args.addr (sym c.in-Some.ensures) in
    omega (arith, small)

pub overflow_add-result : goal.overflow_add-result
overflow_add-result g c =
    let w = c.args.self.now in
    let small = hit_small (g.M.PhysMem.pages c.args.mem.now) w.slots.items w.changed.items c.requires.fits c.in-Some.slot.now c.args.eptp c.args.addr (sym c.in-Some.ensures) in
    omega (arith, small)

pub returns-clause-walk : goal.returns-clause-walk
returns-clause-walk g c =
    let w = c.args.self.now in
    hit_at (g.M.PhysMem.pages c.args.mem.now) w.slots.items w.changed.items c.requires.fits c.in-Some.slot.now c.args.eptp c.args.addr (sym c.in-Some.ensures) c.args.kind c.bit-want.result c.bit-want.ensures c.if-slot-want.false
