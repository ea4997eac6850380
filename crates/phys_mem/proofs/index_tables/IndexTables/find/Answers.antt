use Rattle.std.proofs.Common.{arith, ◌/◌}
use Rattle.phys_mem.proofs.TableLaws.{room}
use Rattle.phys_mem.proofs.index_tables.IndexTables.find.Goals as goal

pub overflow_add-base : goal.overflow_add-base
overflow_add-base c =
    let t = c.args.self.now in
    let r = room t.upper.items t.lower.items t.tables (c.args.number / 16384) c.in-Some.base c.index.result.now (omega (arith, t.tables.long, c.if-high.false)) c.index.ensures c.in-Some.is in
    omega (arith, r, t.lower.ok.0, t.lower.small)

pub index-requires-in-Some : goal.index-requires-in-Some
index-requires-in-Some c =
    let t = c.args.self.now in
    let r = room t.upper.items t.lower.items t.tables (c.args.number / 16384) c.in-Some.base c.index.result.now (omega (arith, t.tables.long, c.if-high.false)) c.index.ensures c.in-Some.is in
    omega (arith, r, t.lower.ok.0)
