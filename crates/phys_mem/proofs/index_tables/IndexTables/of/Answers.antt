use Rattle.std.proofs.Common.{◌+◌, arith, subst, sym, refl, get_or}
use Rattle.phys_mem.specs.IndexTables.{TellsTo}
use Rattle.phys_mem.specs.declared.index_tables.IndexTables.{IndexTables}
use Rattle.phys_mem.proofs.TableLaws.{one_more, some_more, no_place, tells_all}
use Rattle.phys_mem.proofs.index_tables.IndexTables.of.Goals as goal
use Rattle.phys_mem.proofs.index_tables.IndexTables.of.Goals.{then-is_none+in_ok-enter, else-is_none}

pub loop-i-preserved : goal.loop-i-preserved
loop-i-preserved c =
    let ns = c.args.numbers.now in
    let t = c.loop-i.tables in
    let n = get_or ns c.loop-i.i 0 in
    elim c.if-is_none.branch [
      | then-is_none+in_ok-enter w ↦
          subst (λ (s : IndexTables). TellsTo s.upper.items s.lower.items ns (c.loop-i.i + 1)) (sym w.tables-is) (one_more t.upper.items t.lower.items w.enter.new.self.upper.items w.enter.new.self.lower.items ns c.loop-i.i n (omega (arith, c.loop-i-test.true)) refl (no_place _ c.find.result c.is_none.result c.find.ensures c.is_none.ensures w.if-is_none.true) w.in_ok-enter.ensures c.loop-i.invariant)
      | else-is_none w ↦
          subst (λ (s : IndexTables). TellsTo s.upper.items s.lower.items ns (c.loop-i.i + 1)) (sym w.tables-is) (some_more t.upper.items t.lower.items ns c.loop-i.i n c.find.result c.is_none.result refl c.find.ensures c.is_none.ensures w.if-is_none.false c.loop-i.invariant)
    ]

pub returns : goal.returns
returns c =
    tells_all c.loop-i.tables.upper.items c.loop-i.tables.lower.items c.args.numbers.now c.loop-i.i (omega (arith, c.loop-i.auto, c.loop-i-test.false)) c.loop-i.invariant
