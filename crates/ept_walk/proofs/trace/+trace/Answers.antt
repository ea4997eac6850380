use Rattle.std.proofs.Common.{refl, sym, slice_set, arith}
use Rattle.machine_layout.specs.Memory.{is_there}
use Rattle.machine_layout.specs.Walks.{entry_of}
use Rattle.machine_layout.proofs.WalkSteps.{walk_none, walk_absent, walk_bad, walk_leaf, walk_deeper}
use Rattle.ept_walk.specs.Ends.{IsEntryOf}
use Rattle.ept_walk.proofs.TraceSteps.{is_written, is_noted, below_itself, noted_none, noted_absent, noted_bad, noted_leaf, noted_deeper}
use Rattle.ept_walk.proofs.trace.+trace.Goals as goal

pub returns-in_default-clause-end : goal.returns-in_default-clause-end
returns-in_default-clause-end g t c = λ want.
    let m = g.M.PhysMem.pages c.args.mem.now in
    sym (walk_none (entry_of m) (is_there m) c.args.addr want c.args.level c.args.table c.args.rights c.in_default.ensures)

pub returns-in_default-clause-noted : goal.returns-in_default-clause-noted
returns-in_default-clause-noted g t c =
    let m = g.M.PhysMem.pages c.args.mem.now in
    noted_none (entry_of m) c.args.addr (IsEntryOf (slice_set c.args.tables.now c.args.level c.args.table)) c.args.level c.args.table (is_written c.args.tables.now c.args.addr c.args.level c.args.table c.requires.level (omega arith)) c.in_default.ensures

pub returns-then-not-is_present-clause-end : goal.returns-then-not-is_present-clause-end
returns-then-not-is_present-clause-end g t c = λ want.
    let m = g.M.PhysMem.pages c.args.mem.now in
    sym (walk_absent (entry_of m) (is_there m) c.args.addr want c.args.level c.args.table c.args.rights c.in-Some.entry c.in-Some.ensures c.if-not-is_present.ensures)

pub returns-then-not-is_present-clause-noted : goal.returns-then-not-is_present-clause-noted
returns-then-not-is_present-clause-noted g t c =
    let m = g.M.PhysMem.pages c.args.mem.now in
    noted_absent (entry_of m) c.args.addr (IsEntryOf (slice_set c.args.tables.now c.args.level c.args.table)) c.args.level c.args.table (is_written c.args.tables.now c.args.addr c.args.level c.args.table c.requires.level (omega arith)) c.in-Some.entry c.in-Some.ensures c.if-not-is_present.ensures

pub returns-then-is_misconfigured-clause-end : goal.returns-then-is_misconfigured-clause-end
returns-then-is_misconfigured-clause-end g t c = λ want.
    let m = g.M.PhysMem.pages c.args.mem.now in
    sym (walk_bad (entry_of m) (is_there m) c.args.addr want c.args.level c.args.table c.args.rights c.in-Some.entry c.in-Some.ensures c.if-not-is_present.ensures c.if-is_misconfigured.ensures)

pub returns-then-is_misconfigured-clause-noted : goal.returns-then-is_misconfigured-clause-noted
returns-then-is_misconfigured-clause-noted g t c =
    let m = g.M.PhysMem.pages c.args.mem.now in
    noted_bad (entry_of m) c.args.addr (IsEntryOf (slice_set c.args.tables.now c.args.level c.args.table)) c.args.level c.args.table (is_written c.args.tables.now c.args.addr c.args.level c.args.table c.requires.level (omega arith)) c.in-Some.entry c.in-Some.ensures c.if-not-is_present.ensures c.if-is_misconfigured.ensures

pub returns-then-is_leaf-clause-end : goal.returns-then-is_leaf-clause-end
returns-then-is_leaf-clause-end g t c = λ want.
    let m = g.M.PhysMem.pages c.args.mem.now in
    sym (walk_leaf (entry_of m) (is_there m) c.args.addr want c.args.level c.args.table c.args.rights c.in-Some.entry c.in-Some.ensures _ c.rights_of.result c.page_number-number.result c.entry_size.result refl c.rights_of.ensures c.page_number-number.ensures.value c.entry_size.ensures.value c.if-not-is_present.ensures c.if-is_misconfigured.ensures c.if-is_leaf.ensures)

pub returns-then-is_leaf-clause-noted : goal.returns-then-is_leaf-clause-noted
returns-then-is_leaf-clause-noted g t c =
    let m = g.M.PhysMem.pages c.args.mem.now in
    noted_leaf (entry_of m) c.args.addr (IsEntryOf (slice_set c.args.tables.now c.args.level c.args.table)) c.args.level c.args.table (is_written c.args.tables.now c.args.addr c.args.level c.args.table c.requires.level (omega arith)) c.in-Some.entry c.in-Some.ensures c.if-not-is_present.ensures c.if-is_misconfigured.ensures c.if-is_leaf.ensures

pub returns-clause-end : goal.returns-clause-end
returns-clause-end g t c = λ want.
    let m = g.M.PhysMem.pages c.args.mem.now in
    sym (walk_deeper (entry_of m) (is_there m) c.args.addr want c.args.level c.args.table c.args.rights c.in-Some.entry c.in-Some.ensures _ c.rights_of.result c.page_number-number.result (sym (c.trace.ensures.end want)) c.rights_of.ensures c.page_number-number.ensures.value c.if-not-is_present.ensures c.if-is_misconfigured.ensures c.if-is_leaf.ensures)

pub returns-clause-noted : goal.returns-clause-noted
returns-clause-noted g t c =
    let m = g.M.PhysMem.pages c.args.mem.now in
    noted_deeper (entry_of m) c.args.addr (IsEntryOf c.trace.new.tables) c.args.level c.args.table (is_noted c.args.tables.now c.trace.new.tables c.args.addr c.args.level c.args.table c.requires.level (omega arith) (c.trace.ensures.above c.args.level (below_itself c.args.level c.in-Some.entry c.if-is_leaf.ensures))) c.in-Some.entry c.in-Some.ensures c.if-not-is_present.ensures c.if-is_misconfigured.ensures c.page_number-number.result c.page_number-number.ensures.value c.if-is_leaf.ensures c.trace.ensures.noted
