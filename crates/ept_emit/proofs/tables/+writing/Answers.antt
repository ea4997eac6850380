use Rattle.std.proofs.Common.{rules, ◌≡◌, ◌+◌, ◌*◌, ◌%◌, ◌^◌, Some, sym, ◌∙◌, arith}
use Rattle.machine_layout.specs.Walks.{entry_size}
use Rattle.ept_emit.specs.Entries.{window_touching, word_at}
use Rattle.ept_emit.proofs.Counts.{needs_add, needs_at, room_in}
use Rattle.ept_emit.proofs.Found.{not_lowest}
use Rattle.ept_emit.proofs.Numbered.{entry_in, entry_small, numbered_free, numbered_leaf, numbered_table_at, one_more, span_up, whole_table}
use Rattle.ept_emit.proofs.tables.+writing.Goals as goal

pub write_entry-returns-in_default-clause-numbered : goal.write_entry-returns-in_default-clause-numbered
write_entry-returns-in_default-clause-numbered t c = numbered_free c.args.pointers _ c.args.base c.args.used c.args.windows.now c.args.level c.args.table c.args.entry c.set_word.ensures.here (sym c.window_on.ensures.value ∙ c.in_default.is)

pub write_entry-returns-then-is_whole-clause-numbered : goal.write_entry-returns-then-is_whole-clause-numbered
write_entry-returns-then-is_whole-clause-numbered t c = numbered_leaf c.args.pointers _ c.args.base c.args.used c.args.windows.now c.args.level c.args.table c.args.entry c.in-Some.window (c.set_word-then-is_whole.ensures.here ∙ c.leaf_entry.ensures) (sym c.window_on.ensures.value ∙ c.in-Some.is) (sym c.is_whole.ensures ∙ c.if-is_whole.true)

pub write_entry-table_entry-requires : goal.write_entry-table_entry-requires
write_entry-table_entry-requires t c =
    let some : window_touching c.args.windows.now (entry_size c.args.level * c.args.entry) (entry_size c.args.level) ≡ Some c.in-Some.window = sym c.window_on.ensures.value ∙ c.in-Some.is in
    let high = not_lowest c.in-Some.window c.args.level c.args.entry (sym c.is_whole.ensures ∙ c.if-is_whole.false) in
    let need = needs_at c.args.windows.now c.args.level c.args.entry c.in-Some.window high some in
    omega arith

pub write_entry-write_table-requires : goal.write_entry-write_table-requires
write_entry-write_table-requires t c =
    let some : window_touching c.args.windows.now (entry_size c.args.level * c.args.entry) (entry_size c.args.level) ≡ Some c.in-Some.window = sym c.window_on.ensures.value ∙ c.in-Some.is in
    let high = not_lowest c.in-Some.window c.args.level c.args.entry (sym c.is_whole.ensures ∙ c.if-is_whole.false) in
    let need = needs_at c.args.windows.now c.args.level c.args.entry c.in-Some.window high some in
    let up = span_up c.args.level high in
    (search rules, (c.requires.emittable, (c.requires.apart, (omega arith, (search rules, (omega arith, (rw up c.requires.entry, search rules)))))))

pub write_entry-returns-clause-few : goal.write_entry-returns-clause-few
write_entry-returns-clause-few t c =
    let some : window_touching c.args.windows.now (entry_size c.args.level * c.args.entry) (entry_size c.args.level) ≡ Some c.in-Some.window = sym c.window_on.ensures.value ∙ c.in-Some.is in
    let high = not_lowest c.in-Some.window c.args.level c.args.entry (sym c.is_whole.ensures ∙ c.if-is_whole.false) in
    let need = needs_at c.args.windows.now c.args.level c.args.entry c.in-Some.window high some in
    omega (arith, c.write_table.ensures.few)

pub write_entry-returns-clause-numbered : goal.write_entry-returns-clause-numbered
write_entry-returns-clause-numbered t c =
    let word = 512 * c.args.table + c.args.entry % 512 in
    let some : window_touching c.args.windows.now (entry_size c.args.level * c.args.entry) (entry_size c.args.level) ≡ Some c.in-Some.window = sym c.window_on.ensures.value ∙ c.in-Some.is in
    let part = sym c.is_whole.ensures ∙ c.if-is_whole.false in
    let high = not_lowest c.in-Some.window c.args.level c.args.entry part in
    let at = c.write_table.ensures.rest word (omega arith) (λ h. omega arith) ∙ (c.set_word-2.ensures.here ∙ c.table_entry.ensures) in
    numbered_table_at c.args.pointers (word_at c.write_table.new.out) c.args.base c.args.used c.write_table.result c.args.windows.now c.args.level c.args.table c.args.entry c.in-Some.window high at some part (omega (arith, c.write_table.ensures.more)) c.write_table.ensures.numbered

pub write_table-overflow_mul-parent : goal.write_table-overflow_mul-parent
write_table-overflow_mul-parent t c = omega (arith, entry_small c.args.level (512 * c.args.parent + 0) (2 ^ 48) (entry_in c.args.level c.args.parent 0 (2 ^ 48) c.requires.parent (omega arith)))

pub write_table-overflow_add-parent : goal.write_table-overflow_add-parent
write_table-overflow_add-parent t c = omega (arith, entry_small c.args.level (512 * c.args.parent + c.loop-i.i) (2 ^ 48) (entry_in c.args.level c.args.parent c.loop-i.i (2 ^ 48) c.requires.parent (omega arith)))

pub write_table-write_entry-top-requires : goal.write_table-write_entry-top-requires
write_table-write_entry-top-requires t c =
    let entry = entry_in c.args.level c.args.parent c.loop-i.i (2 ^ 48) c.requires.parent (omega arith) in
    let room = room_in c.args.windows.now c.args.level c.args.parent c.loop-i.i c.args.used c.loop-i.top c.loop-i-test.true c.loop-i.invariant.few in
    (search rules, (c.requires.emittable, (c.requires.apart, (c.requires.level, (omega arith, (omega arith, (entry, omega arith)))))))

pub write_table-loop-i-preserved : goal.write_table-loop-i-preserved
write_table-loop-i-preserved t c =
    let l = c.args.level in
    let p = c.args.parent in
    record {
      few = omega (arith, needs_add c.args.windows.now l (512 * p) c.loop-i.i 1);
      more = omega arith;
      beyond = λ j h. c.write_entry-top.ensures.beyond j h ∙ c.loop-i.invariant.beyond j (omega (arith, c.write_entry-top.ensures.more));
      numbered = one_more c.args.pointers (word_at c.loop-i.out) (word_at c.write_entry-top.new.out) c.args.base c.args.used c.loop-i.top c.write_entry-top.result c.args.windows.now l c.args.table p c.loop-i.i c.requires.table c.loop-i.invariant.more c.write_entry-top.ensures.more c.loop-i-test.true c.loop-i.invariant.numbered c.write_entry-top.ensures.numbered c.write_entry-top.ensures.rest;
      rest = λ j lt ne. c.write_entry-top.ensures.rest j (omega arith) (λ h. ne (omega arith)) ∙ c.loop-i.invariant.rest j lt ne;
    }

pub write_table-returns-clause-numbered : goal.write_table-returns-clause-numbered
write_table-returns-clause-numbered t c = whole_table c.args.pointers (word_at c.loop-i.out) c.args.base c.args.used c.loop-i.top c.args.windows.now c.args.level c.args.table c.args.parent c.loop-i.i (omega arith) c.loop-i.invariant.numbered
