use Rattle.std.proofs.Common.{◌∙◌, ◌/◌, ◌^◌, ◌<◌, ap, arith, length}
use Rattle.ept_emit.specs.Entries.{word_at}
use Rattle.ept_emit.proofs.Bytes.{zero_word}
use Rattle.ept_emit.proofs.Counts.{pages_are}
use Rattle.ept_emit.proofs.Numbered.{InTable, numbered_same}
use Rattle.ept_emit.proofs.tables.write_tables.Goals as goal

pub write_table-requires-clause-room : goal.write_table-requires-clause-room
write_table-requires-clause-room c = omega (arith, pages_are c.args.windows.now, c.fill.ensures.len)

pub returns-clause-few : goal.returns-clause-few
returns-clause-few c = omega (arith, c.write_table.ensures.few, pages_are c.args.windows.now)

pub returns-clause-numbered : goal.returns-clause-numbered
returns-clause-numbered c =
    numbered_same c.args.pointers (word_at c.write_table.new.out) (c.args.at / 4096) 1 c.write_table.result c.args.windows.now 3 0 (InTable 3 0) (λ addr. addr < 2 ^ 48) (λ g a. omega arith) (λ g a. omega arith) c.write_table.ensures.numbered

pub returns-clause-rest : goal.returns-clause-rest
returns-clause-rest c = λ j past. c.write_table.ensures.beyond j past ∙ (ap (λ bytes. word_at bytes j) (c.fill.ensures.after (λ y h. h)) ∙ zero_word (length c.args.out.now) j)
