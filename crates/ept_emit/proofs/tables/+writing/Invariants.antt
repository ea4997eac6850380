use Rattle.std.proofs.Common.{◌≡◌, ◌≢◌, ℕ, ◌+◌, ◌*◌, ◌/◌, ◌<◌, ◌≤◌}
use Rattle.ept_emit.specs.Entries.{word_at}
use Rattle.ept_emit.specs.Needs.{needs}
use Rattle.ept_emit.specs.Tables.{AreNumbered}
use Rattle.ept_emit.proofs.Numbered.{InFirst}
use Rattle.ept_emit.proofs.tables.+writing.Given as goal

abbrev pub decreases-write_entry : goal.decreases-write_entry
decreases-write_entry l = 2 * l.level

abbrev pub decreases-write_table : goal.decreases-write_table
decreases-write_table l = 2 * l.level + 1

-- the entries so far
abbrev pub invariant-write_table-loop-i : goal.invariant-write_table-loop-i
invariant-write_table-loop-i l =
    record {
      few : l.top ≤ l.used + needs l.windows l.level (512 * l.parent) l.i;
      more : l.used ≤ l.top;
      numbered : AreNumbered l.pointers (word_at l.out) l.base l.used l.top l.windows l.level l.table (InFirst l.level l.parent l.i);
      beyond : (j : ℕ) → 512 * l.top ≤ j → word_at l.out j ≡ word_at l.fn.out j;
      rest : (j : ℕ) → j < 512 * l.used → j / 512 ≢ l.table → word_at l.out j ≡ word_at l.fn.out j;
    }
