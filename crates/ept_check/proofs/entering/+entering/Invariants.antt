use Rattle.std.proofs.Common.{◌≡◌, ◌+◌, ◌*◌, ◌≤◌, None, true, length}
use Rattle.std.specs.Prelude.{vec_len}
use Rattle.ept_check.specs.Entries.{pages}
use Rattle.ept_check.specs.Faults.{table_fault_at}
use Rattle.ept_check.specs.Known.{Known}
use Rattle.ept_check.specs.Looked.{is_entered, left}
use Rattle.ept_check.specs.Search.{first_from}
use Rattle.ept_check.specs.Tables.{tables_in}
use Rattle.machine_layout.specs.Memory.{is_there}
use Rattle.ept_check.proofs.entering.+entering.Given as goal

abbrev pub decreases-enter : goal.decreases-enter
decreases-enter t l = 2 * l.table.level + 1

abbrev pub decreases-follow : goal.decreases-follow
decreases-follow t l = 2 * l.table.level

-- the entries so far
abbrev pub invariant-enter-loop-i : goal.invariant-enter-loop-i
invariant-enter-loop-i t l =
    let m = t.E.Entries.pages l.fn.entries in
    record {
      none : first_from (table_fault_at (tables_in m l.tables l.subjects)) l.table.first (l.i * pages l.table.level) ≡ None;
      kept : t.E.Entries.pages l.entries ≡ m;
      there : is_there m l.table.page ≡ true;
      work : t.E.Entries.reads l.entries + 512 * left l.looked + 512 ≤ t.E.Entries.reads l.fn.entries + 512 * left l.fn.looked + l.i;
      long : vec_len l.looked.entered ≡ length l.tables;
      known : Known (tables_in m l.tables l.subjects) (is_entered l.tables l.looked) (l.table.first + l.i * pages l.table.level) l.table.first l.table.level;
    }
