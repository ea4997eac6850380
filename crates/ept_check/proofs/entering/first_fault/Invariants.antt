use Rattle.std.proofs.Common.{◌≡◌, ◌+◌, ◌*◌, ◌^◌, ◌≤◌, None, length}
use Rattle.std.specs.Prelude.{vec_len}
use Rattle.ept_check.specs.Faults.{table_fault_at}
use Rattle.ept_check.specs.Known.{Known}
use Rattle.ept_check.specs.Looked.{is_entered, left}
use Rattle.ept_check.specs.Search.{first_from}
use Rattle.ept_check.specs.Tables.{tables_in}
use Rattle.ept_check.proofs.entering.first_fault.Given as goal

-- the subjects so far
abbrev pub invariant-loop-subject : goal.invariant-loop-subject
invariant-loop-subject t l =
    let m = t.E.Entries.pages l.fn.entries in
    record {
      none : first_from (table_fault_at (tables_in m l.tables l.subjects)) 0 (2 ^ 36 * l.subject) ≡ None;
      kept : t.E.Entries.pages l.entries ≡ m;
      work : t.E.Entries.reads l.entries + 512 * left l.looked ≤ t.E.Entries.reads l.fn.entries + 512 * left l.fn.looked;
      long : vec_len l.looked.entered ≡ length l.tables;
      known : Known (tables_in m l.tables l.subjects) (is_entered l.tables l.looked) (2 ^ 36 * l.subject) (2 ^ 36 * l.subject) 4;
    }
