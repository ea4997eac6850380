use Rattle.std.proofs.Common.{◌≡◌, ◌-◌, ◌≤◌, None}
use Rattle.ept_check.specs.Faults.{contents}
use Rattle.ept_check.specs.Pieces.{led_by_entry}
use Rattle.ept_check.specs.Search.{first_from}
use Rattle.ept_check.specs.Tables.{addr_of}
use Rattle.ept_emit.specs.Emitted.{translation}
use Rattle.machine_layout.specs.Memory.{is_there}
use Rattle.ept_check.proofs.compare.compare.Given as goal

-- no fault so far
abbrev pub invariant-loop-at : goal.invariant-loop-at
invariant-loop-at t l =
    record {
      from : l.first ≤ l.at;
      to : l.at ≤ l.end;
      none : first_from (contents (led_by_entry (is_there (t.E.Entries.pages l.entries)) l.level l.entry l.rights) (λ q kind. translation l.windows (addr_of q) kind)) l.first (l.at - l.first) ≡ None;
    }

abbrev pub decreases-loop-at : goal.decreases-loop-at
decreases-loop-at t l = l.end - l.at
