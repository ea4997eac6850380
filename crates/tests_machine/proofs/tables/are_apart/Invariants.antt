use Rattle.std.proofs.Common.{ℕ, ◌+◌, ◌<◌, ◌≤◌, get_or}
use Rattle.ept_emit.specs.Pages.{IsMapped}
use Rattle.ept_emit.specs.declared.window.GuestRange.{GuestRange}
use Rattle.tests_machine.proofs.tables.are_apart.Given as goal

-- the ranges so far may be mapped, and end where `end` says
abbrev pub invariant-loop-range : goal.invariant-loop-range
invariant-loop-range l =
    record {
      mapped : (k : ℕ) (d : GuestRange) → k < l.range-index → IsMapped (get_or l.ranges k d);
      ends : (k : ℕ) (d : GuestRange) → k < l.range-index → (get_or l.ranges k d).guest + (get_or l.ranges k d).size ≤ l.end;
      apart : (i j : ℕ) (d : GuestRange) → i < j → j < l.range-index → (get_or l.ranges i d).guest + (get_or l.ranges i d).size ≤ (get_or l.ranges j d).guest;
    }
