use Rattle.std.proofs.Common.{ℕ, ◌+◌, ◌-◌, ◌<◌, ◌≤◌, length, get_or}
use Rattle.ept_emit.specs.declared.window.Window.{Window}
use Rattle.ept_emit.proofs.search.windows_before.Given as goal

-- those before `low` end by the address, those from `high` on don't
abbrev pub invariant-loop-low : goal.invariant-loop-low
invariant-loop-low l =
    record {
      order : l.low ≤ l.high;
      within : l.high ≤ length l.windows;
      before : (j : ℕ) (d : Window) → j < l.low → (get_or l.windows j d).guest + (get_or l.windows j d).size ≤ l.address;
      after : (j : ℕ) (d : Window) → l.high ≤ j → j < length l.windows → l.address < (get_or l.windows j d).guest + (get_or l.windows j d).size;
    }

abbrev pub decreases-loop-low : goal.decreases-loop-low
decreases-loop-low l = l.high - l.low
