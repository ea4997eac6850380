use Rattle.std.proofs.Common.{◌≡◌, ◌≤◌, ◌<◌, ◌+◌, ◌-◌, ◌^◌, drop, take}
use Rattle.machine_layout.specs.Memory.{le_number}
use Rattle.image_checks.proofs.areas.number_at.Given as goal

-- the bytes from `left` on are read
abbrev pub invariant-loop-left : goal.invariant-loop-left
invariant-loop-left l =
    record {
      within : l.left ≤ l.count;
      small : l.value < 256 ^ (l.count - l.left);
      value : l.value ≡ le_number (take (l.count - l.left) (drop (l.at + l.left) l.bytes));
    }

abbrev pub decreases-loop-left : goal.decreases-loop-left
decreases-loop-left l = l.left
