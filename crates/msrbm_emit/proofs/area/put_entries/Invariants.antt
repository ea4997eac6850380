use Rattle.std.proofs.Common.{◌≡◌, ◌+◌, ◌-◌, ◌*◌, ◌≤◌, List, ℕ, ◌++◌, length}
use Rattle.machine_layout.specs.Exits.{area_bytes, entry_size}
use Rattle.machine_layout.specs.PageFields.{padded}
use Rattle.msrbm_emit.specs.Area.{size_of}
use Rattle.msrbm_emit.proofs.AreaLaws.{front_of}
use Rattle.msrbm_emit.proofs.area.put_entries.Given as goal

-- the entries so far stand behind what stood there, and no entry is too many
abbrev pub invariant-loop-index : goal.invariant-loop-index
invariant-loop-index l =
    record {
      end : l.end ≡ l.at + entry_size * (l.index - l.grant.start);
      within : l.index - l.grant.start ≤ size_of l.grant;
      area : (front : List ℕ) → length front ≡ l.at → l.fn.area ≡ padded (length l.fn.area) front
          → l.area ≡ padded (length l.fn.area) (front ++ area_bytes (front_of l.grant.start (l.index - l.grant.start)));
    }
