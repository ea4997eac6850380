use Rattle.std.proofs.Common.{◌≡◌, ◌*◌, length, take}
use Rattle.machine_layout.specs.Exits.{area_bytes, entry_size}
use Rattle.machine_layout.specs.PageFields.{padded}
use Rattle.msrbm_emit.specs.Area.{area_of, msr_count}
use Rattle.msrbm_emit.proofs.area.emit_area.Given as goal

-- the entries of the grants so far, and zeros behind them
abbrev pub invariant-loop-grant : goal.invariant-loop-grant
invariant-loop-grant l =
    record {
      end : l.end ≡ entry_size * msr_count (take l.grant-index l.msrs);
      area : l.area ≡ padded (length l.fn.area) (area_bytes (area_of (take l.grant-index l.msrs)));
    }
