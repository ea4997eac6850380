use Rattle.std.proofs.Common.{◌≡◌, length, take, flat_map}
use Rattle.machine_layout.specs.Memory.{le_bytes}
use Rattle.machine_layout.specs.PageFields.{padded}
use Rattle.state_page.proofs.page.put_registers.Given as goal

-- the registers so far, and zeros behind them
abbrev pub invariant-loop-i : goal.invariant-loop-i
invariant-loop-i l = l.page ≡ padded (length l.fn.page) (flat_map (le_bytes 8) (take l.i l.registers))
