use Rattle.std.proofs.Common.{◌≡◌, ◌&&◌, ℕ, not, min}
use Rattle.machine_layout.specs.Exits.{is_set}
use Rattle.machine_layout.specs.Bitmaps.{is_between}
use Rattle.machine_layout.proofs.bitmaps.clear_bits.Given as goal

-- the bits so far are cleared
abbrev pub invariant-loop-bit : goal.invariant-loop-bit
invariant-loop-bit l =
    (n : ℕ) → is_set l.bitmap n ≡ (is_set l.fn.bitmap n && not (is_between l.first (min l.bit l.end) n))
