use Rattle.std.proofs.Common.{◌≡◌, ◌+◌, ◌<◌, ℕ, not, take}
use Rattle.machine_layout.specs.Exits.{is_set}
use Rattle.iobm_emit.specs.Ports.{is_granted}
use Rattle.iobm_emit.proofs.bitmaps.write_bitmap.Given as goal

-- the bits are those of the ranges so far
abbrev pub invariant-loop-range : goal.invariant-loop-range
invariant-loop-range l =
    (bit : ℕ) → bit < 0x8000 → is_set l.bitmap bit ≡ not (is_granted (take l.range-index l.ports) (l.base + bit))
