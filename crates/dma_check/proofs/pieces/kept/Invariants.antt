use Rattle.std.proofs.Common.{◌+◌, ◌<◌, ◌≤◌}
use Rattle.std.specs.List.{AllWithin}
use Rattle.dma_check.specs.Pieces.{Keeps}
use Rattle.dma_check.proofs.pieces.kept.Given as goal

-- the windows so far
abbrev pub invariant-loop-window : goal.invariant-loop-window
invariant-loop-window l =
    record {
      some : 0 < l.least;
      most : l.least ≤ l.most;
      keeps : AllWithin (Keeps l.addr (l.addr + l.least)) l.windows 0 l.window-index;
    }
