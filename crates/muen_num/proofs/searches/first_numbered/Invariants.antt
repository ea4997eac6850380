use Rattle.std.proofs.Common.{◌≡◌, ℕ, drop, Option}
use Rattle.std.specs.List.{enumerate_from}
use Rattle.muen_num.specs.Search.{ComputesOfNumbered, first_in}
use Rattle.muen_num.proofs.searches.first_numbered.Given as goal

abbrev pub invariant-loop-index : goal.invariant-loop-index
invariant-loop-index g l =
    (h : ℕ × g.row.T.Denot → Option g.row.O.Denot) → ComputesOfNumbered g.F.Fn l.f h → first_in h (enumerate_from l.index (drop l.index l.items)) ≡ first_in h (enumerate_from 0 l.items)
