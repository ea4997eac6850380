use Rattle.std.proofs.Common.{◌≡◌, take, drop, Option}
use Rattle.muen_num.specs.Search.{ComputesOfTwo, first_in, first_after, first_pair}
use Rattle.muen_num.proofs.searches.first_pair.Given as goal

abbrev pub invariant-loop-index : goal.invariant-loop-index
invariant-loop-index g l =
    (h : g.row.T.Denot → g.row.T.Denot → Option g.row.O.Denot) → ComputesOfTwo g.F.Fn l.f h → first_after (λ before x. first_in (λ b. h b x) before) (take l.index l.items) (drop l.index l.items) ≡ first_pair h l.items
