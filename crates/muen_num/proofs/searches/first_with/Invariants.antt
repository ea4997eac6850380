use Rattle.std.proofs.Common.{◌≡◌, drop, Option}
use Rattle.muen_num.specs.Search.{ComputesOfTwo, first_in}
use Rattle.muen_num.proofs.searches.first_with.Given as goal

abbrev pub invariant-loop-x : goal.invariant-loop-x
invariant-loop-x g l =
    (h : g.row.T.Denot → g.row.T.Denot → Option g.row.O.Denot) → ComputesOfTwo g.F.Fn l.f h → first_in (λ x. h x l.later) (drop l.x-index l.before) ≡ first_in (λ x. h x l.later) l.before
