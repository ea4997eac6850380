use Rattle.std.proofs.Common.{◌≡◌, drop, Option}
use Rattle.muen_num.specs.Search.{Computes, first_in}
use Rattle.muen_num.proofs.searches.first.Given as goal

abbrev pub invariant-loop-x : goal.invariant-loop-x
invariant-loop-x g l = (h : g.row.T.Denot → Option g.row.O.Denot) → Computes g.F.Fn l.f h → first_in h (drop l.x-index l.items) ≡ first_in h l.items
