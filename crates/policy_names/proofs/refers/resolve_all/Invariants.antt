use Rattle.std.proofs.Common.{◌≡◌, true}
use Rattle.std.specs.Prelude.{map, take, drop}
use Rattle.std.specs.List.{list_all}
use Rattle.muen_num.specs.Search.{first_in}
use Rattle.policy_names.proofs.refers.resolve_all.Given as goal

abbrev pub invariant-loop-item : goal.invariant-loop-item
invariant-loop-item g l =
    let p = l.scope.source.now in
    let offence = g.T.Refers.offence p l.by in
    record {
      same : map (g.T.Refers.named p l.by) l.resolved ≡ take l.item-index l.items;
      there : list_all (g.T.Refers.in_range p l.by) l.resolved ≡ true;
      rest : first_in offence (drop l.item-index l.items) ≡ first_in offence l.items;
    }
