use Rattle.std.proofs.Common.{◌≡◌}
use Rattle.std.specs.Prelude.{map, take, drop}
use Rattle.muen_num.specs.Search.{first_in}
use Rattle.policy_names.proofs.parts.collect_all.Given as goal

abbrev pub invariant-loop-item : goal.invariant-loop-item
invariant-loop-item g l =
    record {
      same : l.names ≡ map g.T.HasParts.names (take l.item-index l.items);
      rest : first_in g.T.HasParts.repeats (drop l.item-index l.items) ≡ first_in g.T.HasParts.repeats l.items;
    }
