use Rattle.std.proofs.Common.{◌≡◌, ◌++◌}
use Rattle.std.specs.Prelude.{map, take, drop}
use Rattle.policy_lawful.proofs.NameSets.{repeated_after}
use Rattle.policy_names.specs.Parts.{repeats_behind}
use Rattle.policy_names.proofs.declared.declare.Given as goal

abbrev pub invariant-loop-item : goal.invariant-loop-item
invariant-loop-item g l =
    let name = g.T.Named.name in
    record {
      same : l.names ≡ l.fn.names ++ map name (take l.item-index l.items);
      rest : repeated_after l.names (map name (drop l.item-index l.items)) ≡ repeats_behind l.fn.names (map name l.items);
    }
