use Rattle.std.proofs.Common.{◌≡◌, true, length}
use Rattle.std.specs.Prelude.{map, take, drop, nat_lt}
use Rattle.std.specs.List.{list_all}
use Rattle.muen_num.specs.Search.{first_in}
use Rattle.policy_lawful.specs.Rules.{undeclared}
use Rattle.policy_names.proofs.refers.resolve_all_in.Given as goal

abbrev pub invariant-loop-item : goal.invariant-loop-item
invariant-loop-item g l =
    let offence = λ (x : g.row.T.Denot). undeclared l.by (l.names, g.T.Reference.name x) in
    record {
      same : map (g.T.Reference.named l.names) l.resolved ≡ take l.item-index l.items;
      there : list_all (λ x. nat_lt (g.T.Reference.index x) (length l.names)) l.resolved ≡ true;
      rest : first_in offence (drop l.item-index l.items) ≡ first_in offence l.items;
    }
