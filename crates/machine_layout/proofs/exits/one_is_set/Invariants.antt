use Rattle.std.proofs.Common.{◌≡◌, ◌+◌, false}
use Rattle.std.specs.List.{list_any}
use Rattle.muen_num.specs.Range.{numbers_below}
use Rattle.machine_layout.specs.Exits.{port_is_set}
use Rattle.machine_layout.proofs.exits.one_is_set.Given as goal

abbrev pub invariant-loop-k : goal.invariant-loop-k
invariant-loop-k l = list_any (λ k. port_is_set l.a l.b (l.first + k)) (numbers_below l.k) ≡ false
