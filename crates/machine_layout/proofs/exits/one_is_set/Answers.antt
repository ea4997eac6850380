use Rattle.std.proofs.Common.{◌+◌, sym, ◌∙◌}
use Rattle.muen_num.proofs.NumbersBelow.{any_below}
use Rattle.machine_layout.specs.Exits.{port_is_set}
use Rattle.machine_layout.proofs.exits.one_is_set.Goals as goal

pub returns-then-port_is_set : goal.returns-then-port_is_set
returns-then-port_is_set c =
    sym (any_below (λ k. port_is_set c.args.a.now c.args.b.now (c.args.first + k)) c.args.count c.loop-k.k c.loop-k-test.true (rw (c.from.ensures, c.from-in-loop-k.ensures) at (sym c.port_is_set.ensures ∙ c.if-port_is_set.true)))
