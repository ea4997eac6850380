use Rattle.std.proofs.Common.{◌≡◌, ◌==◌, sym, subst, ◌∙◌}
use Rattle.std.specs.List.{find}
use Rattle.std.proofs.lemmas.Bool.{eq-eqb, ne_eqb}
use Rattle.device_bench.proofs.ByTick.{by_next, found_next}
use Rattle.device_bench.proofs.bench.order_of.Goals as goal

pub returns-in-None : goal.returns-in-None
returns-in-None c =
    subst (λ o. by_next (λ o. o.tick) c.args.at.tick o ≡ find (λ o. o.tick == c.args.at.tick) c.args.orders.now) (sym c.in-None.ensures) (found_next (λ o. o.tick) c.args.at.tick c.args.at.orders c.args.orders.now c.requires.before.before.earlier c.requires.before.behind c.requires.order)

pub returns-then-order-at : goal.returns-then-order-at
returns-then-order-at c =
    let n = subst (λ o. by_next (λ o. o.tick) c.args.at.tick o ≡ find (λ o. o.tick == c.args.at.tick) c.args.orders.now) (sym c.in-Some.ensures) (found_next (λ o. o.tick) c.args.at.tick c.args.at.orders c.args.orders.now c.requires.before.before.earlier c.requires.before.behind c.requires.order) in
    rw (eq-eqb c.in-Some.order.now.tick c.args.at.tick c.if-order-at.true) at n

pub returns-else-order-at : goal.returns-else-order-at
returns-else-order-at c =
    let n = subst (λ o. by_next (λ o. o.tick) c.args.at.tick o ≡ find (λ o. o.tick == c.args.at.tick) c.args.orders.now) (sym c.in-Some.ensures) (found_next (λ o. o.tick) c.args.at.tick c.args.at.orders c.args.orders.now c.requires.before.before.earlier c.requires.before.behind c.requires.order) in
    rw (ne_eqb c.in-Some.order.now.tick c.args.at.tick c.if-order-at.false) at n
