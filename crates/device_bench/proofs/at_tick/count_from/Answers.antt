use Rattle.std.proofs.Common.{arith, ◌∙◌, ap}
use Rattle.std.proofs.lemmas.List.{get_or_default}
use Rattle.device_bench.proofs.at_tick.count_from.Goals as goal

pub returns-else-from-tick : goal.returns-else-from-tick
returns-else-from-tick g c =
    record {
      before = c.loop-count.invariant;
      behind = λ k d low l.
          let order = c.requires.order c.loop-count.count k d low l in
          let here = c.index-items-count.is ∙ get_or_default c.args.items.now c.loop-count.count _ d c.loop-count-test.true in
          let now = c.from.ensures ∙ (c.tick.ensures ∙ ap g.T.Ticked.tick here) in
          let past = c.if-from-tick.false in
          omega (arith, order, now, past);
    }
