use Rattle.std.proofs.Common.{Some, sym}
use Rattle.record_text.proofs.Ticks.{last_tells}
use Rattle.record_text.proofs.made.has_order.Goals as goal

pub returns-in-Some : goal.returns-in-Some
returns-in-Some c = sym (last_tells c.args.tick c.args.orders.now (Some c.in-Some.order.now) c.requires c.in-Some.ensures.value)
