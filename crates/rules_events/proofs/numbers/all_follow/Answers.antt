use Rattle.std.proofs.Common.{arith}
use Rattle.rules_events.proofs.Distinct.{followed, refused}
use Rattle.rules_events.proofs.numbers.all_follow.Goals as goal

pub returns-then-not-may_follow : goal.returns-then-not-may_follow
returns-then-not-may_follow c =
    refused c.loop-number.marks c.args.first c.args.last c.args.numbers.now c.loop-number.number-index 0 c.may_follow.result c.loop-number-test.true (omega arith) c.loop-number.invariant.marks c.may_follow.ensures c.if-not-may_follow.true

pub loop-number-preserved : goal.loop-number-preserved
loop-number-preserved c =
    followed c.loop-number.marks c.mark.new.marks c.args.first c.args.last c.args.numbers.now c.loop-number.number-index 0 c.may_follow.result c.loop-number-test.true (omega arith) (omega arith) c.loop-number.invariant c.may_follow.ensures c.if-not-may_follow.false c.mark.ensures
