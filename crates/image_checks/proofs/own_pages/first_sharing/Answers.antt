use Rattle.std.proofs.Common.{length, arith, rules}
use Rattle.image_checks.specs.OwnPages.{SharesWithNone}
use Rattle.image_checks.proofs.OwnPageLaws.{each_number, first_number, one_more}
use Rattle.image_checks.proofs.own_pages.first_sharing.Goals as goal

pub returns-then-not-shares_with_none : goal.returns-then-not-shares_with_none
returns-then-not-shares_with_none c = first_number (SharesWithNone c.args.parts.now) (length c.args.parts.now) c.loop-index.index c.shares_with_none.result (omega arith) c.loop-index.invariant (search rules) c.shares_with_none.ensures

pub loop-index-preserved : goal.loop-index-preserved
loop-index-preserved c = one_more (SharesWithNone c.args.parts.now) c.loop-index.index c.shares_with_none.result c.loop-index.invariant (search rules) c.shares_with_none.ensures

pub returns : goal.returns
returns c = each_number (SharesWithNone c.args.parts.now) (length c.args.parts.now) c.loop-index.index (omega arith) c.loop-index.invariant
