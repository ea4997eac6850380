use Rattle.std.proofs.Common.{length}
use Rattle.image_checks.proofs.SpansOfNumbers.{all_more, one_more}
use Rattle.image_checks.specs.Contents.{thing_index}
use Rattle.image_checks.proofs.contents.thing_indexes.Goals as goal

pub loop-number-preserved : goal.loop-number-preserved
loop-number-preserved c =
    record {
      value = one_more (thing_index c.args.spans.now) c.loop-number.number c.loop-number.indexes.items _ c.thing_index.result c.loop-number.invariant.value c.in_ok-push_some.ensures c.thing_index.ensures.value;
      within = all_more (length c.args.spans.now) c.loop-number.indexes.items _ c.thing_index.result c.loop-number.invariant.within c.in_ok-push_some.ensures c.thing_index.ensures.within;
    }
