use Rattle.std.proofs.Common.{◌∙◌, subst}
use Rattle.rules_channels.specs.ByIndex.{AreItems}
use Rattle.rules_events.proofs.Rising.{lists_rise}
use Rattle.rules_events.proofs.Shares.{none_known}
use Rattle.rules_events.proofs.listings.Listings.of.Goals as goal

pub invariant_of-result : goal.invariant_of-result
invariant_of-result c = (
  lists_rise c.in_ok-lists.lists.items c.args.subjects c.args.groups.now
      (subst (AreItems c.in_ok-lists.lists.items c.args.subjects) (c.deref.ensures.value ∙ c.in_ok-noted.ensures) c.in_ok-lists.ensures),
  none_known c.in_ok-lists.lists.items c.new.result.items c.new.ensures.items,
)
