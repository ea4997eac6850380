use Rattle.std.proofs.Common.{◌≡◌, false, take}
use Rattle.muen_num.specs.Numbers.{share}
use Rattle.rules_events.proofs.listings.share.Given as goal

abbrev pub invariant-loop-index : goal.invariant-loop-index
invariant-loop-index l = share (take l.index-index l.one) l.other ≡ false
