-- What the rests share; one of them gets shorter.
use Rattle.std.proofs.Common.{◌≡◌, ◌+◌, ◌-◌, drop, length}
use Rattle.muen_num.specs.Numbers.{share}
use Rattle.rules_events.proofs.listings.share_merged.Given as goal

abbrev pub invariant-loop-i : goal.invariant-loop-i
invariant-loop-i l = share l.one l.other ≡ share (drop l.i l.one) (drop l.j l.other)

abbrev pub decreases-loop-i : goal.decreases-loop-i
decreases-loop-i l = (length l.one - l.i) + (length l.other - l.j)
