-- The first `apart` ranges share no address, and of the first `end` some two do.
use Rattle.std.proofs.Common.{◌≡◌, ◌-◌, ◌<◌, ◌≤◌, true, length, take, is_some, None}
use Rattle.policy_lawful.specs.Rules.{first_overlap}
use Rattle.rules_extents.proofs.overlap.longest_apart.Given as goal

abbrev pub invariant-loop-end : goal.invariant-loop-end
invariant-loop-end l = record {
  order : l.apart < l.end;
  within : l.end ≤ length l.extents;
  apart : first_overlap (take l.apart l.extents) ≡ None;
  some : is_some (first_overlap (take l.end l.extents)) ≡ true;
}

abbrev pub decreases-loop-end : goal.decreases-loop-end
decreases-loop-end l = l.end - l.apart
