use Rattle.std.proofs.Common.{◌≡◌, not, take}
use Rattle.std.specs.Prelude.{filter}
use Rattle.policy_lawful.specs.MoreRules.{is_writer}
use Rattle.rules_channels.proofs.channel_ends.of_readers.Given as goal

abbrev pub invariant-loop-item : goal.invariant-loop-item
invariant-loop-item l = l.kept.items ≡ filter (λ x. not (is_writer x.1.end.role)) (take l.item-index l.noted)
