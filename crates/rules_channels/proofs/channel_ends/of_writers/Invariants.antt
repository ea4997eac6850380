use Rattle.std.proofs.Common.{◌≡◌, take}
use Rattle.std.specs.Prelude.{filter}
use Rattle.policy_lawful.specs.MoreRules.{is_writer}
use Rattle.rules_channels.proofs.channel_ends.of_writers.Given as goal

abbrev pub invariant-loop-item : goal.invariant-loop-item
invariant-loop-item l = l.kept.items ≡ filter (λ x. is_writer x.1.end.role) (take l.item-index l.noted)
