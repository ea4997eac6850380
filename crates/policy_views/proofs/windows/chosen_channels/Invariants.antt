-- What is left of the choices is seen behind what was seen so far.
use Rattle.std.proofs.Common.{◌≡◌, ◌++◌}
use Rattle.std.specs.List.{filter_map}
use Rattle.policy_views.specs.Entries.{chosen_channel}
use Rattle.policy_views.proofs.windows.chosen_channels.Given as goal

abbrev pub invariant-loop-index : goal.invariant-loop-index
invariant-loop-index l = l.views.items ++ filter_map (chosen_channel l.policy l.channels) l.index-iterator ≡ filter_map (chosen_channel l.policy l.channels) l.choices.entries
