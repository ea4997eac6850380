-- What is left of the choices is seen behind what was seen so far.
use Rattle.std.proofs.Common.{◌≡◌, ◌++◌}
use Rattle.std.specs.List.{filter_map}
use Rattle.policy_views.specs.Entries.{chosen_end}
use Rattle.policy_views.proofs.ends.chosen_ends.Given as goal

abbrev pub invariant-loop-index : goal.invariant-loop-index
invariant-loop-index l = l.ends.items ++ filter_map (chosen_end l.channels) l.index-iterator ≡ filter_map (chosen_end l.channels) l.choices.entries
