-- What is left of the choices is seen behind what was seen so far.
use Rattle.std.proofs.Common.{◌≡◌, ◌++◌}
use Rattle.std.specs.List.{filter_map}
use Rattle.policy_views.specs.Entries.{chosen_region}
use Rattle.policy_views.proofs.windows.chosen_regions.Given as goal

abbrev pub invariant-loop-index : goal.invariant-loop-index
invariant-loop-index l = l.views.items ++ filter_map (chosen_region l.policy l.memory) l.index-iterator ≡ filter_map (chosen_region l.policy l.memory) l.choices.entries
