-- What the indexes of an element rest on.
use Rattle.std.proofs.lemmas.List.{length-map}
use Rattle.muen_num.proofs.Lists.{map-map}
use Rattle.muen_num.proofs.SearchLaws.{first_in-flat_map, first_over-map}
use Rattle.policy_names.proofs.Refusals.{one_behind_another}

-- of a list of names among subjects or groups
pub ruleset names = (map-map, length-map, first_over-map)

-- of a list of such lists
pub ruleset lists = (map-map, length-map, first_in-flat_map)

-- of a component's entry
pub ruleset entry = (length-map, one_behind_another)
