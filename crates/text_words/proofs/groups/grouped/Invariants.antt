use Rattle.std.proofs.Common.{◌≡◌, drop}
use Rattle.text_words.specs.Groups.{groups_of, number_of_groups}
use Rattle.text_words.proofs.GroupsInTurn.{read_on}
use Rattle.text_words.proofs.groups.grouped.Given as goal

abbrev pub invariant-loop-c : goal.invariant-loop-c
invariant-loop-c l = read_on l.n l.digit (drop l.c-index l.digits) ≡ number_of_groups (groups_of l.digits)
