use Rattle.std.proofs.Common.{false}
use Rattle.std.proofs.lemmas.List.{get_or-replicate}
use Rattle.rules_events.proofs.numbers.are_distinct_in.Goals as goal

pub all_follow-requires-clause-clear : goal.all_follow-requires-clause-clear
all_follow-requires-clause-clear c = λ k l. get_or-replicate 256 k false false l
