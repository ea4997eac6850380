-- Which of the rules on names a policy breaks.
use Rattle.std.specs.Prelude.{[], ◌∷◌, Option}
use Rattle.muen_num.specs.Search.{first_of}
use Rattle.policy_lawful.specs.Offences.{broken}
use Rattle.policy_lawful.specs.Rules.{offence_1, offence_2}
use Rattle.policy_lawful.specs.refusal.Refusal.{Refusal}
use Rattle.policy_lawful.specs.source.Source.{Source}

-- the least of rules 1 and 2 that is broken: names and references
unfoldable pub names_broken : Source → Option Refusal
names_broken p = first_of (broken 1 (offence_1 p) ∷ broken 2 (offence_2 p) ∷ [])
