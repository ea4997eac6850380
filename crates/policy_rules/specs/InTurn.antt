-- The rules in turn, in four parts.
use Rattle.std.specs.Prelude.{[], ◌∷◌, Option}
use Rattle.muen_num.specs.Search.{first_of}
use Rattle.policy_lawful.specs.Domains.{offence_21, offence_22, offence_23, offence_24}
use Rattle.policy_lawful.specs.MoreRules.{offence_6, offence_7, offence_9, offence_10, offence_11, offence_12, offence_13, offence_14, offence_15, offence_19}
use Rattle.policy_lawful.specs.Offences.{broken}
use Rattle.policy_lawful.specs.Rules.{offence_3, offence_4, offence_5, offence_8, offence_16, offence_17, offence_18, offence_20}
use Rattle.policy_lawful.specs.refusal.Refusal.{Refusal}
use Rattle.policy_lawful.specs.source.Source.{Source}

-- CPUs, memory, channels and components
abbrev pub memory_broken : Source → Option Refusal
memory_broken p =
    first_of (
    broken 3 (offence_3 p)
    ∷ broken 4 (offence_4 p)
    ∷ broken 5 (offence_5 p)
    ∷ broken 6 (offence_6 p)
    ∷ broken 7 (offence_7 p)
    ∷ broken 8 (offence_8 p)
    ∷ []
    )

-- devices, MSRs and events
abbrev pub grants_broken : Source → Option Refusal
grants_broken p =
    first_of (
    broken 9 (offence_9 p)
    ∷ broken 10 (offence_10 p)
    ∷ broken 11 (offence_11 p)
    ∷ broken 12 (offence_12 p)
    ∷ broken 13 (offence_13 p)
    ∷ broken 14 (offence_14 p)
    ∷ broken 15 (offence_15 p)
    ∷ []
    )

-- the plan, addresses and limits
abbrev pub plan_broken : Source → Option Refusal
plan_broken p =
    first_of (
    broken 16 (offence_16 p)
    ∷ broken 17 (offence_17 p)
    ∷ broken 18 (offence_18 p)
    ∷ broken 19 (offence_19 p)
    ∷ broken 20 (offence_20 p)
    ∷ []
    )

-- domains and monitors
abbrev pub domains_broken : Source → Option Refusal
domains_broken p =
    first_of (
    broken 21 (offence_21 p)
    ∷ broken 22 (offence_22 p)
    ∷ broken 23 (offence_23 p)
    ∷ broken 24 (offence_24 p)
    ∷ []
    )
