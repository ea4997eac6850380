-- All rules that are broken.
use Rattle.std.specs.Prelude.{ℕ, List, [], ◌∷◌, Option, Result, Ok, Err}
use Rattle.std.specs.List.{enumerate_from, filter_map}
use Rattle.policy_lawful.specs.Domains.{offence_21, offence_22, offence_23, offence_24}
use Rattle.policy_lawful.specs.Lawful.{offences}
use Rattle.policy_lawful.specs.MoreRules.{offence_6, offence_7, offence_9, offence_10, offence_11, offence_12, offence_13, offence_14, offence_15, offence_19}
use Rattle.policy_lawful.specs.Offences.{broken}
use Rattle.policy_lawful.specs.Resolution.{Resolution, source_of}
use Rattle.policy_lawful.specs.Rules.{offence_3, offence_4, offence_5, offence_8, offence_16, offence_17, offence_18, offence_20}
use Rattle.policy_lawful.specs.declared.offence.Offence.{Offence}
use Rattle.policy_lawful.specs.refusal.Refusal.{Refusal}
use Rattle.policy_lawful.specs.source.Source.{Source}

-- the refusals by those rules that are broken, where these are the first offences against the rules from a number on
abbrev pub refusals_from : ℕ → List (Option Offence) → List Refusal
refusals_from number offences = filter_map (λ e. broken e.0 e.1) (enumerate_from number offences)

-- **the refusals by all rules that are broken**, in the rules' order, each with its first offence
unfoldable pub broken_rules : Source → List Refusal
broken_rules p = refusals_from 1 (offences p)

-- a policy, where no rule is broken; else all that are
abbrev pub all_kept_or : Source → List Refusal → Result Source (List Refusal)
all_kept_or p [] = Ok p
all_kept_or p (refusal ∷ more) = Err (refusal ∷ more)

-- what a call that goes through all rules has kept, as a source policy
abbrev pub all_kept : Result Resolution (List Refusal) → Result Source (List Refusal)
all_kept (Ok r) = Ok (source_of r)
all_kept (Err refusals) = Err refusals

-- ---- the first offences in four parts

-- CPUs, memory, channels and components
abbrev pub memory_offences : Source → List (Option Offence)
memory_offences p = offence_3 p ∷ offence_4 p ∷ offence_5 p ∷ offence_6 p ∷ offence_7 p ∷ offence_8 p ∷ []

-- devices, MSRs and events
abbrev pub grants_offences : Source → List (Option Offence)
grants_offences p = offence_9 p ∷ offence_10 p ∷ offence_11 p ∷ offence_12 p ∷ offence_13 p ∷ offence_14 p ∷ offence_15 p ∷ []

-- the plan, addresses and limits
abbrev pub plan_offences : Source → List (Option Offence)
plan_offences p = offence_16 p ∷ offence_17 p ∷ offence_18 p ∷ offence_19 p ∷ offence_20 p ∷ []

-- domains and monitors
abbrev pub domains_offences : Source → List (Option Offence)
domains_offences p = offence_21 p ∷ offence_22 p ∷ offence_23 p ∷ offence_24 p ∷ []
