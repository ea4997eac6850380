-- Which rule a policy breaks, and the policies that break none.
use Rattle.std.specs.Prelude.{◌≡◌, List, [], ◌∷◌, Option, Some, None, Result, Ok, Err}
use Rattle.std.specs.List.{enumerate_from}
use Rattle.policy_lawful.specs.Domains.{offence_21, offence_22, offence_23, offence_24}
use Rattle.policy_lawful.specs.MoreRules.{offence_6, offence_7, offence_9, offence_10, offence_11, offence_12, offence_13, offence_14, offence_15, offence_19}
use Rattle.policy_lawful.specs.Rules.{offence_1, offence_2, offence_3, offence_4, offence_5, offence_8, offence_16, offence_17, offence_18, offence_20}
use Rattle.muen_num.specs.Search.{first_in}
use Rattle.policy_lawful.specs.Offences.{broken}
use Rattle.policy_lawful.specs.declared.offence.Offence.{Offence}
use Rattle.policy_types.specs.declared.refusal.Refusal.{Refusal}
use Rattle.policy_types.specs.declared.source.Source.{Source}

-- the first offence against each rule, in the rules' order
unfoldable pub offences : Source → List (Option Offence)
offences p =
    offence_1 p ∷ offence_2 p ∷ offence_3 p ∷ offence_4 p ∷ offence_5 p ∷ offence_6 p ∷ offence_7 p ∷ offence_8 p
    ∷ offence_9 p ∷ offence_10 p ∷ offence_11 p ∷ offence_12 p ∷ offence_13 p ∷ offence_14 p ∷ offence_15 p ∷ offence_16 p
    ∷ offence_17 p ∷ offence_18 p ∷ offence_19 p ∷ offence_20 p ∷ offence_21 p ∷ offence_22 p ∷ offence_23 p ∷ offence_24 p
    ∷ []

-- the refusal by the least rule that is broken
unfoldable pub unlawful : Source → Option Refusal
unlawful p = first_in (λ e. broken e.0 e.1) (enumerate_from 1 (offences p))

-- a policy that keeps every rule
abbrev pub IsLawful : Source → Type 0
IsLawful p = unlawful p ≡ None

-- a policy that keeps the rules, else why not
abbrev pub kept_or : Source → Option Refusal → Result Source Refusal
kept_or p None = Ok p
kept_or p (Some refusal) = Err refusal
