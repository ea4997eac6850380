-- What a broken rule names, and its refusal.
use Rattle.std.specs.Prelude.{ℕ, List, Option, option_map}
use Rattle.policy_lawful.specs.declared.offence.Offence.{Offence}
use Rattle.policy_types.specs.declared.refusal.Refusal.{Refusal}
use Rattle.policy_types.specs.declared.refusal.Refusal.TheVariants.{Rule}

-- where one thing alone is named, it is named twice
abbrev pub alone : List ℕ → Offence
alone name = record { first = name; second = name }

abbrev pub two : List ℕ → List ℕ → Offence
two first second = record { first = first; second = second }

-- the refusal of a rule that is broken
abbrev pub broken : ℕ → Option Offence → Option Refusal
broken number o = option_map (λ x. Rule number x.first x.second) o
