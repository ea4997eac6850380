-- What a call that looks for broken rules answers.
use Rattle.std.specs.Prelude.{◌≡◌, Option, None, Result, Ok, Err}
use Rattle.muen_num.specs.Answers.{Explains}
use Rattle.policy_types.specs.declared.refusal.Refusal.{Refusal}
use Rattle.policy_types.specs.declared.refusal.Refusal.TheVariants.{NoMemory}

-- no rule is broken, and this holds of the answer; else the refusal is the broken rule's, unless memory was refused
abbrev pub Keeps : {X : Type 0} → Option Refusal → (X → Type 0) → Result X Refusal → Type 0
Keeps broken Holds (Ok x) = (broken ≡ None) × Holds x
Keeps broken Holds (Err refusal) = Explains NoMemory broken refusal
