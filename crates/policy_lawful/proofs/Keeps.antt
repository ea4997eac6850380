-- One rule behind another, and the answer of a call that has looked at all of them.
use Rattle.std.proofs.Common.{◌≡◌, Option, Some, None, Err, inl, inr, ap}
use Rattle.std.specs.Option.{option_or}
use Rattle.muen_num.specs.Answers.{Explains, Answers}
use Rattle.policy_lawful.specs.Lawful.{kept_or}
use Rattle.policy_types.specs.declared.refusal.Refusal.{Refusal}
use Rattle.policy_types.specs.declared.refusal.Refusal.TheVariants.{NoMemory}
use Rattle.policy_types.specs.declared.source.Source.{Source}

-- ---- one behind another

-- what is found first is the first, whatever stands behind it
pub first_found : {E : Type 0} (a b : Option E) (e : E) → a ≡ Some e → option_or a b ≡ Some e
first_found None b e h = absurd (cc)
first_found (Some x) b e h = h

-- an error that is explained by one thing, where that is another
pub explains_still : {E : Type 0} (memory : E) (a b : Option E) → ((e : E) → a ≡ Some e → b ≡ Some e) → (e : E) → Explains memory a e → Explains memory b e
explains_still memory a b still e h = elim h [ inl is ↦ inl is | inr found ↦ inr (still e found) ]

-- an error that is explained by the first of two
pub explains_first : {E : Type 0} (memory : E) (a b : Option E) (e : E) → Explains memory a e → Explains memory (option_or a b) e
explains_first memory a b e h = explains_still memory a (option_or a b) (first_found a b) e h

-- ---- the whole answer

-- a policy that is refused
pub refused : (p : Source) (broken : Option Refusal) (refusal : Refusal) → Explains NoMemory broken refusal → Answers NoMemory (kept_or p broken) (Err refusal)
refused p broken refusal h = elim h [ inl is ↦ inl is | inr found ↦ inr (ap (kept_or p) found) ]
