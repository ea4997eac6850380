-- Where nothing offends.
use Rattle.std.proofs.Common.{◌≡◌, ℕ, Option, Some, None, refl}
use Rattle.policy_lawful.specs.Offences.{broken}
use Rattle.policy_lawful.specs.declared.offence.Offence.{Offence}

-- where a rule isn't broken, nothing offends against it
pub none_broken : (number : ℕ) (o : Option Offence) → broken number o ≡ None → o ≡ None
none_broken number None h = refl
none_broken number (Some x) h = absurd (cc)
