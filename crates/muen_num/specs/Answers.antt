-- What a call answers where memory may be refused, over any type of errors.
use Rattle.std.specs.Prelude.{◌≡◌, ◌⊎◌, Option, Some, Result, Ok, Err}

-- the error is the one that is wanted, if one is, or that of refused memory
abbrev pub Explains : {E : Type 0} → E → Option E → E → Type 0
Explains memory wanted e = (e ≡ memory) ⊎ (wanted ≡ Some e)

-- exactly what is wanted, unless memory was refused, which `memory` tells
abbrev pub Answers : {X E : Type 0} → E → Result X E → Result X E → Type 0
Answers memory wanted (Ok x) = wanted ≡ Ok x
Answers memory wanted (Err e) = (e ≡ memory) ⊎ (wanted ≡ Err e)
