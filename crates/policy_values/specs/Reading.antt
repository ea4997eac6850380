-- The answers of functions that read a JSON value.
use Rattle.std.specs.Prelude.{◌≡◌, ℕ, List, ◌∷◌, ◌++◌, Result, Ok, Err}
use Rattle.policy_types.specs.declared.refusal.Fault.{Fault as FirstFault}
use Rattle.policy_values.specs.declared.fault.ReadError.{ReadError}
use Rattle.policy_values.specs.declared.fault.ReadError.TheVariants.{Fault, NoMemory}

-- what is read, or the error of its first fault
abbrev pub as_read_error : {X : Type 0} → Result X FirstFault → Result X ReadError
as_read_error (Ok x) = Ok x
as_read_error (Err f) = Err (Fault f)

-- it is what is wanted, unless memory was refused
abbrev pub Gives : {X : Type 0} → Result X FirstFault → Result X ReadError → Type 0
Gives wanted (Ok x) = wanted ≡ Ok x
Gives wanted (Err (Fault f)) = wanted ≡ Err f
Gives wanted (Err NoMemory) = Unit {0}

-- the same error, seen from one step further up: a fault's place grows at its front
abbrev pub error_under : List ℕ → ReadError → ReadError
error_under step (Fault f) = Fault (record { place = 47 ∷ (step ++ f.place); want = f.want })
error_under step NoMemory = NoMemory
