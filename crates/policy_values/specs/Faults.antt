-- What is read of a JSON value, or its first fault: a place, as seen from the value, and what was wanted there.
use Rattle.std.specs.Prelude.{ℕ, List, [], ◌∷◌, ◌++◌, Option, Some, None, Result, Ok, Err}
use Rattle.policy_types.specs.declared.refusal.Fault.{Fault}
use Rattle.policy_types.specs.declared.refusal.Want.{Want}

-- what comes after, where there is no fault yet
abbrev pub and_then : {A B : Type 0} → Result A Fault → (A → Result B Fault) → Result B Fault
and_then (Ok x) f = f x
and_then (Err e) f = Err e

-- a fault at this place
abbrev pub fault : {X : Type 0} → List ℕ → Want → Result X Fault
fault place want = Err (record { place = place; want = want })

-- what was read below this step: a fault's place grows at its front
abbrev pub under : {X : Type 0} → List ℕ → Result X Fault → Result X Fault
under step (Ok x) = Ok x
under step (Err f) = Err (record { place = 47 ∷ (step ++ f.place); want = f.want })

abbrev pub or_want : {X : Type 0} → Want → Option X → Result X Fault
or_want want None = fault [] want
or_want want (Some x) = Ok x
