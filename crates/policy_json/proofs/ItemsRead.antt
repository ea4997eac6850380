-- Items that were read before.
use Rattle.std.proofs.Common.{◌≡◌, List, [], ◌∷◌, ◌++◌, Result, Ok, Err, refl, sym, ap, append_assoc}
use Rattle.policy_types.specs.declared.refusal.Fault.{Fault}
use Rattle.policy_values.specs.Faults.{and_then}

abbrev pub with_front : {X : Type 0} → List X → Result (List X) Fault → Result (List X) Fault
with_front front (Ok xs) = Ok (front ++ xs)
with_front front (Err f) = Err f

pub with_front-none : {X : Type 0} (r : Result (List X) Fault) → with_front [] r ≡ r
with_front-none (Ok xs) = refl
with_front-none (Err f) = refl

pub with_front-item : {X : Type 0} (front : List X) (x : X) (r : Result (List X) Fault) → with_front front (and_then r λ xs. Ok (x ∷ xs)) ≡ with_front (front ++ x ∷ []) r
with_front-item front x (Ok xs) = ap (λ l. Ok l) (sym (append_assoc front (x ∷ []) xs))
with_front-item front x (Err f) = refl

pub ruleset fronts = (with_front-none, with_front-item)
