-- CPUs that were read before.
use Rattle.std.proofs.Common.{◌≡◌, List, [], ◌∷◌, ◌++◌, Result, Ok, Err, refl, sym, ap, append_assoc}
use Rattle.text_words.specs.Steps.{◌>>=◌}
use Rattle.record_text.specs.declared.fault.LineWant.{LineWant}

abbrev pub with_front : {X : Type 0} → List X → Result (List X) LineWant → Result (List X) LineWant
with_front front (Ok xs) = Ok (front ++ xs)
with_front front (Err want) = Err want

pub with_front-none : {X : Type 0} (r : Result (List X) LineWant) → with_front [] r ≡ r
with_front-none (Ok xs) = refl
with_front-none (Err want) = refl

pub with_front-item : {X : Type 0} (front : List X) (x : X) (r : Result (List X) LineWant) → with_front front (r >>= λ xs. Ok (x ∷ xs)) ≡ with_front (front ++ x ∷ []) r
with_front-item front x (Ok xs) = ap (λ l. Ok l) (sym (append_assoc front (x ∷ []) xs))
with_front-item front x (Err want) = refl

pub ruleset fronts = (with_front-none, with_front-item)
