-- Lists by number, of which one element is changed.
use Rattle.std.specs.Prelude.{ℕ, zero, suc, List, [], ◌∷◌}

-- element i is what the function makes of it; where there is none, the list stays
abbrev pub change_at : {X : Type 0} → ℕ → (X → X) → List X → List X
change_at i f [] = []
change_at zero f (x ∷ xs) = f x ∷ xs
change_at (suc i) f (x ∷ xs) = x ∷ change_at i f xs
