-- Lists in an order.
use Rattle.std.specs.Prelude.{Bool, List, [], ◌∷◌, if◌then◌else◌}

-- x among the elements of a list: before the first that it may stand before
unfoldable pub inserted : {X : Type 0} → (X → X → Bool) → X → List X → List X
inserted may_precede x [] = x ∷ []
inserted may_precede x (y ∷ ys) = if may_precede x y then x ∷ y ∷ ys else y ∷ inserted may_precede x ys

-- the elements in this order; of two that may stand either way the earlier stays first
unfoldable pub in_order : {X : Type 0} → (X → X → Bool) → List X → List X
in_order may_precede [] = []
in_order may_precede (x ∷ xs) = inserted may_precede x (in_order may_precede xs)
