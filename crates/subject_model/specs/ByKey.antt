-- Values by their keys, of which one is changed. A test tells which keys are the same.
use Rattle.std.specs.Prelude.{◌≡◌, true, false, Bool, List, [], ◌∷◌, Option, Some, None, if◌then◌else◌}

-- the value of the first entry with this key
abbrev pub value_of : {K V : Type 0} → (K → K → Bool) → List (K × V) → K → Option V
value_of same [] k = None
value_of same (e ∷ es) k = if same e.0 k then Some e.1 else value_of same es k

-- the first entry with this key has what the function makes of its value; where there is none, all stays
abbrev pub change_of : {K V : Type 0} → (K → K → Bool) → K → (V → V) → List (K × V) → List (K × V)
change_of same k f [] = []
change_of same k f (e ∷ es) = if same e.0 k then (e.0, f e.1) ∷ es else e ∷ change_of same k f es

-- two keys are told apart
abbrev pub AreApart : {K : Type 0} → (K → K → Bool) → K → K → Type 0
AreApart {K = K} same k q = (a : K) → same a k ≡ true → same a q ≡ false
