-- The first element for which something fails.
use Rattle.std.specs.Prelude.{ℕ, ◌<◌, Bool, true, false, List, length, slice_index_or, Option, Some, None}
use Rattle.std.specs.List.{All}

-- an answer tells whether it holds
abbrev pub Decides : Type 0 → Bool → Type 0
Decides P true = P
Decides P false = P → ⊥

-- it holds of what stands at an index
abbrev pub HoldsAt : {X : Type 0} → (X → Type 0) → List X → ℕ → Type 0
HoldsAt {X} P xs k = (d : X) → P (slice_index_or xs k d)

-- it holds of all before this index, and not there
pub record FailsFirst {X : Type 0} (P : X → Type 0) (xs : List X) (k : ℕ) : Type 0 where
  pub within : k < length xs
  pub before : (j : ℕ) (d : X) → j < k → P (slice_index_or xs j d)
  pub here : (d : X) → P (slice_index_or xs k d) → ⊥

-- the first for which it fails, if there is one; else it holds of each
abbrev pub IsFirstFailing : {X : Type 0} → (X → Type 0) → List X → Option ℕ → Type 0
IsFirstFailing P xs None = All P xs
IsFirstFailing P xs (Some k) = FailsFirst P xs k
