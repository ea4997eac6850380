-- Indexes that stand for names.
use Rattle.std.specs.Prelude.{◌≡◌, ℕ, Bool, true, List, nat_lt}
use Rattle.std.specs.List.{list_all}

-- the names at the indexes of this are those of an element, and each index is in range
pub record StandsFor {X Y : Type 0} (named : X → Y) (in_range : X → Bool) (y : Y) (x : X) : Type 0 where
  pub same : named x ≡ y
  pub there : in_range x ≡ true

-- the index that each of these has is below a bound
abbrev pub all_below : {X : Type 0} → (X → ℕ) → ℕ → List X → Bool
all_below index bound xs = list_all (λ x. nat_lt (index x) bound) xs
