-- What is noted at each index.
use Rattle.std.specs.Prelude.{◌≡◌, ℕ, ◌<◌, ◌==◌, List, [], map, filter, length, slice_index_or}

-- the items that are noted at an index, in order
abbrev pub items_at_index : {X : Type 0} → ℕ → List (ℕ × X) → List X
items_at_index index xs = map (λ x. x.1) (filter (λ x. x.0 == index) xs)

-- so many lists, each of what is noted at its index
pub record AreItems {X : Type 0} (lists : List (List X)) (indexes : ℕ) (xs : List (ℕ × X)) : Type 0 where
  pub room : length lists ≡ indexes
  pub at : (k : ℕ) → k < indexes → slice_index_or lists k [] ≡ items_at_index k xs

-- so many empty lists
pub record AreEmpty {X : Type 0} (lists : List (List X)) (indexes : ℕ) : Type 0 where
  pub room : length lists ≡ indexes
  pub at : (k : ℕ) → slice_index_or lists k [] ≡ []
