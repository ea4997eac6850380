-- Indexes that are marked.
use Rattle.std.specs.Prelude.{◌≡◌, ℕ, ◌<◌, ◌==◌, Bool, false, List, length, slice_index_or, if◌then◌else◌}

-- one index, if it is there, has this mark now
abbrev pub Marks : List Bool → List Bool → ℕ → Bool → Type 0
Marks old new index with = (k : ℕ) → k < length old → slice_index_or new k false ≡ (if index == k then with else slice_index_or old k false)

-- so many indexes with no mark
pub record AreClear (marks : List Bool) (indexes : ℕ) : Type 0 where
  pub room : length marks ≡ indexes
  pub clear : (k : ℕ) → k < length marks → slice_index_or marks k false ≡ false
