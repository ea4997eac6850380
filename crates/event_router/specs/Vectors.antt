-- Sets of interrupt vectors, by a mark for each (this project's own, after Muen's pending events).
use Rattle.std.specs.Prelude.{ℕ, zero, suc, Bool, true, false, if◌then◌else◌, ◌≡◌, ◌≤◌, ◌&&◌, ◌||◌, slice_index_or, slice_set, replicate, List, Option, Some, None}

-- no vector
unfoldable pub no_marks : ℕ → List Bool
no_marks n = replicate n false

abbrev pub no_vectors : List Bool
no_vectors = no_marks 256

abbrev pub has : List Bool → ℕ → Bool
has s v = slice_index_or s v false

-- none from this number on is in the set
abbrev pub NoneFrom : ℕ → List Bool → Type 0
NoneFrom n s = (v : ℕ) → n ≤ v → has s v ≡ false

-- with this vector, and without it
abbrev pub with_vector : ℕ → List Bool → List Bool
with_vector v s = slice_set s v true

abbrev pub without_vector : ℕ → List Bool → List Bool
without_vector v s = slice_set s v false

-- the greatest number below n for which the test holds
abbrev pub greatest : ℕ → (ℕ → Bool) → Option ℕ
greatest zero test = None
greatest (suc n) test = if test n then Some n else greatest n test

-- the vector that is delivered: the greatest of those that are deliverable at any turn, and where `entry` holds of those that
-- are deliverable later too
abbrev pub delivered : List Bool → List Bool → Bool → Option ℕ
delivered now later entry = greatest 256 (λ v. has now v || (entry && has later v))
