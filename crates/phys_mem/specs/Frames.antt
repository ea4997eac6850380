-- Pages by their numbers and their bytes, in two lists side by side.
use Rattle.std.specs.Prelude.{◌≡◌, ◌≢◌, ℕ, zero, suc, ◌+◌, ◌<◌, List, [], ◌∷◌, length, slice_index, take, drop}
use Rattle.machine_layout.specs.Memory.{Page}

abbrev pub pages_by : List ℕ → List (List ℕ) → List Page
pages_by (n ∷ ns) (f ∷ fs) = record { number = n; bytes = f } ∷ pages_by ns fs
pages_by ns fs = []

-- n pages of these bytes, numbered from k
abbrev pub pages_in : ℕ → ℕ → List ℕ → List Page
pages_in zero k bytes = []
pages_in (suc n) k bytes = record { number = k; bytes = take 4096 bytes } ∷ pages_in n (k + 1) (drop 4096 bytes)

-- each number is above those before it
abbrev pub IsRising : List ℕ → Type 0
IsRising ns = (i j : ℕ) → i < j → j < length ns → slice_index ns i < slice_index ns j

-- none of the first i numbers is k
abbrev pub NoneBelow : List ℕ → ℕ → ℕ → Type 0
NoneBelow ns k i = (j : ℕ) → j < i → slice_index ns j ≢ k

-- i is the first index of k
pub record IsFirst (ns : List ℕ) (k i : ℕ) : Type 0 where
  pub within : i < length ns
  pub here : slice_index ns i ≡ k
  pub before : NoneBelow ns k i
