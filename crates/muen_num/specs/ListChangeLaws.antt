-- Laws of lists of which one element is changed. None has a premise on how long the list is.
use Rattle.std.specs.Prelude.{◌≡◌, ◌≢◌, ℕ, List, length, slice_get, option_map}
use Rattle.muen_num.specs.ListChange.{change_at}

-- the element itself is what the change makes of it
abbrev pub TheElementChanges : Type 0 → Type 0
TheElementChanges X = (i : ℕ) (f : X → X) (xs : List X) → slice_get (change_at i f xs) i ≡ option_map f (slice_get xs i)

-- any other stays
abbrev pub OtherElementsStay : Type 0 → Type 0
OtherElementsStay X = (i j : ℕ) (f : X → X) (xs : List X) → j ≢ i → slice_get (change_at i f xs) j ≡ slice_get xs j

abbrev pub ListLengthsStay : Type 0 → Type 0
ListLengthsStay X = (i : ℕ) (f : X → X) (xs : List X) → length (change_at i f xs) ≡ length xs

-- two changes of one element are one
abbrev pub ChangesJoin : Type 0 → Type 0
ChangesJoin X = (i : ℕ) (f g : X → X) (xs : List X) → change_at i g (change_at i f xs) ≡ change_at i (λ x. g (f x)) xs
