-- What calls on a device and on a disk tell.
use Rattle.std.specs.Prelude.{◌≡◌, ℕ, ◌+◌, List, [], ◌∷◌, ◌++◌, Option, Some, None, Result, Ok, Err, ⊤}

-- where failed calls are counted: one more, if this one has failed
abbrev pub CountsFailed : {X E : Type 0} → Option ℕ → Option ℕ → Result X E → Type 0
CountsFailed None new result = ⊤
CountsFailed (Some n) new (Ok x) = new ≡ Some n
CountsFailed (Some n) new (Err e) = new ≡ Some (n + 1)

-- where failed calls are counted: none has failed between
abbrev pub NoneFailed : Option ℕ → Option ℕ → Type 0
NoneFailed None new = ⊤
NoneFailed (Some n) new = new ≡ Some n

-- a call on a disk: a file of this name was opened, or made
pub data DiskCall : Type 0 where
  opening : List ℕ → DiskCall
  making : List ℕ → DiskCall

-- where the calls on a disk are told: this one was made and no other
abbrev pub MakesCall : Option (List DiskCall) → Option (List DiskCall) → DiskCall → Type 0
MakesCall None new call = ⊤
MakesCall (Some calls) new call = new ≡ Some (calls ++ call ∷ [])
