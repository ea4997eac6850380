-- Which tables were entered.
use Rattle.std.specs.Prelude.{◌≡◌, ◌≢◌, ℕ, ◌+◌, ◌==◌, ◌&&◌, ◌||◌, not, Bool, true, false, List, ◌∷◌}
use Rattle.std.specs.List.{count_by}
use Rattle.muen_num.specs.Numbers.{is_among}
use Rattle.ept_check.specs.declared.looked.Entering.{Entering}
use Rattle.ept_check.specs.declared.looked.Entering.TheVariants.{Again, Now, Outside}
use Rattle.ept_check.specs.declared.looked.Looked.{Looked}

-- the mark that stands beside a number
abbrev pub is_number_marked : List ℕ → List Bool → ℕ → Bool
is_number_marked (n ∷ ns) (b ∷ bs) t = ((n == t) && b) || is_number_marked ns bs t
is_number_marked ns bs t = false

abbrev pub is_entered : List ℕ → Looked → ℕ → Bool
is_entered pages looked t = is_number_marked pages looked.entered.items t

-- how many tables are left
abbrev pub left : Looked → ℕ
left looked = count_by not looked.entered.items

-- the table is entered, and nothing else changes
pub record IsNow (pages : List ℕ) (old new : Looked) (t : ℕ) : Type 0 where
  pub is : is_among pages t ≡ true
  pub before : is_entered pages old t ≡ false
  pub after : is_entered pages new t ≡ true
  pub others : (u : ℕ) → u ≢ t → is_entered pages new u ≡ is_entered pages old u
  pub one : left new + 1 ≡ left old

abbrev pub Enters : List ℕ → Looked → Looked → ℕ → Entering → Type 0
Enters pages old new t Outside = (is_among pages t ≡ false) × (new ≡ old)
Enters pages old new t Again = (is_entered pages old t ≡ true) × (new ≡ old)
Enters pages old new t Now = IsNow pages old new t
