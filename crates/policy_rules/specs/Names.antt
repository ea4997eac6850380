-- Names that are looked up.
use Rattle.std.specs.Prelude.{◌≡◌, ℕ, List}
use Rattle.policy_lawful.specs.Rules.{is_declared}

-- the first list has just the names of the second
abbrev pub HasAll : List (List ℕ) → List (List ℕ) → Type 0
HasAll all names = (n : List ℕ) → is_declared all n ≡ is_declared names n
