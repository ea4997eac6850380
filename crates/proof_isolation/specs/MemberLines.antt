-- Which lines are those of members (this project's own).
use Rattle.std.specs.Prelude.{ℕ, Bool, List}
use Rattle.std.specs.List.{list_any}
use Rattle.std.specs.Str.{bytes_eq}
use Rattle.subject_model.specs.TurnLine.{TurnLine}

-- the line is one of a member
abbrev pub is_of : List (List ℕ) → TurnLine → Bool
is_of members l = list_any (λ name. bytes_eq name l.subject) members
