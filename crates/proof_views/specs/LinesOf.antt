-- The lines of one subject.
use Rattle.std.specs.Prelude.{ℕ, List, filter}
use Rattle.std.specs.Str.{bytes_eq}
use Rattle.subject_model.specs.TurnLine.{TurnLine}

-- those of the subject with this name, in their order
abbrev pub lines_of : List ℕ → List TurnLine → List TurnLine
lines_of name lines = filter (λ l. bytes_eq l.subject name) lines
