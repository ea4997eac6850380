-- The parts of a text between such bytes, and its lines.
use Rattle.std.specs.Prelude.{ℕ, ◌==◌, List, [], ◌∷◌, length, Option, Some, None, if◌then◌else◌}
use Rattle.std.specs.Borrow.{Bor}
use Rattle.std.specs.List.{slice_split}

-- the parts of a text between such bytes, at least one
abbrev pub parts_of : ℕ → List ℕ → List (List ℕ)
parts_of byte text = slice_split (λ c. c == byte) text

-- the parts that remain: none, or at least one
abbrev pub parts_remaining : ℕ → Option (Bor (List ℕ)) → List (List ℕ)
parts_remaining byte None = []
parts_remaining byte (Some rest) = parts_of byte rest.now

abbrev pub without_empty_end : List (List ℕ) → List (List ℕ)
without_empty_end [] = []
without_empty_end (line ∷ []) = if length line == 0 then [] else line ∷ []
without_empty_end (line ∷ next ∷ more) = line ∷ without_empty_end (next ∷ more)

-- the lines of a text: each ends with a line feed, which the last may lack
unfoldable pub lines_of : List ℕ → List (List ℕ)
lines_of text = without_empty_end (parts_of 10 text)
