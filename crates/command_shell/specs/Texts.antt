-- The line that tells why a command isn't done (this project's own).
use Rattle.std.specs.Prelude.{ℕ, List, ◌++◌, ◌⊎◌, codes, decimal}
use Rattle.muen_outside.specs.Puts.{Appended, Failed}
use Rattle.muen_outside.specs.States.{SinkState}

abbrev pub missing_text : List ℕ → List ℕ
missing_text name = codes "missing file " ++ name

abbrev pub too_long_text : List ℕ → ℕ → List ℕ
too_long_text name n = codes "file " ++ (name ++ (codes " has " ++ (decimal n ++ codes " bytes")))

-- the line that a program of this name puts on the error sink
abbrev pub error_line : List ℕ → List ℕ → List ℕ
error_line program text = program ++ (codes ": " ++ (text ++ codes "\n"))

-- the line was appended, or a front of it where the sink has failed
abbrev pub Told : List ℕ → List ℕ → SinkState → SinkState → Type 0
Told program text old new = Appended (error_line program text) old new ⊎ Failed (error_line program text) old new
