-- Refusals as they are put: each in a line, in the words of every program.
use Rattle.std.specs.Prelude.{ℕ, List, ◌++◌, codes, flat_map}
use Rattle.policy_types.specs.Refusals.{refusal_text}
use Rattle.policy_lawful.specs.refusal.Refusal.{Refusal}

abbrev pub line_of : Refusal → List ℕ
line_of refusal = refusal_text refusal ++ codes "\n"

abbrev pub lines_of : List Refusal → List ℕ
lines_of refusals = flat_map line_of refusals
