-- The text of flows by marks.
use Rattle.std.specs.Prelude.{ℕ, Bool, true, false, List, [], ◌++◌, codes, map, slice_index_or}
use Rattle.std.specs.List.{enumerate_from, flat_map}
use Rattle.policy_lawful.specs.declared.resolved.Subject.{Subject}
use Rattle.flow_report.specs.Sets.{marked_elements}

-- a name behind a space, where it is marked
abbrev pub member_text : Bool → List ℕ → List ℕ
member_text true name = codes " " ++ name
member_text false name = []

-- of the subject with this number
abbrev pub member_at : List Bool → ℕ × Subject → List ℕ
member_at set (index, s) = member_text (slice_index_or set index false) s.name

abbrev pub members_text : List Bool → List Subject → List ℕ
members_text set subjects = flat_map (λ m. codes " " ++ m) (marked_elements set (map (λ s. s.name) subjects))

-- what stands before the members in a line, and behind them
unfoldable pub line_start : List ℕ → List ℕ
line_start name = codes "flow " ++ name ++ codes " from"

unfoldable pub line_end : List ℕ
line_end = codes "\n"

-- the line of the subject with this number
abbrev pub flow_line_at : List Subject → List (List Bool) → ℕ × Subject → List ℕ
flow_line_at subjects sets (index, s) = line_start s.name ++ members_text (slice_index_or sets index []) subjects ++ line_end

abbrev pub lines_text : List Subject → List (List Bool) → List ℕ
lines_text subjects sets = flat_map (flow_line_at subjects sets) (enumerate_from 0 subjects)
