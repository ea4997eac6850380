-- What `flows` prints (this project's own).
use Rattle.std.specs.Prelude.{ℕ, List, ◌++◌, codes}
use Rattle.std.specs.List.{flat_map}
use Rattle.policy_lawful.specs.source.Source.{Source}
use Rattle.policy_flows.specs.Flows.{closure_of}

-- the line of the subject of this name: it, and all that reach it, in the policy's order
abbrev pub flow_line : List ℕ → List (List ℕ) → List ℕ
flow_line name members = codes "flow " ++ name ++ codes " from" ++ flat_map (λ m. codes " " ++ m) members ++ codes "\n"

unfoldable pub flow_text_of : Source → List ℕ
flow_text_of p = flat_map (λ s. flow_line s.name (closure_of p s.name)) p.subjects
