-- For each subject of a policy the set of those that can reach it, by indexes.
use Rattle.std.specs.Prelude.{◌≡◌, ℕ, Bool, true, false, List, [], ◌∷◌, length, map}
use Rattle.std.specs.List.{All, AllZip}
use Rattle.policy_lawful.specs.source.Source.{Source}
use Rattle.policy_flows.specs.Flows.{IsLeastClosed, closure_of, flows_to}
use Rattle.proof_isolation.specs.TwoSystems.{DependOnMembersAlone}

-- those elements whose index is marked
unfoldable pub marked_elements : {X : Type 0} → List Bool → List X → List X
marked_elements [] xs = []
marked_elements (b ∷ bs) [] = []
marked_elements (true ∷ bs) (x ∷ xs) = x ∷ marked_elements bs xs
marked_elements (false ∷ bs) (x ∷ xs) = marked_elements bs xs

-- the subjects, by name, of a set of indexes
abbrev pub members_of : Source → List Bool → List (List ℕ)
members_of p set = marked_elements set (map (λ s. s.name) p.subjects)

-- for each subject the subjects to which it flows directly
abbrev pub direct_flows_of : Source → List (List Bool)
direct_flows_of p = map (λ u. map (flows_to p u) p.subjects) p.subjects

-- for each subject the closed set
abbrev pub AreFlows : Source → List (List Bool) → Type 0
AreFlows p sets = map (members_of p) sets ≡ map (λ s. closure_of p s.name) p.subjects

-- each has a mark for each subject, and none behind them
abbrev pub HaveMarksOf : Source → List (List Bool) → Type 0
HaveMarksOf p sets = All (λ set. length set ≡ length p.subjects) sets

-- for each subject the least closed set with it
abbrev pub AreLeastClosed : Source → List (List Bool) → Type 0
AreLeastClosed p sets = AllZip (λ s set. IsLeastClosed p s.name (members_of p set)) p.subjects sets

-- the members of each set are apart from all others: in every second lawful policy in which the set is closed and that agrees on what
-- reaches them, with any files and records, each member has at each tick below both ends the same view
abbrev pub AreApart : Source → List (List Bool) → Type 0
AreApart p sets = All (λ set. DependOnMembersAlone p (members_of p set)) sets
