-- Sets of pending vectors, as lists in which none stands twice (this project's own, after Muen's pending events).
use Rattle.std.specs.Prelude.{ℕ, ◌==◌, not, List, ◌∷◌, filter, Option, Some, None, if◌then◌else◌}
use Rattle.std.specs.List.{list_any}

-- without this vector, if there is one
abbrev pub without : Option ℕ → List ℕ → List ℕ
without None vs = vs
without (Some v) vs = filter (λ w. not (w == v)) vs

-- with this vector, if there is one; one that is pending already stays
abbrev pub with_vector : Option ℕ → List ℕ → List ℕ
with_vector None vs = vs
with_vector (Some v) vs = if list_any (λ w. w == v) vs then vs else v ∷ vs
