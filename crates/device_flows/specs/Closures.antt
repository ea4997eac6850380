-- Sets that are closed under a relation, and the least one with a start.
use Rattle.std.specs.Prelude.{◌≡◌, ◌&&◌, ◌||◌, Bool, true, List, length}
use Rattle.std.specs.List.{All, list_any}
use Rattle.policy_flows.specs.Flows.{rounds}

module _ {X : Type 0} (leads : X → X → Bool) (xs : List X) where
  -- the members, and those that lead to one
  abbrev pub joined : (X → Bool) → X → Bool
  joined members x = members x || list_any (λ y. members y && leads x y) xs

  -- as many rounds as there are elements
  unfoldable pub closure_from : (X → Bool) → X → Bool
  closure_from start = rounds (length xs) joined start

  -- each that leads to a member is a member
  pub record IsClosedUnder (members : X → Bool) : Type 0 where
    pub sources : All (λ y. members y ≡ true → All (λ x. leads x y ≡ true → members x ≡ true) xs) xs

  -- each of these is one of those
  abbrev pub AreWithin : (X → Bool) → (X → Bool) → Type 0
  AreWithin these those = All (λ x. these x ≡ true → those x ≡ true) xs

  -- it has the start and is closed, and is within every such set
  pub record IsLeastFrom (start members : X → Bool) : Type 0 where
    pub has : AreWithin start members
    pub closed : IsClosedUnder members
    pub least : (others : X → Bool) → AreWithin start others → IsClosedUnder others → AreWithin members others
