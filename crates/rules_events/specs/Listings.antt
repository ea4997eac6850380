-- The scheduling groups that list each subject, by indexes.
use Rattle.std.specs.Prelude.{◌≡◌, ℕ, ◌<◌, ◌≤◌, ◌==◌, Bool, List, [], length, map, slice_index_or}
use Rattle.std.specs.List.{All, enumerate_from, flat_map, list_any}
use Rattle.policy_lawful.specs.declared.resolved.Group.{Group}
use Rattle.rules_events.specs.declared.listings.Shared.{Shared}
use Rattle.muen_num.specs.Numbers.{share}

-- a group with its index, at each of its members
abbrev pub memberships : ℕ × Group → List (ℕ × ℕ)
memberships (index, g) = map (λ i. (i, index)) g.subjects

abbrev pub all_memberships : List Group → List (ℕ × ℕ)
all_memberships groups = flat_map memberships (enumerate_from 0 groups)

-- no index is less than one before it
abbrev pub Rises : List ℕ → Type 0
Rises indexes = (i j : ℕ) → i ≤ j → j < length indexes → slice_index_or indexes i 0 ≤ slice_index_or indexes j 0

-- in each list
abbrev pub HaveRising : List (List ℕ) → Type 0
HaveRising lists = (k : ℕ) → Rises (slice_index_or lists k [])

-- of each of these pairs of subjects it is said whether some group lists both
abbrev pub AreKnownPairs : List (List ℕ) → List Shared → Type 0
AreKnownPairs lists known = All (λ s. s.shares ≡ share (slice_index_or lists s.one []) (slice_index_or lists s.other [])) known
