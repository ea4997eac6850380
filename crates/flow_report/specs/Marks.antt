-- Sets of indexes by marks, and the rounds that close them.
use Rattle.std.specs.Prelude.{ℕ, ◌==◌, ◌&&◌, ◌||◌, Bool, List, map}
use Rattle.std.specs.List.{list_any, zip}
use Rattle.policy_flows.specs.Flows.{rounds}
use Rattle.flow_report.specs.ByIndex.{rows_of}
use Rattle.flow_report.specs.declared.contacts.Contacts.{Contacts}

-- an index is marked in both
abbrev pub have_common_mark : List Bool → List Bool → Bool
have_common_mark marks row = list_any (λ x. x.0 && x.1) (zip marks row)

-- the marks, and those whose rows touch them
abbrev pub round : List (List Bool) → List Bool → List Bool
round rows marks = map (λ x. x.0 || have_common_mark marks x.1) (zip marks rows)

-- after so many rounds
unfoldable pub after_rounds : List (List Bool) → List Bool → ℕ → List Bool
after_rounds rows marks n = rounds n (round rows) marks

-- one subject's contacts alone
abbrev pub alone_marked : List Contacts → ℕ → List Bool
alone_marked all_contacts index = map (λ f. f.index == index) all_contacts

-- for each subject's contacts the set after so many rounds
abbrev pub sets_after : List Contacts → ℕ → List (List Bool)
sets_after all_contacts n = map (λ f. after_rounds (rows_of all_contacts) (alone_marked all_contacts f.index) n) all_contacts
