-- Rule 8 of a resolved policy: who has windows on a region, told by its index.
use Rattle.std.specs.Prelude.{◌≡◌, ℕ, ◌<◌, ◌==◌, ◌&&◌, not, Bool, true, false, List, [], ◌∷◌, ◌++◌, length, map, slice_index_or, Option, Some, None, option_and_then, option_map, if◌then◌else◌}
use Rattle.std.specs.Option.{option_or}
use Rattle.std.specs.List.{filter_map, find, flat_map, list_any}
use Rattle.std.specs.Str.{bytes_eq}
use Rattle.muen_num.specs.Search.{first_after, unless}
use Rattle.muen_num.specs.declared.access.AccessKind.TheVariants.{Write}
use Rattle.policy_lawful.specs.Offences.{two}
use Rattle.policy_lawful.specs.Resolution.{Resolution}
use Rattle.policy_lawful.specs.Rules.{is_declared}
use Rattle.policy_lawful.specs.declared.offence.Offence.{Offence}
use Rattle.policy_lawful.specs.declared.resolved.Subject.{Subject}
use Rattle.policy_lawful.specs.Rights.{allows}
use Rattle.policy_lawful.specs.source.Region.{Region}
use Rattle.policy_lawful.specs.Views.{is_on_region, views_of}
use Rattle.policy_lawful.specs.declared.view.View.{View}
use Rattle.policy_rules.specs.declared.writers.User.{User}

-- ---- users of a region

-- the subject of this name as a user of the region at an index, by one of its windows
abbrev pub user_of : ℕ → List ℕ → View → Option User
user_of index name v =
    if is_on_region index v.shows then Some (record { name = name; writes = allows v.rights Write }) else None

-- by all of its windows
abbrev pub uses_of : Resolution → ℕ → Subject → List User
uses_of r index s = filter_map (user_of index s.name) (views_of r s)

-- these subjects as users, in order
abbrev pub users_of : Resolution → ℕ → List Subject → List User
users_of r index subjects = flat_map (uses_of r index) subjects

-- a list that has one more, or not
abbrev pub with_user_if : List User → Bool → User → List User
with_user_if old false u = old
with_user_if old true u = old ++ u ∷ []

-- a list that has this one more, if there is one
abbrev pub with_user : List User → Option User → List User
with_user old None = old
with_user old (Some u) = old ++ u ∷ []

-- at each region's index its users among these subjects
pub record HasUsers (r : Resolution) (users : List (List User)) (subjects : List Subject) : Type 0 where
  pub room : length users ≡ length r.memory
  pub at : (k : ℕ) → k < length r.memory → slice_index_or users k [] ≡ users_of r k subjects

-- ---- what a region's users do wrong

-- the first other than the writer, if there is a writer
abbrev pub other_among : List User → List ℕ → Option User → Option Offence
other_among users region writer =
    option_and_then (λ w. option_map (λ u. two region u.name) (find (λ u. not (bytes_eq u.name w.name)) users)) writer

-- the first that isn't among these names
abbrev pub stranger_among : List (List ℕ) → List ℕ → List User → Option Offence
stranger_among names region users =
    option_map (λ u. two region u.name) (find (λ u. not (is_declared names u.name)) users)

-- a name of a region's list that stood before, or that isn't among these names
abbrev pub not_shared : List (List ℕ) → List ℕ → List (List ℕ) → List ℕ → Option Offence
not_shared names region before name =
    unless (not (list_any (bytes_eq name) before) && is_declared names name) (two region name)

-- of a region with a list: the first user that it doesn't name, else the first name that stood before or is no user's
abbrev pub sharing_fault : List User → Region → Option Offence
sharing_fault users x =
    option_or (option_map (λ u. two x.name u.name) (find (λ u. not (is_declared x.shared_memory u.name)) users))
    (first_after (λ before name. unless (not (is_declared before name) && is_declared (map (λ u. u.name) users) name) (two x.name name)) [] x.shared_memory)

abbrev pub users_fault : List User → Region → Option Offence
users_fault users x =
    if length x.shared_memory == 0 then other_among users x.name (find (λ u. u.writes) users) else sharing_fault users x

-- of a region with its index
abbrev pub region_users_fault : List (List User) → ℕ × Region → Option Offence
region_users_fault users (index, x) = users_fault (slice_index_or users index []) x
