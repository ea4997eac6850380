-- On whom a subject can depend (this project's own: what a policy declares towards a subject, and the sets that are closed
-- under it).
use Rattle.std.specs.Prelude.{◌≡◌, ℕ, zero, suc, ◌&&◌, ◌||◌, Bool, true, false, List, ◌++◌, length, map, filter, Option, option_map}
use Rattle.std.specs.Option.{option_map_or}
use Rattle.std.specs.List.{All, filter_map, list_any}
use Rattle.std.specs.Str.{bytes_eq}
use Rattle.muen_num.specs.declared.access.AccessKind.TheVariants.{Write}
use Rattle.policy_lawful.specs.MoreRules.{is_writer}
use Rattle.policy_lawful.specs.Events.{Raised, channel_ends, event_of, reads_from}
use Rattle.policy_lawful.specs.Thing.{Thing, region, same_thing}
use Rattle.policy_lawful.specs.Windows.{windows_of}
use Rattle.policy_lawful.specs.Rights.{allows}
use Rattle.policy_lawful.specs.rights.Role.{Role}
use Rattle.policy_lawful.specs.rights.Role.TheVariants.{Writer, Reader}
use Rattle.policy_lawful.specs.source.Source.{Source}
use Rattle.policy_lawful.specs.source.SourceWay.{SourceWay}
use Rattle.policy_lawful.specs.source.SourceWay.TheVariants.{Call}
use Rattle.policy_lawful.specs.source.Subject.{Subject}

-- ---- direct flows

-- u writes a channel that s reads
abbrev pub by_channel : Source → Subject → Subject → Bool
by_channel p u s =
    list_any (λ e. is_writer e.role && list_any (λ f. reads_from f f.role e.channel) (channel_ends p s)) (channel_ends p u)

abbrev pub is_region : Thing → Bool
is_region (region name) = true
is_region _ = false

-- u has a window with write on a region that s maps too
abbrev pub by_memory : Source → Subject → Subject → Bool
by_memory p u s =
    list_any (λ w. allows w.rights Write && is_region w.thing && list_any (λ v. same_thing w.thing v.thing) (windows_of p s)) (windows_of p u)

-- the ways in which a subject may raise an event: those of its entries, and the calls of its ends of channels
abbrev pub ways_of : Source → Subject → List SourceWay
ways_of p u = map (λ e. e.way) u.sources ++ filter_map (λ e. option_map Call e.call) (channel_ends p u)

abbrev pub reaches : Option Raised → List ℕ → Bool
reaches o name = option_map_or (λ e. bytes_eq e.target.subject name) o false

-- u raises an event whose target is s
abbrev pub by_event : Source → Subject → Subject → Bool
by_event p u s = list_any (λ way. reaches (event_of p u way) s.name) (ways_of p u)

-- u chooses the major frames
abbrev pub by_plan : Source → Subject → Bool
by_plan p u = option_map_or (λ t. bytes_eq t.subject u.name) p.scheduling.tau0 false

-- s monitors u
abbrev pub by_sight : Subject → Subject → Bool
by_sight u s = list_any (λ m. bytes_eq m.subject u.name) s.monitors

-- u monitors s and may change its state
abbrev pub by_change : Subject → Subject → Bool
by_change u s = list_any (λ m. bytes_eq m.subject s.name && allows m.rights Write) u.monitors

-- what u does can reach s
unfoldable pub flows_to : Source → Subject → Subject → Bool
flows_to p u s = by_channel p u s || by_memory p u s || by_event p u s || by_plan p u || by_sight u s || by_change u s

-- ---- closed sets of subjects, by name

abbrev pub is_member : List (List ℕ) → Subject → Bool
is_member members s = list_any (λ name. bytes_eq name s.name) members

-- members, and those that flow to one directly, in the policy's order
abbrev pub with_sources : Source → List (List ℕ) → List (List ℕ)
with_sources p members =
    map (λ u. u.name) (filter (λ u. is_member members u || list_any (λ s. is_member members s && flows_to p u s) p.subjects) p.subjects)

abbrev pub rounds : {X : Type 0} → ℕ → (X → X) → X → X
rounds zero f x = x
rounds (suc n) f x = f (rounds n f x)

-- a subject of this name, and all that reach it over any others: as many rounds of direct sources as there are subjects
unfoldable pub closure_of : Source → List ℕ → List (List ℕ)
closure_of p name = rounds (length p.subjects) (with_sources p) (map (λ u. u.name) (filter (λ u. bytes_eq u.name name) p.subjects))

-- a set is closed where each direct source of a member is a member
pub record IsClosed (p : Source) (members : List (List ℕ)) : Type 0 where
  pub sources : All (λ s. is_member members s ≡ true → All (λ u. flows_to p u s ≡ true → is_member members u ≡ true) p.subjects) p.subjects

-- each member of the first set is one of the second
abbrev pub IsWithin : Source → List (List ℕ) → List (List ℕ) → Type 0
IsWithin p members others = All (λ s. is_member members s ≡ true → is_member others s ≡ true) p.subjects

-- it has the subject of this name and is closed, and is within every such set
pub record IsLeastClosed (p : Source) (name : List ℕ) (members : List (List ℕ)) : Type 0 where
  pub has : All (λ s. bytes_eq s.name name ≡ true → is_member members s ≡ true) p.subjects
  pub closed : IsClosed p members
  pub least : (others : List (List ℕ)) → All (λ s. bytes_eq s.name name ≡ true → is_member others s ≡ true) p.subjects → IsClosed p others → IsWithin p members others
