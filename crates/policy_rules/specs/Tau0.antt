-- Rule 16 of a resolved policy: who chooses the major frames, with the windows of subjects by what these see.
use Rattle.std.specs.Prelude.{ℕ, ◌==◌, ◌&&◌, ◌||◌, Bool, false, List, length, codes, Option}
use Rattle.std.specs.Option.{option_or}
use Rattle.std.specs.List.{list_any}
use Rattle.std.specs.Str.{bytes_eq}
use Rattle.muen_num.specs.declared.access.AccessKind.TheVariants.{Write}
use Rattle.muen_num.specs.Search.{unless}
use Rattle.policy_lawful.specs.Offences.{two}
use Rattle.policy_lawful.specs.Resolution.{Resolution}
use Rattle.policy_lawful.specs.declared.offence.Offence.{Offence}
use Rattle.policy_lawful.specs.declared.resolved.Subject.{Subject}
use Rattle.policy_lawful.specs.Rights.{allows}
use Rattle.policy_lawful.specs.source.Region.{Region}
use Rattle.policy_lawful.specs.source.Tau0.{Tau0}
use Rattle.policy_lawful.specs.Views.{views_of}
use Rattle.policy_lawful.specs.declared.view.Shown.{Shown}
use Rattle.policy_lawful.specs.declared.view.Shown.TheVariants.{Memory}
use Rattle.policy_lawful.specs.declared.view.View.{View}

-- it shows a region of this name
abbrev pub is_on_named : List ℕ → View → Shown → Bool
is_on_named name v (Memory index) = bytes_eq v.name name
is_on_named name v _ = false

-- it shows one with the right to write
abbrev pub may_write : List ℕ → View → Bool
may_write name v = is_on_named name v v.shows && allows v.rights Write

-- a region of this name that isn't shared
abbrev pub is_own_region : List ℕ → Region → Bool
is_own_region name r = bytes_eq r.name name && (length r.shared_memory == 0)

-- the subject that chooses, where it may write the region by one of these views
abbrev pub is_chooser_by : Tau0 → List View → List View → Subject → Bool
is_chooser_by t front behind s = bytes_eq s.name t.subject && (list_any (may_write t.region) front || list_any (may_write t.region) behind)

-- where it may write it
abbrev pub is_chooser : Resolution → Tau0 → Subject → Bool
is_chooser r t s = bytes_eq s.name t.subject && list_any (may_write t.region) (views_of r s)

abbrev pub chooser_offence : Resolution → Tau0 → Option Offence
chooser_offence r t =
    option_or (unless (list_any (λ s. bytes_eq s.name t.subject) r.subjects) (two (codes "tau0") t.subject))
    (option_or (unless (list_any (is_own_region t.region) r.memory) (two (codes "tau0") t.region))
    (unless (list_any (is_chooser r t) r.subjects) (two (codes "tau0") t.region)))
