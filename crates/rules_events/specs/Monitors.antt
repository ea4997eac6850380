-- Rule 24 of a resolved policy: monitors.
use Rattle.std.specs.Prelude.{◌≡◌, ℕ, ◌<◌, ◌==◌, ◌&&◌, not, Bool, false, List, [], length, slice_get, slice_index_or, Option, option_and_then}
use Rattle.std.specs.List.{list_any}
use Rattle.std.specs.Str.{bytes_eq}
use Rattle.muen_num.specs.Search.{first_after, unless}
use Rattle.policy_lawful.specs.Offences.{two}
use Rattle.policy_lawful.specs.declared.offence.Offence.{Offence}
use Rattle.policy_lawful.specs.declared.resolved.Monitor.{Monitor}
use Rattle.policy_lawful.specs.declared.resolved.Subject.{Subject}
use Rattle.policy_lawful.specs.Rights.{may_execute}

-- the other subject is another one on the same CPU, that wasn't monitored before, and there is no right to execute
abbrev pub is_monitor_of : Subject → Subject → Monitor → Bool → Bool
is_monitor_of other s m is_new =
    not (bytes_eq other.name s.name) && (other.cpu == s.cpu) && is_new && not (may_execute m.rights)

-- a monitor that may not be
abbrev pub monitor_fault : List Subject → Subject → Bool → Monitor → Option Offence
monitor_fault subjects s is_new m =
    option_and_then (λ o. unless (is_monitor_of o s m is_new) (two s.name o.name)) (slice_get subjects m.subject)

-- the subject at an index is monitored by one of these
abbrev pub is_monitored : List Monitor → ℕ → Bool
is_monitored before index = list_any (λ b. b.subject == index) before

abbrev pub monitor_offence_after : List Subject → Subject → List Monitor → Monitor → Option Offence
monitor_offence_after subjects s before m = monitor_fault subjects s (not (is_monitored before m.subject)) m

abbrev pub monitors_offence : List Subject → Subject → Option Offence
monitors_offence subjects s = first_after (monitor_offence_after subjects s) [] s.monitors

-- ---- marks of subjects that are monitored

-- those that are monitored by these are marked
abbrev pub AreMarks : List Bool → List Monitor → Type 0
AreMarks marks monitors = (k : ℕ) → k < length marks → slice_index_or marks k false ≡ is_monitored monitors k
