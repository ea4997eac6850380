-- What is granted to a subject, by indexes, and where the interrupts of devices go.
use Rattle.std.specs.Prelude.{◌≡◌, ℕ, ◌≤◌, ◌==◌, ◌&&◌, Bool, true, false, List, length, map, nat_le, nat_lt, slice_get, Option, Some, option_map}
use Rattle.std.specs.Option.{option_map_or}
use Rattle.std.specs.List.{AllZip, count_by, find, list_all}
use Rattle.expand_grants.specs.Ordered.{in_order}
use Rattle.expand_grants.specs.Resources.{msr_grant, port_ranges_of}
use Rattle.expand_grants.specs.declared.granted.EventEntry.{EventEntry}
use Rattle.expand_grants.specs.declared.granted.Grants.{Grants}
use Rattle.expand_grants.specs.declared.granted.Route.{Route}
use Rattle.expand_grants.specs.declared.granted.Way.{Way}
use Rattle.expand_grants.specs.declared.granted.Way.TheVariants.{Call, Trap}
use Rattle.policy_lawful.specs.Resolution.{Resolution, name_at, source_of, subject_named}
use Rattle.policy_lawful.specs.declared.resolved.Subject.{Subject}
use Rattle.policy_lawful.specs.Events.{Raised, Target, event_of, irq_of}
use Rattle.policy_lawful.specs.source.Device.{Device}
use Rattle.policy_lawful.specs.source.Irq.{Irq}
use Rattle.policy_lawful.specs.source.SourceWay.{SourceWay}
use Rattle.policy_lawful.specs.source.SourceWay.TheVariants.{Call as SourceCall, Trap as SourceTrap}
use Rattle.expand_grants.specs.declared.granted.GrantedWindow.{GrantedWindow}
use Rattle.policy_lawful.specs.Thing.{Thing}
use Rattle.policy_lawful.specs.Things.{thing_index}
use Rattle.policy_lawful.specs.Windows.{Window, windows_of}
use Rattle.policy_lawful.specs.source.Source.{Source}
use Rattle.policy_lawful.specs.source.Subject.{Subject as NamedSubject}

-- ---- windows

-- a window, with the number of what it shows
abbrev pub numbered_window : Source → Window Thing → GrantedWindow
numbered_window p w = record { guest = w.guest; size = w.size; rights = w.rights; thing = thing_index p w.thing }

-- by guest address
abbrev pub is_lower : Window Thing → Window Thing → Bool
is_lower a b = nat_le a.guest b.guest

-- the windows of a subject, by guest address
abbrev pub granted_windows : Source → NamedSubject → List GrantedWindow
granted_windows p s = map (numbered_window p) (in_order is_lower (windows_of p s))

-- ---- events

abbrev pub is_way : SourceWay → Way → Bool
is_way (SourceCall m) (Call n) = m == n
is_way (SourceTrap m) (Trap n) = m == n
is_way _ _ = false

-- a subject and a vector, by the subject's name
abbrev pub target_named : Resolution → ℕ → Option ℕ → Target
target_named r subject vector = record { subject = name_at (map (λ s. s.name) r.subjects) subject; vector = vector }

abbrev pub raised_named : Resolution → EventEntry → Raised
raised_named r e = record { mode = e.mode; target = target_named r e.target e.vector }

-- the event that these entries have for a way
abbrev pub entry_raised : Resolution → List EventEntry → SourceWay → Option Raised
entry_raised r entries way = option_map (raised_named r) (find (λ e. is_way way e.way) entries)

-- ---- of a subject

pub record AreGrantsOf (r : Resolution) (s : Subject) (g : Grants) : Type 0 where
  -- its windows, by guest address
  pub windows : g.windows ≡ granted_windows (source_of r) (subject_named r s)
  pub ports : g.ports ≡ port_ranges_of (source_of r) (subject_named r s)
  pub msrs : g.msrs ≡ map msr_grant s.msrs
  -- for each way the event that the policy has for it
  pub events : (way : SourceWay) → entry_raised r g.events way ≡ event_of (source_of r) (subject_named r s) way
  -- by one entry at most
  pub once : (way : SourceWay) → count_by (λ e. is_way way e.way) g.events ≤ 1

-- the grants of each subject
abbrev pub AreGrants : Resolution → List Grants → Type 0
AreGrants r grants = AllZip (AreGrantsOf r) r.subjects grants

-- ---- interrupts

-- a route of the interrupt at an index of the device at an index
abbrev pub is_route_of : ℕ → ℕ → Route → Bool
is_route_of device irq t = (t.device == device) && (t.irq == irq)

abbrev pub route_for : List Route → ℕ → ℕ → Option Route
route_for routes device irq = find (λ t. is_route_of device irq t) routes

-- the subject and vector to which an interrupt goes by these routes
abbrev pub routed : Resolution → List Route → ℕ → ℕ → Option Target
routed r routes device irq = option_map (λ t. target_named r t.subject (Some t.vector)) (route_for routes device irq)

-- the device at an index has an interrupt at an index
abbrev pub is_interrupt : Resolution → ℕ → ℕ → Bool
is_interrupt r device irq = option_map_or (λ d. nat_lt irq (length d.irqs)) (slice_get r.devices device) false

-- the routes of the interrupts that are granted
pub record AreRoutes (r : Resolution) (routes : List Route) : Type 0 where
  -- each interrupt of each device goes where the policy grants it
  pub each : (device irq : ℕ) (d : Device) (i : Irq) → slice_get r.devices device ≡ Some d → slice_get d.irqs irq ≡ Some i
      → routed r routes device irq ≡ irq_of (source_of r) d.name i.name
  -- by one route at most
  pub once : (device irq : ℕ) → count_by (λ t. is_route_of device irq t) routes ≤ 1
  -- each route is of an interrupt that there is
  pub there : list_all (λ t. is_interrupt r t.device t.irq) routes ≡ true
