-- Which event a subject raises in a way, and where an interrupt goes (Muen system policy: events, channels with events,
-- device interrupts).
use Rattle.std.specs.Prelude.{ℕ, ◌==◌, ◌&&◌, Bool, false, List, [], ◌++◌, map, filter, slice_get, Option, Some, None, option_map, option_and_then}
use Rattle.std.specs.Option.{option_or}
use Rattle.std.specs.List.{find, filter_map, flat_map}
use Rattle.std.specs.Str.{bytes_eq}
use Rattle.muen_num.specs.declared.mode.EventMode.{EventMode}
use Rattle.policy_meaning.specs.Thing.{component_by}
use Rattle.policy_meaning.specs.Windows.{entry_of}
use Rattle.policy_types.specs.declared.rights.Role.{Role}
use Rattle.policy_types.specs.declared.rights.Role.TheVariants.{Writer, Reader}
use Rattle.policy_types.specs.declared.source.Source.{Source}
use Rattle.policy_types.specs.declared.source.Subject.{Subject}
use Rattle.policy_types.specs.declared.source.Component.{Component}
use Rattle.policy_types.specs.declared.source.SourceWay.{SourceWay}
use Rattle.policy_types.specs.declared.source.SourceWay.TheVariants.{Call, Trap}

-- whom an event reaches, and under which vector
pub record Target : Type 0 where
  pub subject : List ℕ
  pub vector : Option ℕ

-- an event that a subject raises
pub record Raised : Type 0 where
  pub mode : EventMode
  pub target : Target

abbrev pub same_way : SourceWay → SourceWay → Bool
same_way (Call m) (Call n) = m == n
same_way (Trap m) (Trap n) = m == n
same_way _ _ = false

abbrev pub trap_number : SourceWay → Option ℕ
trap_number (Call n) = None
trap_number (Trap n) = Some n

-- the exit reasons for which a subject has a trap entry
abbrev pub traps_of : Subject → List ℕ
traps_of s = filter_map (λ e. trap_number e.way) s.sources

-- ---- events by name

abbrev pub event_targets : Source → List ℕ → List Target
event_targets p name =
    flat_map (λ t. map (λ e. record { subject = t.name; vector = e.vector }) (filter (λ e. bytes_eq e.event name) t.targets)) p.subjects

abbrev pub named_event : Source → List ℕ → Option Raised
named_event p name =
    option_and_then (λ e. option_map (λ t. record { mode = e.mode; target = t }) (slice_get (event_targets p name) 0))
    (find (λ e. bytes_eq e.name name) p.events)

-- ---- events of channels

-- a subject's end of a channel
pub record ChannelEnd : Type 0 where
  pub channel : List ℕ
  pub role : Role
  pub call : Option ℕ
  pub vector : Option ℕ

abbrev pub component_ends : Subject → Option Component → List ChannelEnd
component_ends s None = []
component_ends s (Some c) =
    filter_map (λ x. option_map (λ e. record { channel = e.physical; role = x.role; call = x.call; vector = x.vector }) (entry_of s.component x.logical)) c.channels

-- a subject's ends of channels, its own and those of its component
abbrev pub channel_ends : Source → Subject → List ChannelEnd
channel_ends p s =
    map (λ c. record { channel = c.channel; role = c.role; call = c.call; vector = c.vector }) s.channels
    ++ component_ends s (component_by p s.component)

abbrev pub is_call : Option ℕ → SourceWay → Bool
is_call (Some m) (Call n) = m == n
is_call _ _ = false

abbrev pub writes_by : ChannelEnd → Role → SourceWay → Bool
writes_by e Writer way = is_call e.call way
writes_by e Reader way = false

abbrev pub reads_from : ChannelEnd → Role → List ℕ → Bool
reads_from e Reader name = bytes_eq e.channel name
reads_from e Writer name = false

abbrev pub channel_targets : Source → List ℕ → List Target
channel_targets p name =
    flat_map (λ t. map (λ e. record { subject = t.name; vector = e.vector }) (filter (λ e. reads_from e e.role name) (channel_ends p t))) p.subjects

abbrev pub channel_event : Source → List ℕ → Option Raised
channel_event p name =
    option_and_then (λ c. option_and_then (λ m. option_map (λ t. record { mode = m; target = t }) (slice_get (channel_targets p name) 0)) c.has_event)
    (find (λ c. bytes_eq c.name name) p.channels)

-- the event that a subject's call or trap number names, by an event or by a channel's event
unfoldable pub event_of : Source → Subject → SourceWay → Option Raised
event_of p s way =
    option_or (option_and_then (λ e. named_event p e.event) (find (λ e. same_way e.way way) s.sources))
    (option_and_then (λ e. channel_event p e.channel) (find (λ e. writes_by e e.role way) (channel_ends p s)))

-- the subject and vector to which a device's interrupt is granted
unfoldable pub irq_of : Source → List ℕ → List ℕ → Option Target
irq_of p device irq =
    slice_get (flat_map (λ s. flat_map (λ d. map (λ i. record { subject = s.name; vector = Some i.vector })
    (filter (λ i. bytes_eq d.device device && bytes_eq i.irq irq) d.irqs)) s.devices) p.subjects) 0
