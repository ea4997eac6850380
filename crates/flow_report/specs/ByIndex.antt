-- What a subject gives to others and what it takes from them, by indexes, and direct flows by these.
use Rattle.std.specs.Prelude.{ℕ, ◌==◌, ◌||◌, Bool, false, List, map, Option, Some, None, option_map, option_and_then, position, if◌then◌else◌}
use Rattle.std.specs.Option.{option_map_or}
use Rattle.std.specs.List.{enumerate_from, filter_map, find, list_any}
use Rattle.std.specs.Str.{bytes_eq}
use Rattle.muen_num.specs.declared.access.AccessKind.TheVariants.{Write}
use Rattle.policy_lawful.specs.Resolution.{Resolution}
use Rattle.policy_lawful.specs.declared.resolved.EventSource.{EventSource}
use Rattle.policy_lawful.specs.declared.resolved.Monitor.{Monitor}
use Rattle.policy_lawful.specs.declared.resolved.Subject.{Subject}
use Rattle.policy_lawful.specs.Events.{same_way}
use Rattle.policy_lawful.specs.Rights.{allows}
use Rattle.policy_lawful.specs.rights.Role.{Role}
use Rattle.policy_lawful.specs.rights.Role.TheVariants.{Writer, Reader}
use Rattle.policy_lawful.specs.source.SourceWay.{SourceWay}
use Rattle.policy_lawful.specs.source.Tau0.{Tau0}
use Rattle.policy_lawful.specs.Views.{channel_ends_of, views_of}
use Rattle.policy_lawful.specs.declared.view.Shown.{Shown}
use Rattle.policy_lawful.specs.declared.view.Shown.TheVariants.{Memory}
use Rattle.policy_lawful.specs.declared.view.View.{View}
use Rattle.flow_report.specs.declared.contacts.Contacts.{Contacts}
use Rattle.muen_num.specs.Numbers.{share, is_among}

-- ---- ends of channels and views

-- the channel that is written, or read, at an end
abbrev pub channel_written : Role → ℕ → Option ℕ
channel_written Writer channel = Some channel
channel_written Reader channel = None

abbrev pub channel_read : Role → ℕ → Option ℕ
channel_read Writer channel = None
channel_read Reader channel = Some channel

-- the region that a view shows, if it shows one
abbrev pub region_shown : Shown → Option ℕ
region_shown (Memory index) = Some index
region_shown _ = None

-- the region that may be changed through a view
abbrev pub region_changed : View → Option ℕ
region_changed v = if allows v.rights Write then region_shown v.shows else None

-- ---- events

-- the event of the first source with this way
abbrev pub event_by : List EventSource → SourceWay → Option ℕ
event_by sources way = option_map (λ e. e.event) (find (λ e. same_way e.way way) sources)

-- the first subject that is_among the event as a target
abbrev pub first_target : List Subject → ℕ → Option ℕ
first_target subjects event = position (λ t. list_any (λ e. e.event == event) t.targets) subjects

-- the subject that is reached by the event that a subject with these sources raises in this way
abbrev pub reached_by : List Subject → List EventSource → SourceWay → Option ℕ
reached_by subjects sources way = option_and_then (first_target subjects) (event_by sources way)

-- ---- monitors and frames

-- the subject whose state may be changed by a monitor
abbrev pub subject_changed : Monitor → Option ℕ
subject_changed m = if allows m.rights Write then Some m.subject else None

-- the subject of this name chooses the major frames
abbrev pub is_frame_chooser : Option Tau0 → List ℕ → Bool
is_frame_chooser o name = option_map_or (λ t. bytes_eq t.subject name) o false

-- ---- contacts

abbrev pub contacts_of : Resolution → ℕ × Subject → Contacts
contacts_of r (index, s) = record {
  index = index;
  writes = filter_map (λ e. channel_written e.role e.channel) (channel_ends_of r s);
  reads = filter_map (λ e. channel_read e.role e.channel) (channel_ends_of r s);
  changes = filter_map region_changed (views_of r s);
  maps = filter_map (λ v. region_shown v.shows) (views_of r s);
  reaches = filter_map (λ e. reached_by r.subjects s.sources e.way) s.sources;
  chooses = is_frame_chooser r.scheduling.tau0 s.name;
  watches = map (λ m. m.subject) s.monitors;
  alters = filter_map subject_changed s.monitors;
}

-- of each subject, in the policy's order
abbrev pub all_contacts_of : Resolution → List Contacts
all_contacts_of r = map (contacts_of r) (enumerate_from 0 r.subjects)

-- ---- direct flows

-- what the first does can reach the second
unfoldable pub flows_between : Contacts → Contacts → Bool
flows_between u s =
    share u.writes s.reads || share u.changes s.maps || is_among u.reaches s.index || u.chooses || is_among s.watches u.index || is_among u.alters s.index

-- for each subject the subjects to which it flows directly
abbrev pub rows_of : List Contacts → List (List Bool)
rows_of all_contacts = map (λ u. map (flows_between u) all_contacts) all_contacts
