-- The abstract system: the things by name, with the state page of each subject among them, the values of each subject's MSRs, the
-- ports' input bytes, the pending events, the active member of each scheduling group, and the major frame that runs. There is no
-- kernel in it, no table and no address (this project's own, after Muen's system policy).
use Rattle.std.specs.Prelude.{ℕ, ◌+◌, ◌==◌, Bool, List, [], ◌++◌, map, filter, replicate, slice_get, slice_index_or, Option, Some, None, option_map, unwrap_or}
use Rattle.std.specs.List.{find, list_any}
use Rattle.std.specs.Str.{bytes_eq}
use Rattle.expand_grants.specs.Resources.{msrs_of, ports_of}
use Rattle.frame_clock.specs.Frames.{first_frame, slot_in}
use Rattle.frame_clock.specs.declared.frame_at.FrameAt.{FrameAt}
use Rattle.guest_isa.specs.Step.{Stored, MsrWrite}
use Rattle.frame_clock.specs.Slot.{Slot}
use Rattle.muen_num.specs.ListChange.{change_at}
use Rattle.machine_layout.specs.Memory.{over}
use Rattle.machine_layout.specs.Pending.{without, with_vector}
use Rattle.muen_num.specs.declared.limits.TheConstants.{LAST_PORT}
use Rattle.muen_num.specs.declared.mode.EventMode.{EventMode}
use Rattle.muen_num.specs.declared.mode.EventMode.TheVariants.{Asap, Async, Own as OwnMode, Switch}
use Rattle.policy_lawful.specs.Contents.{Held, initial_bytes}
use Rattle.policy_lawful.specs.Events.{Raised, Target, event_of}
use Rattle.policy_lawful.specs.Frames.{first_member, frames_of, group_of}
use Rattle.policy_lawful.specs.Thing.{Thing, state, same_thing, things_of}
use Rattle.policy_lawful.specs.Windows.{Window, windows_of}
use Rattle.policy_lawful.specs.source.Source.{Source}
use Rattle.policy_lawful.specs.source.SourceWay.{SourceWay}
use Rattle.policy_lawful.specs.source.Subject.{Subject}
use Rattle.guest_isa.specs.StatePage.{page_bytes, state_in}
use Rattle.guest_isa.specs.States.{started}
use Rattle.guest_isa.specs.state.SubjectState.{SubjectState}
use Rattle.frame_clock.specs.Run.{Turned}
use Rattle.view_text.specs.declared.TurnLine.{TurnLine}
use Rattle.view_text.specs.declared.TurnAction.{TurnAction}
use Rattle.subject_model.specs.ByKey.{value_of, change_of}
use Rattle.subject_model.specs.Alone.{Inbox, MsrValues, Things, TurnAnswer, own_of, solo_turn, thing_in}

-- values by the names of subjects
abbrev pub Named : Type 0 → Type 0
Named X = List (List ℕ × X)

abbrev pub named : {X : Type 0} → Named X → List ℕ → Option X
named entries name = value_of bytes_eq entries name

abbrev pub change_named : {X : Type 0} → List ℕ → (X → X) → Named X → Named X
change_named name f entries = change_of bytes_eq name f entries

abbrev pub change_thing : Thing → (List ℕ → List ℕ) → Things → Things
change_thing x f things = change_of same_thing x f things

-- ---- the state

pub record System : Type 0 where
  -- each thing's bytes; the state page of each subject is one
  pub things : Things
  -- the values of each subject's MSRs
  pub msrs : Named MsrValues
  -- the input byte of each port
  pub ports : List ℕ
  -- each subject's pending vectors that are deliverable at any turn
  pub now : Named (List ℕ)
  -- each subject's pending vectors that wait for a minor frame or an exit
  pub later : Named (List ℕ)
  -- each group's active member, by the group's number
  pub active : List (List ℕ)
  -- the major frame that runs, and its first tick
  pub frame : FrameAt

unfoldable pub first_page : Subject → List ℕ
first_page s = page_bytes (started s.entry)

unfoldable pub first_inputs : List ℕ
first_inputs = replicate (LAST_PORT + 1) 0

-- the state at the start
unfoldable pub start_of : Source → Held → System
start_of p files = record {
  things = map (λ x. (x, initial_bytes p files x)) (things_of p) ++ map (λ s. (state s.name, first_page s)) p.subjects;
  msrs = map (λ s. (s.name, map (λ m. (m.index, 0)) (msrs_of s))) p.subjects;
  ports = first_inputs;
  now = map (λ s. (s.name, [])) p.subjects;
  later = map (λ s. (s.name, [])) p.subjects;
  active = map (λ g. first_member g.subjects) p.scheduling.groups;
  frame = first_frame;
}

-- ---- what reaches a subject

abbrev pub is_shown : List (Window Thing) → Thing → Bool
is_shown windows x = list_any (λ w. same_thing w.thing x) windows

abbrev pub pending : Named (List ℕ) → List ℕ → List ℕ
pending sets name = unwrap_or (named sets name) []

-- all that its windows show
abbrev pub shown_to : Source → Subject → System → Things
shown_to p s y = filter (λ e. is_shown (windows_of p s) e.0) y.things

unfoldable pub inbox_of : Source → System → Subject → Bool → ℕ → Inbox
inbox_of p y s first tick = record {
  things = shown_to p s y;
  ports = map (λ n. (n, slice_index_or y.ports n 0)) (ports_of p s);
  now = pending y.now s.name;
  later = pending y.later s.name;
  first = first;
  tick = tick;
}

-- ---- what a turn changes, one after another: the subject's own state, a thing, a pending set, what an event does

abbrev pub with_write : Option MsrWrite → MsrValues → MsrValues
with_write None values = values
with_write (Some w) values = change_of (λ a b. a == b) w.index (λ _. w.value) values

-- the subject's page is that of its state, and all else on it 0
abbrev pub with_own : List ℕ → SubjectState → Option MsrWrite → System → System
with_own name s m y = record y {
  things = change_thing (state name) (λ _. page_bytes s) y.things;
  msrs = change_named name (with_write m) y.msrs;
}

abbrev pub with_bytes : Thing → ℕ → List ℕ → System → System
with_bytes x offset bytes y = record y { things = change_thing x (λ old. over old offset bytes) y.things }

abbrev pub with_store : Option (Stored Thing) → System → System
with_store None y = y
with_store (Some w) y = with_bytes w.target w.offset w.bytes y

-- a vector isn't pending any more
abbrev pub took : List ℕ → Option ℕ → System → System
took name v y = record y { now = change_named name (without v) y.now; later = change_named name (without v) y.later }

abbrev pub pends_now : Target → System → System
pends_now t y = record y { now = change_named t.subject (with_vector t.vector) y.now }

abbrev pub pends_later : Target → System → System
pends_later t y = record y { later = change_named t.subject (with_vector t.vector) y.later }

abbrev pub with_active : Option ℕ → List ℕ → System → System
with_active None name y = y
with_active (Some g) name y = record y { active = change_at g (λ _. name) y.active }

-- a handover makes the target the active member of its group
abbrev pub happens_as : Source → EventMode → Target → System → System
happens_as p Asap t y = pends_now t y
happens_as p Async t y = pends_later t y
happens_as p OwnMode t y = pends_now t y
happens_as p Switch t y = with_active (group_of p t.subject) t.subject (pends_now t y)

abbrev pub happens : Source → Option Raised → System → System
happens p None y = y
happens p (Some e) y = happens_as p e.mode e.target y

abbrev pub raised_by : Source → Subject → Option SourceWay → System → System
raised_by p s None y = y
raised_by p s (Some way) y = happens p (event_of p s way) y

-- the answer of a subject's turn is put into the system; its page is that of its state also after a turn with no line
abbrev pub answered : Source → Subject → TurnAnswer → System → System
answered p s a y = raised_by p s a.raised (took s.name a.taken (with_store a.stored (with_own s.name a.state a.msr y)))

-- ---- the turn

abbrev pub line_at : ℕ → ℕ → List ℕ → ℕ → TurnAction → TurnLine
line_at tick cpu subject pc what = record { tick = tick; cpu = cpu; subject = subject; pc = pc; what = what }

abbrev pub idle : System → Turned System TurnLine
idle y = record { state = y; line = None }

abbrev pub turn_answered : Source → ℕ → ℕ → Subject → ℕ → TurnAnswer → System → Turned System TurnLine
turn_answered p cpu tick s pc a y =
    record { state = answered p s a y; line = option_map (line_at tick cpu s.name pc) a.what }

-- of this subject, by its own state
abbrev pub turn_from : Source → ℕ → ℕ → Bool → Subject → Option SubjectState → Option MsrValues → System → Turned System TurnLine
turn_from p cpu tick first s (Some st) (Some values) y =
    turn_answered p cpu tick s st.pc (solo_turn (own_of p s) (record { state = st; msrs = values }) (inbox_of p y s first tick)) y
turn_from p cpu tick first s (Some st) None y = idle y
turn_from p cpu tick first s None values y = idle y

-- its state is what its page says
abbrev pub state_of : System → List ℕ → Option SubjectState
state_of y name = option_map state_in (thing_in y.things (state name))

abbrev pub turn_of_subject : Source → ℕ → ℕ → Bool → Option Subject → System → Turned System TurnLine
turn_of_subject p cpu tick first None y = idle y
turn_of_subject p cpu tick first (Some s) y = turn_from p cpu tick first s (state_of y s.name) (named y.msrs s.name) y

abbrev pub subject_named : Source → List ℕ → Option Subject
subject_named p name = find (λ s. bytes_eq s.name name) p.subjects

-- by the active member of the slot's group
abbrev pub turn_of_member : Source → ℕ → ℕ → Bool → Option (List ℕ) → System → Turned System TurnLine
turn_of_member p cpu tick first None y = idle y
turn_of_member p cpu tick first (Some name) y = turn_of_subject p cpu tick first (subject_named p name) y

-- by the slot
abbrev pub turn_in_slot : Source → ℕ → ℕ → Option Slot → System → Turned System TurnLine
turn_in_slot p cpu tick None y = idle y
turn_in_slot p cpu tick (Some slot) y = turn_of_member p cpu tick slot.first (slice_get y.active slot.group) y

-- **the turn** of a CPU in a tick
abbrev pub system_turn : Source → ℕ → ℕ → System → Turned System TurnLine
system_turn p cpu tick y = turn_in_slot p cpu tick (slot_in (frames_of p cpu) y.frame tick) y
