-- A subject by itself on the clock (this project's own): its own state and its lines, by what reaches it at its turns.
use Rattle.std.specs.Prelude.{ℕ, zero, suc, ◌==◌, ◌&&◌, Bool, List, [], ◌∷◌, map, Option, Some, None, if◌then◌else◌, option_map, slice_get}
use Rattle.std.specs.List.{list_any}
use Rattle.std.specs.Str.{bytes_eq}
use Rattle.subject_model.specs.Resources.{msrs_of}
use Rattle.subject_model.specs.Frames.{slot_in}
use Rattle.subject_model.specs.Slot.{Slot}
use Rattle.muen_num.specs.Range.{numbers_below}
use Rattle.muen_num.specs.declared.access.AccessKind.TheVariants.{Write}
use Rattle.policy_lawful.specs.Contents.{Held}
use Rattle.policy_lawful.specs.Frames.{frames_of}
use Rattle.policy_lawful.specs.Rights.{allows}
use Rattle.policy_lawful.specs.source.Monitor.{Monitor}
use Rattle.policy_lawful.specs.source.Source.{Source}
use Rattle.policy_lawful.specs.source.Subject.{Subject}
use Rattle.subject_model.specs.DeviceRecord.{DeviceRecord}
use Rattle.subject_model.specs.StatePage.{page_bytes, state_in}
use Rattle.subject_model.specs.States.{started}
use Rattle.subject_model.specs.SubjectState.{SubjectState}
use Rattle.subject_model.specs.Run.{run_to, tick_ran}
use Rattle.subject_model.specs.TurnLine.{TurnLine}
use Rattle.subject_model.specs.TurnAction.{TurnAction}
use Rattle.subject_model.specs.Alone.{Inbox, MsrValues, Own, OwnState, solo_turn}
use Rattle.subject_model.specs.Clock.{inputs_at, order_at, system}
use Rattle.subject_model.specs.System.{System, inbox_of, line_at, start_of, state_of, subject_named, turn_of_subject, with_write}
use Rattle.subject_model.specs.View.{Seen}

-- ---- whom another one may write

abbrev pub alters : List ℕ → Monitor → Bool
alters name m = bytes_eq m.subject name && allows m.rights Write

-- a subject has a monitor on this one with the right to write
abbrev pub is_altered : Source → Subject → Bool
is_altered p s = list_any (λ q. list_any (alters s.name) q.monitors) p.subjects

-- ---- what reaches a subject in a run

-- what reaches it in a tick
pub data Arrival : Type 0 where
  nothing : Arrival
  -- at its turn, this
  at_turn : Inbox → Arrival
  -- by the turn of one that may write its page, this state, which the page then has
  rewritten : SubjectState → Arrival

abbrev pub left_there : Option SubjectState → Arrival
left_there None = nothing
left_there (Some st) = rewritten st

-- by the subject whose turn it is: itself, one that may write its page, or another
abbrev pub reaching_subject : Source → Subject → ℕ → Bool → Option Subject → System → Arrival
reaching_subject p s tick first None y = nothing
reaching_subject p s tick first (Some q) y =
    if bytes_eq q.name s.name then at_turn (inbox_of p y s first tick)
    else (if list_any (alters s.name) q.monitors then left_there (state_of (turn_of_subject p s.cpu tick first (Some q) y).state s.name)
    else nothing)

-- by the active member of the slot's group
abbrev pub reaching_member : Source → Subject → ℕ → Bool → Option (List ℕ) → System → Arrival
reaching_member p s tick first None y = nothing
reaching_member p s tick first (Some member) y = reaching_subject p s tick first (subject_named p member) y

-- by the slot
abbrev pub reaching_slot : Source → Subject → ℕ → Option Slot → System → Arrival
reaching_slot p s tick None y = nothing
reaching_slot p s tick (Some slot) y = reaching_member p s tick slot.first (slice_get y.active slot.group) y

-- at a turn of its CPU
abbrev pub reaching : Source → Subject → ℕ → System → Arrival
reaching p s tick y = reaching_slot p s tick (slot_in (frames_of p s.cpu) y.frame tick) y

-- the CPUs whose turns come before that of this one
abbrev pub before : ℕ → List ℕ → List ℕ
before cpu [] = []
before cpu (c ∷ order) = if c == cpu then [] else c ∷ before cpu order

-- in a tick of the run on a record
abbrev pub reaching_at : Source → Held → DeviceRecord → Subject → ℕ → Arrival
reaching_at p files r s tick =
    reaching p s tick (tick_ran (system p) tick (inputs_at r tick) (before s.cpu (order_at p r tick))
    (run_to (system p) (inputs_at r) (order_at p r) tick (start_of p files)).state).state

-- ---- the subject by itself

-- a state as its page has it
abbrev pub on_page : SubjectState → SubjectState
on_page st = state_in (page_bytes st)

-- at the start
abbrev pub started_alone : Subject → OwnState
started_alone s = record { state = on_page (started s.entry); msrs = map (λ m. (m.index, 0)) (msrs_of s) }

-- after a tick in which this reaches it
abbrev pub after_tick : Own → Arrival → OwnState → OwnState
after_tick own nothing mine = mine
after_tick own (at_turn inbox) mine =
    record { state = on_page (solo_turn own mine inbox).state; msrs = with_write (solo_turn own mine inbox).msr mine.msrs }
after_tick own (rewritten st) mine = record mine { state = st }

-- what its line says of that tick
abbrev pub says_in : Own → Arrival → OwnState → Option TurnAction
says_in own nothing mine = None
says_in own (at_turn inbox) mine = (solo_turn own mine inbox).what
says_in own (rewritten st) mine = None

-- after so many ticks, by what reaches it in each
abbrev pub alone_to : Own → (ℕ → Arrival) → ℕ → OwnState → OwnState
alone_to own arrivals zero mine = mine
alone_to own arrivals (suc tick) mine = after_tick own (arrivals tick) (alone_to own arrivals tick mine)

-- of a view: its line, its own state and its MSRs
pub record OwnSeen : Type 0 where
  pub line : Option TurnLine
  pub state : Option SubjectState
  pub msrs : Option MsrValues

abbrev pub own_part : Seen → OwnSeen
own_part v = record { line = v.line; state = v.state; msrs = v.msrs }

abbrev pub alone_in : Own → Arrival → ℕ → OwnState → OwnSeen
alone_in own arrival tick mine = record {
  line = option_map (line_at tick own.cpu own.name mine.state.pc) (says_in own arrival mine);
  state = Some (after_tick own arrival mine).state;
  msrs = Some (after_tick own arrival mine).msrs;
}

-- **the view of the subject by itself**, of so many ticks
abbrev pub alone_view : Own → (ℕ → Arrival) → OwnState → ℕ → List OwnSeen
alone_view own arrivals mine n =
    map (λ tick. alone_in own (arrivals tick) tick (alone_to own arrivals tick mine)) (numbers_below n)
