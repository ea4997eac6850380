-- Laws of the abstract system, and what they speak of.
use Rattle.std.specs.Prelude.{◌≡◌, ℕ, zero, suc, ◌<◌, Bool, true, List, length, map, slice_get, Option, Some, None}
use Rattle.std.specs.List.{All, sum_by}
use Rattle.expand_grants.specs.Resources.{are_granted}
use Rattle.frame_clock.specs.Frames.{first_frame, frame_at_tick, slot_in}
use Rattle.frame_clock.specs.declared.frame_at.FrameAt.{FrameAt}
use Rattle.guest_isa.specs.Step.{MsrWrite, Stored}
use Rattle.guest_isa.specs.declared.reach.Reach.TheVariants.{Reached}
use Rattle.frame_clock.specs.Slot.{Slot, slot_at}
use Rattle.muen_num.specs.Frame.{Frame}
use Rattle.muen_num.specs.declared.access.AccessKind.{AccessKind}
use Rattle.muen_num.specs.declared.mode.EventMode.TheVariants.{Switch}
use Rattle.policy_lawful.specs.Events.{Raised, Target, event_of}
use Rattle.policy_lawful.specs.Frames.{frames_of, group_of}
use Rattle.policy_lawful.specs.Thing.{Thing, state}
use Rattle.policy_lawful.specs.Windows.{access_of, byte}
use Rattle.policy_lawful.specs.source.Source.{Source}
use Rattle.policy_lawful.specs.source.SourceWay.{SourceWay}
use Rattle.policy_lawful.specs.source.Subject.{Subject}
use Rattle.guest_isa.specs.StatePage.{page_bytes}
use Rattle.guest_isa.specs.state.SubjectState.{SubjectState}
use Rattle.subject_model.specs.Alone.{Inbox, MsrValues, Own, OwnState, TurnAnswer, alone, bytes_in, solo_turn, thing_in, vector_for, waits}
use Rattle.subject_model.specs.System.{System, answered, change_thing, happens_as, inbox_of, named, raised_by, state_of, subject_named, system_turn, with_own, with_write}

-- ---- what they speak of

-- two names differ
abbrev pub AreOthers : List ℕ → List ℕ → Type 0
AreOthers a b = a ≡ b → ⊥

-- what is stored is stored elsewhere than on the subject's own state page
abbrev pub StoresElsewhere : Subject → Option (Stored Thing) → Type 0
StoresElsewhere s None = Unit {0}
StoresElsewhere s (Some w) = w.target ≡ state s.name → ⊥

-- what pends at any subject but this one stays
pub record KeepsOthers (name : List ℕ) (y z : System) : Type 0 where
  pub now : (other : List ℕ) → AreOthers name other → named z.now other ≡ named y.now other
  pub later : (other : List ℕ) → AreOthers name other → named z.later other ≡ named y.later other

-- whose turn it is in a tick: this subject's, which is the active member of the slot's group, with its state and the values of
-- its MSRs; and whether the tick is the first of its minor frame
pub record IsTurnOf (p : Source) (cpu tick : ℕ) (y : System) (s : Subject) (first : Bool) (st : SubjectState) : Type 0 where
  pub slot : Slot
  pub member : List ℕ
  pub values : MsrValues
  pub in_slot : slot_in (frames_of p cpu) y.frame tick ≡ Some slot
  pub begins : slot.first ≡ first
  pub active : slice_get y.active slot.group ≡ Some member
  pub is : subject_named p member ≡ Some s
  pub stands : state_of y s.name ≡ Some st
  pub has : named y.msrs s.name ≡ Some values

-- the system, but that a subject's page is that of this state
abbrev pub with_page : List ℕ → SubjectState → System → System
with_page name st y = record y { things = change_thing (state name) (λ _. page_bytes st) y.things }

-- these are the ticks of the major frames, by a CPU's minor frames in each; there is a major frame, and each has ticks
pub record AreFrames (frames : List (List Frame)) (ticks : List ℕ) : Type 0 where
  pub sums : ticks ≡ map (sum_by (λ f. f.ticks)) frames
  pub each : All (λ n. 0 < n) ticks
  pub some : 0 < length ticks

-- the major frame at a tick where nothing ever picks one
abbrev pub frame_after : List ℕ → ℕ → FrameAt
frame_after ticks zero = frame_at_tick ticks first_frame None 0
frame_after ticks (suc tick) = frame_at_tick ticks (frame_after ticks tick) None (suc tick)

-- ---- what a subject does alone

-- a stopped subject does nothing, and its turn has no line
abbrev pub StoppedDoesNothing : Type 0
StoppedDoesNothing = (own : Own) (mine : OwnState) (inbox : Inbox) → mine.state.stopped ≡ true → solo_turn own mine inbox ≡ waits mine.state

-- nor does a halted one to which no event can be delivered
abbrev pub HaltedWaits : Type 0
HaltedWaits =
    (own : Own) (mine : OwnState) (inbox : Inbox) → mine.state.halted ≡ true → vector_for mine.state inbox ≡ None
    → solo_turn own mine inbox ≡ waits mine.state

-- a turn depends on the bytes of the things that reach the subject, the input bytes of its ports, its pending events, whether its
-- minor frame begins, and the tick, and on nothing else that is outside it
abbrev pub TurnSeesItsInboxAlone : Type 0
TurnSeesItsInboxAlone =
    (own : Own) (mine : OwnState) (a b : Inbox) → ((x : Thing) → bytes_in a.things x ≡ bytes_in b.things x)
    → a.ports ≡ b.ports → a.now ≡ b.now → a.later ≡ b.later → a.first ≡ b.first → a.tick ≡ b.tick
    → solo_turn own mine a ≡ solo_turn own mine b

-- what a subject reaches is what a window of its with the right for this access shows there
abbrev pub WindowsAloneAreReached : Type 0
WindowsAloneAreReached =
    (own : Own) (values : MsrValues) (inbox : Inbox) (kind : AccessKind) (addr : ℕ) (x : Thing) (offset : ℕ)
    → (alone own values inbox).look kind addr ≡ Reached x offset → access_of own.windows addr kind ≡ byte x offset

-- ports are read only where each of them is granted
abbrev pub GrantedPortsAloneAreRead : Type 0
GrantedPortsAloneAreRead =
    (own : Own) (values : MsrValues) (inbox : Inbox) (port size value : ℕ)
    → (alone own values inbox).input port size ≡ Some value → are_granted own.ports port size ≡ true

-- ---- what its turn does to the system

-- the turn of a stopped subject has no line, and leaves the system as it is, but that the subject's page is that of its state
abbrev pub StoppedKeepsItsTicks : Type 0
StoppedKeepsItsTicks =
    (p : Source) (cpu tick : ℕ) (y : System) (s : Subject) (first : Bool) (st : SubjectState) → IsTurnOf p cpu tick y s first st
    → st.stopped ≡ true → system_turn p cpu tick y ≡ record { state = with_page s.name st y; line = None }

-- and so that of a halted one to which no event can be delivered
abbrev pub HaltedKeepsItsTicks : Type 0
HaltedKeepsItsTicks =
    (p : Source) (cpu tick : ℕ) (y : System) (s : Subject) (first : Bool) (st : SubjectState) → IsTurnOf p cpu tick y s first st
    → st.halted ≡ true → vector_for st (inbox_of p y s first tick) ≡ None
    → system_turn p cpu tick y ≡ record { state = with_page s.name st y; line = None }

-- after a turn whose store isn't on the subject's own state page, that page is that of its new state
abbrev pub ThePageIsThatOfTheState : Type 0
ThePageIsThatOfTheState =
    (p : Source) (s : Subject) (a : TurnAnswer) (y : System) (page : List ℕ)
    → thing_in y.things (state s.name) ≡ Some page → StoresElsewhere s a.stored
    → thing_in (answered p s a y).things (state s.name) ≡ Some (page_bytes a.state)

-- a turn writes the MSRs of its subject
abbrev pub OwnMsrsAreWritten : Type 0
OwnMsrsAreWritten =
    (name : List ℕ) (s : SubjectState) (m : MsrWrite) (y : System) (values : MsrValues) → named y.msrs name ≡ Some values
    → named (with_own name s (Some m) y).msrs name ≡ Some (with_write (Some m) values)

-- and those of no other
abbrev pub OtherMsrsStay : Type 0
OtherMsrsStay =
    (name other : List ℕ) (s : SubjectState) (m : MsrWrite) (y : System) → AreOthers name other
    → named (with_own name s (Some m) y).msrs other ≡ named y.msrs other

-- what a subject raises pends at the event's target, and at no other subject
abbrev pub EventsReachTheirTargetAlone : Type 0
EventsReachTheirTargetAlone =
    (p : Source) (s : Subject) (way : SourceWay) (e : Raised) (y : System) → event_of p s way ≡ Some e
    → KeepsOthers e.target.subject y (raised_by p s (Some way) y)

-- ---- whose turn comes

-- a handover makes its target the active member of its group, whose turn comes next in it
abbrev pub HandoversCountFromTheNextTurn : Type 0
HandoversCountFromTheNextTurn =
    (p : Source) (t : Target) (y : System) (group : ℕ) (member : List ℕ) → group_of p t.subject ≡ Some group
    → slice_get y.active group ≡ Some member → slice_get (happens_as p Switch t y).active group ≡ Some t.subject

-- where nothing picks one, the major frames run in their order, again and again: the slot at a tick is that of the row of all ticks
abbrev pub FramesGoCyclically : Type 0
FramesGoCyclically =
    (frames : List (List Frame)) (ticks : List ℕ) (tick : ℕ) → AreFrames frames ticks
    → slot_in frames (frame_after ticks tick) tick ≡ slot_at frames tick
