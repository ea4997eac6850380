-- The whole put together of its parts (this project's own): the turns are those of subjects alone, each by its own state of its run
-- alone; what a turn sends (its store, the events that it raises, a handover) is put into the whole.
use Rattle.std.specs.Prelude.{◌≡◌, ℕ, Bool, List, Option, Some, None, slice_get}
use Rattle.subject_model.specs.Frames.{slot_in}
use Rattle.subject_model.specs.Run.{Clocked, Turned, run_to, tick_ran}
use Rattle.subject_model.specs.Slot.{Slot}
use Rattle.policy_lawful.specs.Contents.{Held}
use Rattle.policy_lawful.specs.Frames.{frames_of}
use Rattle.policy_lawful.specs.source.Source.{Source}
use Rattle.policy_lawful.specs.source.Subject.{Subject}
use Rattle.subject_model.specs.DeviceRecord.{DeviceRecord, NamedInput}
use Rattle.subject_model.specs.Alone.{OwnState, own_of, solo_turn}
use Rattle.subject_model.specs.Clock.{begins, inputs_at, order_at, takes}
use Rattle.subject_model.specs.System.{System, idle, inbox_of, start_of, subject_named, turn_answered}
use Rattle.subject_model.specs.TurnLine.{TurnLine}
use Rattle.proof_views.specs.AloneRun.{Arrival, alone_to, before, reaching, reaching_at, started_alone}

-- a subject alone after so many ticks of a run, by what reaches it there
abbrev pub alone_in_run : Source → Held → DeviceRecord → Subject → ℕ → OwnState
alone_in_run p files r s n = alone_to (own_of p s) (reaching_at p files r s) n (started_alone s)

-- ---- the turn of a CPU, as `system_turn` but for where the own state is from: each subject's before each tick is given

-- of this subject
abbrev pub composed_of_subject : (Subject → ℕ → OwnState) → Source → ℕ → ℕ → Bool → Option Subject → System → Turned System TurnLine
composed_of_subject alone p cpu tick first None y = idle y
composed_of_subject alone p cpu tick first (Some s) y =
    turn_answered p cpu tick s (alone s tick).state.pc (solo_turn (own_of p s) (alone s tick) (inbox_of p y s first tick)) y

-- by the active member of the slot's group
abbrev pub composed_of_member : (Subject → ℕ → OwnState) → Source → ℕ → ℕ → Bool → Option (List ℕ) → System → Turned System TurnLine
composed_of_member alone p cpu tick first None y = idle y
composed_of_member alone p cpu tick first (Some member) y = composed_of_subject alone p cpu tick first (subject_named p member) y

-- by the slot
abbrev pub composed_in_slot : (Subject → ℕ → OwnState) → Source → ℕ → ℕ → Option Slot → System → Turned System TurnLine
composed_in_slot alone p cpu tick None y = idle y
composed_in_slot alone p cpu tick (Some slot) y = composed_of_member alone p cpu tick slot.first (slice_get y.active slot.group) y

abbrev pub composed_turn : (Subject → ℕ → OwnState) → Source → ℕ → ℕ → System → Turned System TurnLine
composed_turn alone p cpu tick y = composed_in_slot alone p cpu tick (slot_in (frames_of p cpu) y.frame tick) y

-- **the parts on the clock**, by the own states of the subjects alone
abbrev pub composed : (Subject → ℕ → OwnState) → Source → Clocked System NamedInput TurnLine
composed alone p = record { begins = begins p; takes = takes p; turn = composed_turn alone p }

-- ---- what feeds the parts

-- what reaches a subject in a tick of the run in which they are put together
abbrev pub fed_at : (Subject → ℕ → OwnState) → Source → Held → DeviceRecord → Subject → ℕ → Arrival
fed_at alone p files r s tick =
    reaching p s tick (tick_ran (composed alone p) tick (inputs_at r tick) (before s.cpu (order_at p r tick))
    (run_to (composed alone p) (inputs_at r) (order_at p r) tick (start_of p files)).state).state

-- these own states of each subject are those of its run alone by what reaches it there; nothing is of the joint run
abbrev pub AreFed : (Subject → ℕ → OwnState) → Source → Held → DeviceRecord → Type 0
AreFed alone p files r =
    (s : Subject) → subject_named p s.name ≡ Some s → (n : ℕ) → alone s n ≡ alone_to (own_of p s) (fed_at alone p files r s) n (started_alone s)
