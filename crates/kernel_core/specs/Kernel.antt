-- The kernel: whose turn it is, and what happens in it (this project's own, after Muen's kernel). It knows its system by
-- numbers alone; all else is in memory.
use Rattle.std.specs.Prelude.{ℕ, ◌==◌, Bool, ◌||◌, if◌then◌else◌, List, slice_get, Option, Some, None, is_some, option_and_then}
use Rattle.muen_num.specs.declared.limits.TheConstants.{EXIT_HLT, EXIT_VMCALL}
use Rattle.guest_isa.specs.state.SubjectState.{SubjectState}
use Rattle.image_pack.specs.declared.parts.EventPart.{EventPart}
use Rattle.image_pack.specs.declared.parts.SubjectPart.{SubjectPart}
use Rattle.frame_clock.specs.Plan.{frames_in}
use Rattle.frame_clock.specs.Slot.{Slot}
use Rattle.muen_num.specs.ListChange.{change_at}
use Rattle.frame_clock.specs.Frames.{slot_in}
use Rattle.frame_clock.specs.declared.frame_at.FrameAt.{FrameAt}
use Rattle.event_router.specs.Router.{RouterState, raised, deliverable, taken}
use Rattle.guest_isa.specs.Finish.{finish_of}
use Rattle.guest_isa.specs.declared.end.StepEnd.{StepEnd}
use Rattle.guest_isa.specs.declared.end.StepEnd.TheVariants as ends
use Rattle.frame_clock.specs.Run.{Turned}
use Rattle.view_text.specs.declared.ExitEnd.{ExitEnd}
use Rattle.view_text.specs.declared.ExitEnd.TheVariants.{On, Halt, Trap, Stop}
use Rattle.view_text.specs.declared.TurnLine.{TurnLine}
use Rattle.view_text.specs.declared.TurnAction.{TurnAction}
use Rattle.view_text.specs.declared.TurnAction.TheVariants.{Ran, Inject, Exit}
use Rattle.vmx_machine.specs.Machine.{MachineState, Stepped, state_on, entered, left, vector_injected, exit_finished, machine_step}
use Rattle.vmx_machine.specs.declared.control.Control.{Control}
use Rattle.kernel_core.specs.declared.setup.Setup.{Setup}
use Rattle.kernel_core.specs.declared.turn.Standing.{Standing}
use Rattle.kernel_core.specs.declared.turn.Turn.{Turn}

-- what changes in a run
pub record Live : Type 0 where
  -- memory and CPUs
  pub machine : MachineState
  -- pending events, and active members
  pub router : RouterState
  -- the subject that is on each CPU, by its number
  pub on : List (Option ℕ)
  -- the input byte of each port
  pub ports : List ℕ
  -- the major frame that runs, and its first tick
  pub frame : FrameAt

-- ---- who is on a CPU

abbrev pub enters_cpu : ℕ → ℕ → Control → Live → Live
enters_cpu cpu s c k = record k { machine = entered cpu c (left cpu k.machine); on = change_at cpu (λ _. Some s) k.on }

-- who isn't there already goes onto the CPU, and who was there leaves it before
abbrev pub switched : ℕ → ℕ → Control → Option ℕ → Live → Live
switched cpu s c None k = enters_cpu cpu s c k
switched cpu s c (Some t) k = if t == s then k else enters_cpu cpu s c k

-- ---- a turn

abbrev pub kernel_idles : Live → Turned Live TurnLine
kernel_idles k = record { state = k; line = None }

abbrev pub turn_line_of : Turn → TurnAction → TurnLine
turn_line_of t what = record { tick = t.tick; cpu = t.cpu; subject = t.subject; pc = t.pc; what = what }

abbrev pub turn_told : Turn → TurnAction → Live → Turned Live TurnLine
turn_told t what k = record { state = k; line = Some (turn_line_of t what) }

-- ---- the kernel acts on an exit

abbrev pub entry : List (Option EventPart) → ℕ → Option EventPart
entry events n = option_and_then (λ e. e) (slice_get events n)

-- the event that an exit raises: by the number of a call, or by the reason of a trap; HLT raises none
abbrev pub event_of : SubjectPart → ℕ → ℕ → Option EventPart
event_of part reason call =
    if reason == EXIT_HLT then None
    else (if reason == EXIT_VMCALL then entry part.calls call else entry part.traps reason)

-- how the kernel ended an exit, by whether it raised an event
abbrev pub exit_end_of : ℕ → Bool → ExitEnd
exit_end_of reason raises =
    if reason == EXIT_HLT then Halt
    else (if reason == EXIT_VMCALL then On
    else (if raises then Trap else Stop))

abbrev pub raised_by : Option EventPart → RouterState → RouterState
raised_by None r = r
raised_by (Some e) r = raised e r

abbrev pub exit_handled : Turn → ℕ → ℕ → ℕ → Option EventPart → Live → Turned Live TurnLine
exit_handled t reason qualification addr event k =
    turn_told t (Exit reason qualification addr (exit_end_of reason (is_some event))) (record k {
      machine = exit_finished t.cpu (finish_of reason (is_some event)) k.machine;
      router = raised_by event k.router;
    })

-- after a step that ended so
abbrev pub handled : Turn → SubjectPart → StepEnd → Live → Turned Live TurnLine
handled t part (ends.Ran change) k = turn_told t (Ran change) k
handled t part (ends.Exit reason qualification addr call) k =
    exit_handled t reason qualification addr (event_of part reason call) k

-- ---- the cases of a turn, of the subject with this number and these parts, which is on the CPU

abbrev pub stepped : Turn → SubjectPart → Stepped → Live → Turned Live TurnLine
stepped t part s k = handled t part s.end (record k { machine = s.machine })

abbrev pub injects : Turn → ℕ → ℕ → Live → Turned Live TurnLine
injects t s vector k = turn_told t (Inject vector) (record k {
  machine = vector_injected t.cpu vector k.machine;
  router = taken s (Some vector) k.router;
})

-- what a turn goes by, of a state
abbrev pub turn_standing_of : SubjectState → Standing
turn_standing_of st =
    record { pc = st.pc; interrupts = st.interrupts; halted = st.halted; stopped = st.stopped; exited = st.exited }

-- nothing is delivered
abbrev pub goes_further : Turn → SubjectPart → SubjectState → Live → Turned Live TurnLine
goes_further t part st k =
    if st.halted then kernel_idles k else stepped t part (machine_step t.cpu k.ports t.tick k.machine) k

abbrev pub delivers : Turn → ℕ → SubjectPart → SubjectState → Option ℕ → Live → Turned Live TurnLine
delivers t s part st (Some vector) k = injects t s vector k
delivers t s part st None k = goes_further t part st k

-- the vector that is delivered, where the subject lets events in; those that wait are deliverable at the first tick of a
-- minor frame, and after an exit
abbrev pub vector_for : ℕ → Bool → SubjectState → RouterState → Option ℕ
vector_for s first st r = if st.interrupts then deliverable r s (first || st.exited) else None

abbrev pub acts : Turn → ℕ → SubjectPart → Bool → SubjectState → Live → Turned Live TurnLine
acts t s part first st k =
    if st.stopped then kernel_idles k else delivers t s part st (vector_for s first st k.router) k

-- by the state of who is on the CPU
abbrev pub acts_in : ℕ → ℕ → ℕ → SubjectPart → Bool → Option SubjectState → Live → Turned Live TurnLine
acts_in cpu tick s part first None k = kernel_idles k
acts_in cpu tick s part first (Some st) k =
    acts (record { tick = tick; cpu = cpu; subject = part.name; pc = st.pc }) s part first st k

abbrev pub acts_on : ℕ → ℕ → ℕ → SubjectPart → Bool → Live → Turned Live TurnLine
acts_on cpu tick s part first k = acts_in cpu tick s part first (state_on k.machine cpu) k

-- ---- whose turn it is

-- of the subject with this number, by its parts and its control, and by who was on the CPU
abbrev pub cpu_turn_of_subject : ℕ → ℕ → ℕ → Bool → Option ℕ → Option SubjectPart → Option Control → Live → Turned Live TurnLine
cpu_turn_of_subject cpu tick s first on (Some part) (Some c) k = acts_on cpu tick s part first (switched cpu s c on k)
cpu_turn_of_subject cpu tick s first on (Some part) None k = kernel_idles k
cpu_turn_of_subject cpu tick s first on None c k = kernel_idles k

-- by the active member of the slot's group
abbrev pub cpu_turn_of_member : Setup → ℕ → ℕ → Bool → Option ℕ → Option ℕ → Live → Turned Live TurnLine
cpu_turn_of_member setup cpu tick first on (Some s) k =
    cpu_turn_of_subject cpu tick s first on (slice_get setup.subjects s) (slice_get setup.controls s) k
cpu_turn_of_member setup cpu tick first on None k = kernel_idles k

-- by the slot
abbrev pub cpu_turn_in_slot : Setup → ℕ → ℕ → Option ℕ → Option Slot → Live → Turned Live TurnLine
cpu_turn_in_slot setup cpu tick on (Some slot) k =
    cpu_turn_of_member setup cpu tick slot.first on (slice_get k.router.active slot.group) k
cpu_turn_in_slot setup cpu tick on None k = kernel_idles k

-- by who is on the CPU; a CPU that isn't there takes no turn
abbrev pub turn_on : Setup → ℕ → ℕ → Option (Option ℕ) → Live → Turned Live TurnLine
turn_on setup cpu tick (Some on) k = cpu_turn_in_slot setup cpu tick on (slot_in (frames_in setup.plan cpu) k.frame tick) k
turn_on setup cpu tick None k = kernel_idles k

-- **the turn** of a CPU in a tick
abbrev pub turn_of : Setup → ℕ → ℕ → Live → Turned Live TurnLine
turn_of setup cpu tick k = turn_on setup cpu tick (slice_get k.on cpu) k
