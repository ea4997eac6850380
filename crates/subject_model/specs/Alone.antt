-- A subject alone (this project's own machine; exits and qualifications as in Intel SDM volume 3): what it is given for itself,
-- what reaches it, and its turn, which sees its own state, these two, and nothing else.
use Rattle.std.specs.Prelude.{ℕ, zero, suc, ◌+◌, ◌*◌, ◌==◌, ◌&&◌, ◌||◌, Bool, true, false, if◌then◌else◌, List, [], map, Option, Some, None}
use Rattle.std.specs.Option.{option_map_or}
use Rattle.expand_grants.specs.Resources.{Msr, are_granted, is_granted, msrs_of, ports_of}
use Rattle.guest_isa.specs.Finish.{finished, finish_of, injected}
use Rattle.guest_isa.specs.Step.{World, Stored, MsrWrite, Answer, step}
use Rattle.guest_isa.specs.declared.end.StepEnd.{StepEnd}
use Rattle.guest_isa.specs.declared.end.StepEnd.TheVariants as ends
use Rattle.guest_isa.specs.declared.reach.Reach.{Reach}
use Rattle.guest_isa.specs.declared.reach.Reach.TheVariants.{Reached, Refused}
use Rattle.machine_layout.specs.Memory.{le_number}
use Rattle.muen_num.specs.Access.{kind_bit}
use Rattle.muen_num.specs.Range.{numbers_below}
use Rattle.muen_num.specs.declared.access.AccessKind.{AccessKind}
use Rattle.muen_num.specs.declared.limits.TheConstants.{EXIT_EPT_VIOLATION, EXIT_HLT, EXIT_VMCALL}
use Rattle.policy_lawful.specs.Events.{traps_of}
use Rattle.policy_lawful.specs.Thing.{Thing, same_thing}
use Rattle.policy_lawful.specs.Windows.{Window, Access, byte, violation, access_of, windows_of}
use Rattle.policy_lawful.specs.Rights.{found_bits}
use Rattle.policy_lawful.specs.source.Source.{Source}
use Rattle.policy_lawful.specs.source.SourceWay.{SourceWay}
use Rattle.policy_lawful.specs.source.SourceWay.TheVariants.{Call, Trap}
use Rattle.policy_lawful.specs.source.Subject.{Subject}
use Rattle.guest_isa.specs.state.SubjectState.{SubjectState}
use Rattle.view_text.specs.declared.ExitEnd.{ExitEnd}
use Rattle.view_text.specs.declared.ExitEnd.TheVariants.{On, Halt, Trap as Trapped, Stop}
use Rattle.view_text.specs.declared.TurnAction.{TurnAction}
use Rattle.view_text.specs.declared.TurnAction.TheVariants.{Ran, Inject, Exit}
use Rattle.subject_model.specs.ByKey.{value_of}
use Rattle.muen_num.specs.Numbers.{is_among}

-- ---- what a subject is given for itself

pub record Own : Type 0 where
  pub name : List ℕ
  pub cpu : ℕ
  pub entry : ℕ
  pub windows : List (Window Thing)
  pub ports : List ℕ
  pub msrs : List Msr
  pub traps : List ℕ

unfoldable pub own_of : Source → Subject → Own
own_of p s = record {
  name = s.name;
  cpu = s.cpu;
  entry = s.entry;
  windows = windows_of p s;
  ports = ports_of p s;
  msrs = msrs_of s;
  traps = traps_of s;
}

-- values of MSRs, by their indices
abbrev pub MsrValues : Type 0
MsrValues = List (ℕ × ℕ)

abbrev pub msr_value : MsrValues → ℕ → Option ℕ
msr_value values index = value_of (λ a b. a == b) values index

-- its own state: that of its registers and flags, and the values of its MSRs
pub record OwnState : Type 0 where
  pub state : SubjectState
  pub msrs : MsrValues

-- ---- what reaches a subject

-- things with their bytes
abbrev pub Things : Type 0
Things = List (Thing × List ℕ)

abbrev pub thing_in : Things → Thing → Option (List ℕ)
thing_in things x = value_of same_thing things x

abbrev pub bytes_in : Things → Thing → List ℕ
bytes_in things x = option_map_or (λ bytes. bytes) (thing_in things x) []

-- the bytes of the things that it has windows on, the input bytes of its ports, its two sets of pending vectors, whether the
-- tick is the first of its minor frame, and the tick
pub record Inbox : Type 0 where
  pub things : Things
  pub ports : List (ℕ × ℕ)
  pub now : List ℕ
  pub later : List ℕ
  pub first : Bool
  pub tick : ℕ

-- ---- what a step of its sees: targets are things

-- where a window leads; a missing right is an EPT violation, whose qualification has the bit of the access, and the rights that
-- were found in bits 5:3
abbrev pub reach_by : AccessKind → ℕ → Access Thing → Reach Thing
reach_by kind addr (byte x offset) = Reached x offset
reach_by kind addr (violation found) = Refused EXIT_EPT_VIOLATION (kind_bit kind + 8 * found_bits found) addr

abbrev pub input_byte : List (ℕ × ℕ) → ℕ → ℕ
input_byte ports port = option_map_or (λ b. b) (value_of (λ a b. a == b) ports port) 0

-- the byte of the lowest port is the lowest
abbrev pub input_of : List ℕ → List (ℕ × ℕ) → ℕ → ℕ → Option ℕ
input_of granted ports port size =
    if are_granted granted port size
    then Some (le_number (map (λ k. input_byte ports (port + k)) (numbers_below size)))
    else None

abbrev pub msr_input : List Msr → MsrValues → ℕ → Option ℕ
msr_input granted values index = if is_granted granted index false then msr_value values index else None

abbrev pub alone : Own → MsrValues → Inbox → World Thing
alone own values inbox = record {
  look = λ kind addr. reach_by kind addr (access_of own.windows addr kind);
  bytes = bytes_in inbox.things;
  input = input_of own.ports inbox.ports;
  output = are_granted own.ports;
  msr = msr_input own.msrs values;
  sets_msr = λ index. is_granted own.msrs index true;
  tick = inbox.tick;
}

-- ---- the answer of a turn: the new state, what the line says if there is one, at most one store, one MSR that is written, the
-- vector that was delivered, and the way in which an event is raised

pub record TurnAnswer : Type 0 where
  pub state : SubjectState
  pub what : Option TurnAction
  pub stored : Option (Stored Thing)
  pub msr : Option MsrWrite
  pub taken : Option ℕ
  pub raised : Option SourceWay

-- nothing happens and no line is printed
abbrev pub waits : SubjectState → TurnAnswer
waits s = record { state = s; what = None; stored = None; msr = None; taken = None; raised = None }

abbrev pub injects : SubjectState → ℕ → TurnAnswer
injects s v = record { state = injected v s; what = Some (Inject v); stored = None; msr = None; taken = Some v; raised = None }

-- ---- after an exit

-- how it goes on, as a line tells it
abbrev pub exit_end_of : ℕ → Bool → ExitEnd
exit_end_of reason trap =
    if reason == EXIT_HLT then Halt
    else (if reason == EXIT_VMCALL then On
    else (if trap then Trapped else Stop))

-- the way in which it raises an event: a call by its number, an exit with a trap entry by its reason; HLT raises none
abbrev pub way_of : List ℕ → ℕ → ℕ → Option SourceWay
way_of traps reason call =
    if reason == EXIT_HLT then None
    else (if reason == EXIT_VMCALL then Some (Call call)
    else (if is_among traps reason then Some (Trap reason) else None))

-- ---- after a step, by how it ended

abbrev pub what_of : List ℕ → StepEnd → TurnAction
what_of traps (ends.Ran change) = Ran change
what_of traps (ends.Exit reason qualification addr call) = Exit reason qualification addr (exit_end_of reason (is_among traps reason))

abbrev pub state_after : List ℕ → StepEnd → SubjectState → SubjectState
state_after traps (ends.Exit reason qualification addr call) s = finished (finish_of reason (is_among traps reason)) s
state_after traps (ends.Ran change) s = s

abbrev pub way_after : List ℕ → StepEnd → Option SourceWay
way_after traps (ends.Exit reason qualification addr call) = way_of traps reason call
way_after traps (ends.Ran change) = None

abbrev pub stepped : List ℕ → Answer Thing → TurnAnswer
stepped traps a = record {
  state = state_after traps a.end a.state;
  what = Some (what_of traps a.end);
  stored = a.stored;
  msr = a.msr;
  taken = None;
  raised = way_after traps a.end;
}

-- ---- the turn

-- the greatest number below n for which the test holds
abbrev pub greatest : ℕ → (ℕ → Bool) → Option ℕ
greatest zero test = None
greatest (suc n) test = if test n then Some n else greatest n test

-- the vector that is delivered: the greatest of those that are deliverable at any turn, and where `entry` holds of those that
-- are deliverable later too; vectors are below 256
abbrev pub delivered : List ℕ → List ℕ → Bool → Option ℕ
delivered now later entry = greatest 256 (λ v. is_among now v || (entry && is_among later v))

-- where the subject lets events in; those that wait are deliverable at the first tick of a minor frame, and after an exit
abbrev pub vector_for : SubjectState → Inbox → Option ℕ
vector_for s inbox = if s.interrupts then delivered inbox.now inbox.later (inbox.first || s.exited) else None

abbrev pub unless_delivered : SubjectState → Option ℕ → TurnAnswer → TurnAnswer
unless_delivered s (Some v) otherwise = injects s v
unless_delivered s None otherwise = otherwise

-- **the turn of a subject alone**: the first that applies of these: it is stopped; an event is delivered; it is halted; one
-- instruction runs
unfoldable pub solo_turn : Own → OwnState → Inbox → TurnAnswer
solo_turn own mine inbox =
    if mine.state.stopped then waits mine.state
    else unless_delivered mine.state (vector_for mine.state inbox)
    (if mine.state.halted then waits mine.state else stepped own.traps (step (alone own mine.msrs inbox) mine.state))
