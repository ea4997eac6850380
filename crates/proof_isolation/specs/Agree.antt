-- Two policies with their files and records that agree on what reaches the members of a set of subjects (this project's own).
use Rattle.std.specs.Prelude.{◌≡◌, ℕ, ◌<◌, ◌==◌, ◌&&◌, ◌||◌, Bool, false, true, List, filter, map, Option, Some, None, if◌then◌else◌, option_and_then, option_map, slice_get}
use Rattle.std.specs.List.{All, list_any}
use Rattle.std.specs.Option.{option_map_or}
use Rattle.std.specs.Str.{bytes_eq}
use Rattle.subject_model.specs.Resources.{ports_of}
use Rattle.policy_flows.specs.Flows.{is_member, reaches}
use Rattle.subject_model.specs.Frames.{slot_in}
use Rattle.subject_model.specs.frame_at.FrameAt.{FrameAt}
use Rattle.policy_lawful.specs.MoreRules.{is_switch}
use Rattle.policy_lawful.specs.Contents.{Held}
use Rattle.policy_lawful.specs.Dma.{dma_windows}
use Rattle.policy_lawful.specs.Events.{Raised, Target, event_of, irq_of}
use Rattle.policy_lawful.specs.Frames.{first_member, frames_of, group_of}
use Rattle.policy_lawful.specs.Thing.{Thing, device_memory}
use Rattle.policy_lawful.specs.Windows.{windows_of}
use Rattle.policy_lawful.specs.source.Source.{Source}
use Rattle.policy_lawful.specs.source.SourceWay.{SourceWay}
use Rattle.policy_lawful.specs.source.Subject.{Subject}
use Rattle.policy_lawful.specs.source.Tau0.{Tau0}
use Rattle.subject_model.specs.DeviceRecord.{DeviceRecord, NamedInput, port_input, memory_input, irq_input, dma_input}
use Rattle.subject_model.specs.Alone.{own_of, thing_in}
use Rattle.subject_model.specs.Clock.{ByteWrite, inputs_at, line_writes, order_at, ticks_of_majors}
use Rattle.subject_model.specs.Laws.{frame_after}
use Rattle.subject_model.specs.System.{is_shown, start_of, subject_named}

-- ---- what agrees for one subject

-- an event hands the CPU over
abbrev pub is_handover : Option Raised → Bool
is_handover None = false
is_handover (Some e) = is_switch e.mode

-- an event, if it is to the subject of this name
abbrev pub only_to : List ℕ → Option Raised → Option Raised
only_to name o = if reaches o name then o else None

-- where an interrupt goes, if it is to the subject of this name
abbrev pub irq_to : List ℕ → Option Target → Option Target
irq_to name o = if option_map_or (λ t. bytes_eq t.subject name) o false then o else None

-- it is the first listed member of its group
abbrev pub is_first : Source → List ℕ → Bool
is_first p name =
    option_map_or (λ g. bytes_eq (first_member g.subjects) name) (option_and_then (λ k. slice_get p.scheduling.groups k) (group_of p name)) false

-- whether its group has the subject's CPU at a tick of a major frame, and where it has, whether the tick is the first of its minor frame
abbrev pub own_slot : Source → Subject → FrameAt → ℕ → Option Bool
own_slot p s at tick =
    option_and_then (λ slot. if option_map_or (λ k. k == slot.group) (group_of p s.name) false then Some slot.first else None)
    (slot_in (frames_of p s.cpu) at tick)

-- for a member, under its name in both policies
pub record AgreeFor (members : List (List ℕ)) (p q : Source) (f g : Held) (s z : Subject) : Type 0 where
  -- what it is given for itself
  pub own : own_of p s ≡ own_of q z
  -- in which ways it hands its CPU over, and which events it raises at members
  pub switches : (way : SourceWay) → is_handover (event_of p s way) ≡ is_handover (event_of q z way)
  pub events : (m : Subject) → is_member members m ≡ true → (way : SourceWay) → only_to m.name (event_of p s way) ≡ only_to m.name (event_of q z way)
  pub first : is_first p s.name ≡ is_first q z.name
  -- the bytes at the start of all that its windows show
  pub contents : (x : Thing) → is_shown (windows_of p s) x ≡ true → thing_in (start_of p f).things x ≡ thing_in (start_of q g).things x
  -- the interrupts that are granted to it
  pub irqs : (device irq : List ℕ) → irq_to s.name (irq_of p device irq) ≡ irq_to s.name (irq_of q device irq)

-- ---- what agrees of records

-- a window of a member shows this thing
abbrev pub is_seen : Source → List (List ℕ) → Thing → Bool
is_seen p members x = list_any (λ s. is_member members s && is_shown (windows_of p s) x) p.subjects

-- the domain of a device maps a thing that a window of a member shows
abbrev pub maps_seen : Source → List (List ℕ) → List ℕ → Bool
maps_seen p members device = list_any (λ w. is_seen p members w.thing) (dma_windows p device)

-- an input reaches a member, by the first of two policies; for a line of direct memory access it is enough that its device's domain
-- maps, in either policy, a thing that a window of a member shows
abbrev pub input_reaches_member : Source → Source → List (List ℕ) → NamedInput → Bool
input_reaches_member p q members (port_input device port value) = list_any (λ s. is_member members s && list_any (λ n. n == port) (ports_of p s)) p.subjects
input_reaches_member p q members (memory_input device memory offset bytes) = is_seen p members (device_memory device memory)
input_reaches_member p q members (irq_input device irq) =
    option_map_or (λ t. list_any (λ s. is_member members s && bytes_eq s.name t.subject) p.subjects) (irq_of p device irq) false
input_reaches_member p q members (dma_input device address bytes) = maps_seen p members device || maps_seen q members device

-- what members see of a byte that is written: the byte, if a window of a member shows its thing
abbrev pub as_seen : Source → List (List ℕ) → ByteWrite → Option ByteWrite
as_seen p members w = if is_seen p members w.thing then Some w else None

-- a line of direct memory access does the same in both policies to what members see: each of its bytes goes somewhere in both or in
-- neither, and where a window of a member shows the thing, to the same byte of it
abbrev pub WritesTheSame : List (List ℕ) → Source → Source → NamedInput → Type 0
WritesTheSame members p q (dma_input device address bytes) =
    map (option_map (as_seen p members)) (line_writes p device address bytes) ≡ map (option_map (as_seen q members)) (line_writes q device address bytes)
WritesTheSame members p q _ = Unit {0}

-- a member is on this CPU
abbrev pub holds_member : Source → List (List ℕ) → ℕ → Bool
holds_member p members cpu = list_any (λ s. is_member members s && (s.cpu == cpu)) p.subjects

-- ---- what agrees of the plans

-- the major frame at a tick, where nothing ever picks one
abbrev pub plain_frame : Source → ℕ → FrameAt
plain_frame p tick = frame_after (ticks_of_majors p) tick

-- the CPUs go to the groups of members at the same ticks: where nobody chooses frames in either policy, of each tick; where the
-- same subject chooses them by the same region in both, of each tick of each major frame, of which there are as many, and as long
pub data AgreeOnFrames (members : List (List ℕ)) (p q : Source) (ends : ℕ) : Type 0 where
  unchosen : p.scheduling.tau0 ≡ None → q.scheduling.tau0 ≡ None
      → ((s z : Subject) → is_member members s ≡ true → subject_named p s.name ≡ Some s → subject_named q s.name ≡ Some z → (tick : ℕ) → tick < ends
      → own_slot p s (plain_frame p tick) tick ≡ own_slot q z (plain_frame q tick) tick)
      → AgreeOnFrames members p q ends
  chosen : (t u : Tau0) → p.scheduling.tau0 ≡ Some t → q.scheduling.tau0 ≡ Some u → t.subject ≡ u.subject → t.region ≡ u.region → ticks_of_majors p ≡ ticks_of_majors q
      → ((s z : Subject) → is_member members s ≡ true → subject_named p s.name ≡ Some s → subject_named q s.name ≡ Some z → (at : FrameAt) (tick : ℕ) → own_slot p s at tick ≡ own_slot q z at tick)
      → AgreeOnFrames members p q ends

-- ---- all of it

pub record Agree (members : List (List ℕ)) (p q : Source) (f g : Held) (r t : DeviceRecord) (ends : ℕ) : Type 0 where
  -- both policies declare each member
  pub there : (s : Subject) → is_member members s ≡ true → subject_named p s.name ≡ Some s → (z : Subject) × (subject_named q s.name ≡ Some z)
  pub back : (z : Subject) → is_member members z ≡ true → subject_named q z.name ≡ Some z → (s : Subject) × (subject_named p z.name ≡ Some s)
  pub each : (s z : Subject) → is_member members s ≡ true → subject_named p s.name ≡ Some s → subject_named q s.name ≡ Some z → AgreeFor members p q f g s z
  pub frames : AgreeOnFrames members p q ends
  -- inputs that reach members are the same in both, and the lines of direct memory access among them do the same to what these see
  pub inputs : (tick : ℕ) → tick < ends → filter (input_reaches_member p q members) (inputs_at r tick) ≡ filter (input_reaches_member q p members) (inputs_at t tick)
  pub writes : (tick : ℕ) → tick < ends → All (WritesTheSame members p q) (filter (input_reaches_member p q members) (inputs_at r tick))
  pub orders : (tick : ℕ) → tick < ends → filter (holds_member p members) (order_at p r tick) ≡ filter (holds_member q members) (order_at q t tick)
