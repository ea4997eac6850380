-- Devices that answer what members of a set of subjects print, and what these leave in memory (this project's own).
use Rattle.std.specs.Prelude.{◌≡◌, ℕ, ◌<◌, true, List, filter, min, nat_le, Option, Some, None, if◌then◌else◌, slice_get}
use Rattle.std.specs.List.{All}
use Rattle.subject_model.specs.Run.{run_to}
use Rattle.subject_model.specs.TurnLine.{TurnLine}
use Rattle.policy_flows.specs.Flows.{IsClosed, is_member}
use Rattle.policy_lawful.specs.Contents.{Held}
use Rattle.policy_lawful.specs.Lawful.{IsLawful}
use Rattle.policy_lawful.specs.Thing.{Thing}
use Rattle.policy_lawful.specs.source.Source.{Source}
use Rattle.policy_lawful.specs.source.Subject.{Subject}
use Rattle.subject_model.specs.Alone.{thing_in}
use Rattle.subject_model.specs.DeviceRecord.{DeviceRecord, NamedInput}
use Rattle.subject_model.specs.Clock.{inputs_at, order_at, system}
use Rattle.subject_model.specs.System.{System, start_of, subject_named}
use Rattle.subject_model.specs.View.{Seen, view_of}
use Rattle.proof_isolation.specs.Agree.{Agree, AgreeFor, AgreeOnFrames, WritesTheSame, holds_member, input_reaches_member, is_seen}
use Rattle.proof_isolation.specs.Alike.{AreSameViews}
use Rattle.proof_isolation.specs.MemberLines.{is_of}
use Rattle.proof_isolation.specs.TwoTexts.{ArePrintedAlike}

-- ---- what devices are told, and what they answer

-- bytes of things; none of a thing of which nothing is told
abbrev pub Memory : Type 0
Memory = Thing → Option (List ℕ)

-- what is told before a tick
pub record Heard : Type 0 where
  -- lines of the ticks before, in the order of the turns; each has its tick and its CPU
  pub lines : List TurnLine
  -- memory as each tick until this one found it
  pub memory : ℕ → Memory

-- the bytes of each thing that a window of a member shows
abbrev pub shown_by : Source → List (List ℕ) → System → Memory
shown_by p members y x = if is_seen p members x then thing_in y.things x else None

-- what is told of members in a run: the lines that they have printed, and all that their windows show
abbrev pub heard : Source → List (List ℕ) → Held → DeviceRecord → ℕ → Heard
heard p members f r tick = record {
  lines = filter (is_of members) (run_to (system p) (inputs_at r) (order_at p r) tick (start_of p f)).lines;
  memory = λ k x. if nat_le k tick then shown_by p members (run_to (system p) (inputs_at r) (order_at p r) k (start_of p f)).state x else None;
}

-- what comes in a tick, by what is told before it: the inputs, and the order of the CPUs; it is given nothing else
pub record Strategy : Type 0 where
  pub inputs : Heard → ℕ → List NamedInput
  pub order : Heard → ℕ → List ℕ

-- in each of the first ticks of a run the inputs that reach members, and the order of the CPUs that hold members, are what the
-- strategy answers to what is told of members in this run; all other inputs and CPUs are free
pub record Follows (strategy : Strategy) (members : List (List ℕ)) (p q : Source) (f : Held) (r : DeviceRecord) (ends : ℕ) : Type 0 where
  pub inputs : (tick : ℕ) → tick < ends → filter (input_reaches_member p q members) (inputs_at r tick) ≡ strategy.inputs (heard p members f r tick) tick
  pub order : (tick : ℕ) → tick < ends → filter (holds_member p members) (order_at p r tick) ≡ strategy.order (heard p members f r tick) tick

-- ---- what agrees of two policies apart from what devices do

-- as in `Agree`, but that neither the inputs nor the orders are the same in both records; the lines of direct memory access that
-- come in the first one do the same to what members see
pub record AgreeButForDevices (members : List (List ℕ)) (p q : Source) (f g : Held) (r : DeviceRecord) (ends : ℕ) : Type 0 where
  pub there : (s : Subject) → is_member members s ≡ true → subject_named p s.name ≡ Some s → (z : Subject) × (subject_named q s.name ≡ Some z)
  pub back : (z : Subject) → is_member members z ≡ true → subject_named q z.name ≡ Some z → (s : Subject) × (subject_named p z.name ≡ Some s)
  pub each : (s z : Subject) → is_member members s ≡ true → subject_named p s.name ≡ Some s → subject_named q s.name ≡ Some z → AgreeFor members p q f g s z
  pub frames : AgreeOnFrames members p q ends
  pub writes : (tick : ℕ) → tick < ends → All (WritesTheSame members p q) (filter (input_reaches_member p q members) (inputs_at r tick))

-- two runs in which devices follow one strategy
pub record AreLooped (strategy : Strategy) (members : List (List ℕ)) (p q : Source) (f g : Held) (r t : DeviceRecord) (ends : ℕ) : Type 0 where
  pub lawful : IsLawful q
  pub closed : IsClosed q members
  pub agree : AgreeButForDevices members p q f g r ends
  pub follows : Follows strategy members p q f r ends
  pub follows_too : Follows strategy members q p g t ends

-- ---- what is said of them

-- they agree on all that reaches members, inputs and orders too, if there is a member
abbrev pub LoopsAgree : Source → List (List ℕ) → Type 0
LoopsAgree p members =
    (strategy : Strategy) (q : Source) (f g : Held) (r t : DeviceRecord) (ends : ℕ) → AreLooped strategy members p q f g r t ends
    → (s : Subject) → is_member members s ≡ true → subject_named p s.name ≡ Some s → Agree members p q f g r t ends

-- what members see depends on members and the strategy alone
abbrev pub DependOnMembersAndStrategyAlone : Source → List (List ℕ) → Type 0
DependOnMembersAndStrategyAlone p members =
    (strategy : Strategy) (q : Source) (f g : Held) (r t : DeviceRecord) → AreLooped strategy members p q f g r t (min r.end t.end)
    → (s w : Subject) → is_member members s ≡ true → subject_named p s.name ≡ Some s → subject_named q s.name ≡ Some w
    → (n : ℕ) (a b : Seen) → slice_get (view_of p f r s) n ≡ Some a → slice_get (view_of q g t w) n ≡ Some b → AreSameViews a b

-- and so does all that is printed of them
abbrev pub PrintsLoopedMembersAlike : Source → List (List ℕ) → Type 0
PrintsLoopedMembersAlike p members =
    (strategy : Strategy) (q : Source) (f g : Held) (r t : DeviceRecord) → AreLooped strategy members p q f g r t (min r.end t.end)
    → (s w : Subject) → is_member members s ≡ true → subject_named p s.name ≡ Some s → subject_named q s.name ≡ Some w → ArePrintedAlike members p q f g r t s w

-- the same of one run: of each member of a set that is closed in this system, the same is printed in every second system whose devices
-- follow the strategy that this one's follow
abbrev pub PrintsFollowersAlike : Source → Held → DeviceRecord → Type 0
PrintsFollowersAlike p f r =
    (strategy : Strategy) (q : Source) (g : Held) (t : DeviceRecord) (members : List (List ℕ)) → IsClosed p members → AreLooped strategy members p q f g r t (min r.end t.end)
    → (s w : Subject) → is_member members s ≡ true → subject_named p s.name ≡ Some s → subject_named q s.name ≡ Some w → ArePrintedAlike members p q f g r t s w

-- ---- devices that answer nothing

-- their inputs and orders are those of a record
abbrev pub deaf : Source → Source → List (List ℕ) → DeviceRecord → Strategy
deaf p q members r = record {
  inputs = λ heard tick. filter (input_reaches_member p q members) (inputs_at r tick);
  order = λ heard tick. filter (holds_member p members) (order_at p r tick);
}
