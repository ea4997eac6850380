-- The laws of devices that answer, and of who has the ticks (this project's own).
use Rattle.std.specs.Prelude.{◌≡◌, ℕ, ◌<◌, ◌≤◌, List, [], ◌∷◌, None, Some, codes, filter, min, slice_get}
use Rattle.guest_isa.specs.declared.end.Change.TheVariants.{Out}
use Rattle.muen_num.specs.declared.access.AccessSize.{AccessSize}
use Rattle.policy_flows.specs.Flows.{IsClosed}
use Rattle.policy_lawful.specs.Contents.{Held}
use Rattle.policy_lawful.specs.Lawful.{IsLawful}
use Rattle.policy_lawful.specs.source.Source.{Source}
use Rattle.policy_lawful.specs.source.Subject.{Subject}
use Rattle.subject_model.specs.Clock.{inputs_at}
use Rattle.subject_model.specs.DeviceRecord.{DeviceRecord, NamedInput, irq_input, port_input}
use Rattle.subject_model.specs.System.{subject_named}
use Rattle.subject_model.specs.TurnAction.TheVariants.{Ran}
use Rattle.subject_model.specs.View.{Seen, view_of}
use Rattle.proof_isolation.specs.Agree.{Agree, WritesTheSame, input_reaches_member}
use Rattle.proof_isolation.specs.Alike.{AreSameViews}
use Rattle.proof_isolation.specs.TwoSystems.{DependOnMembersAlone}
use Rattle.proof_isolation.specs.TwoTexts.{PrintsMembersAlike}
use Rattle.proof_views.specs.Laws.{IsLawfulRun}
use Rattle.proof_reactive.specs.Acting.{ActsIfItCan, HasItsTicks}
use Rattle.proof_reactive.specs.Answering.{AgreeButForDevices, AreLooped, DependOnMembersAndStrategyAlone, Follows, Heard, PrintsFollowersAlike, deaf, heard}
use Rattle.proof_reactive.specs.Echo.{answer, busy, echo, echoes, everybody, given_back, gossip, halts, lends, members, nothing_comes, one_comes, serves, sets, silent, talker, talker_code}
use Rattle.proof_reactive.specs.Playing.{AreTold, by_answers, played}

-- ---- devices that answer

-- of a set that is closed in a lawful policy
abbrev pub OfClosedSets : (Source → List (List ℕ) → Type 0) → Type 0
OfClosedSets law = (p : Source) (members : List (List ℕ)) → IsLawful p → IsClosed p members → law p members

-- two systems that agree on inputs and orders follow the strategy that gives those of the first record, whatever it is told
abbrev pub RecordsAreStrategies : Type 0
RecordsAreStrategies =
    (p q : Source) (members : List (List ℕ)) (f g : Held) (r t : DeviceRecord) (ends : ℕ) → Agree members p q f g r t ends
    → Follows (deaf p q members r) members p q f r ends × Follows (deaf p q members r) members q p g t ends

-- whatever devices answer, there is a record that follows their strategy
abbrev pub AnswersCanBePlayed : Type 0
AnswersCanBePlayed =
    (answers : Heard → ℕ → List NamedInput) (others : ℕ → List NamedInput) (cpus : List ℕ) (members : List (List ℕ)) (p q : Source) (f : Held) (n ends : ℕ)
    → AreTold answers others cpus members p q → ends ≤ n → Follows (by_answers answers cpus) members p q f (played answers others members p f n) ends

-- ---- what calls promise of two systems

-- what `muen` promises of a run is so of devices that answer
abbrev pub PromisedPrintsReachStrategies : Type 0
PromisedPrintsReachStrategies = (p : Source) (f : Held) (r : DeviceRecord) → IsLawful p → PrintsMembersAlike p f r → PrintsFollowersAlike p f r

-- and follows from it
abbrev pub StrategiesPrintAsPromised : Type 0
StrategiesPrintAsPromised = (p : Source) (f : Held) (r : DeviceRecord) → PrintsFollowersAlike p f r → PrintsMembersAlike p f r

-- what `flows` promises of a set is so of devices that answer
abbrev pub PromisedSetsReachStrategies : Type 0
PromisedSetsReachStrategies = OfClosedSets (λ p members. DependOnMembersAlone p members → DependOnMembersAndStrategyAlone p members)

-- and follows from it
abbrev pub StrategiesSeeAsPromised : Type 0
StrategiesSeeAsPromised = (p : Source) (members : List (List ℕ)) → DependOnMembersAndStrategyAlone p members → DependOnMembersAlone p members

-- ---- who acts, and who has the ticks

-- of a subject of a run
abbrev pub WhoHasATickActs : Type 0
WhoHasATickActs = (p : Source) (files : Held) (r : DeviceRecord) (s : Subject) → IsLawfulRun p r → subject_named p s.name ≡ Some s → ActsIfItCan p files r s

-- of a policy in which nobody chooses frames
abbrev pub GroupsHaveTheirTicks : Type 0
GroupsHaveTheirTicks = (p : Source) (files : Held) (r : DeviceRecord) → IsLawful p → p.scheduling.tau0 ≡ None → HasItsTicks p files r

-- ---- two devices beside a subject that runs anything

abbrev pub EchoesAreLawful : Type 0
EchoesAreLawful = (own code : List ℕ) → IsLawful (echo own code) × IsClosed (echo own code) members

-- devices that answer so, where another one is silent in one system and interrupts in each tick of the other
abbrev pub LoopedBy : (Heard → ℕ → List NamedInput) → Type 0
LoopedBy answers =
    (own code other : List ℕ) (f g : Held) (many more : ℕ)
    → AreLooped (by_answers answers (0 ∷ [])) members (echo own code) (echo own other) f g (played answers silent members (echo own code) f many) (played answers busy members (echo own other) g more) (min many more)

abbrev pub EchoesAreLooped : Type 0
EchoesAreLooped = LoopedBy echoes

-- what is written in tick 4 is answered in tick 5
abbrev pub EchoesAnswerBytes : Type 0
EchoesAnswerBytes =
    (size : AccessSize) (pc port : ℕ) (heard : Heard) → heard.lines ≡ record { tick = 4; cpu = 0; subject = codes "talker"; pc = pc; what = Ran (Out size port 6) } ∷ []
    → echoes heard 5 ≡ port_input (codes "line") 768 7 ∷ irq_input (codes "line") (codes "rx") ∷ []

-- in a run too: `talker` writes a byte in tick 0, and the answer comes in tick 1
abbrev pub EchoesComeInTheRun : Type 0
EchoesComeInTheRun = (code : List ℕ) (f : Held) → inputs_at (played echoes silent members (echo talker_code code) f 2) 1 ≡ answer 0

abbrev pub CardsAreLooped : Type 0
CardsAreLooped = LoopedBy serves

-- the card answers by direct memory access, whose bytes go in both systems to the same place of the ring
abbrev pub CardsWriteTheSame : Type 0
CardsWriteTheSame = (own code other : List ℕ) (value : ℕ) → WritesTheSame members (echo own code) (echo own other) (given_back value)

-- in a run too: `talker` gives the ring to the card in tick 0 by a store, and the answer comes in tick 1
abbrev pub CardsGiveBackInTheRun : Type 0
CardsGiveBackInTheRun =
    (code : List ℕ) (f : Held) → inputs_at (played serves silent members (echo lends code) f 2) 1 ≡ given_back 0 ∷ irq_input (codes "line") (codes "rx") ∷ []

-- so `talker` sees the same, whatever `noise` and its device do
abbrev pub SeesTheSameBeside : (Heard → ℕ → List NamedInput) → Type 0
SeesTheSameBeside answers =
    (own code other : List ℕ) (f g : Held) (many more n : ℕ) (a b : Seen)
    → slice_get (view_of (echo own code) f (played answers silent members (echo own code) f many) talker) n ≡ Some a
    → slice_get (view_of (echo own other) g (played answers busy members (echo own other) g more) talker) n ≡ Some b → AreSameViews a b

-- ---- whom devices hear

-- what comes in three ticks is what the device answers to everybody, where `noise` halts at once
abbrev pub GossipBesideHalting : Type 0
GossipBesideHalting =
    (f : Held) (tick : ℕ) → tick < 3
    → filter (input_reaches_member (echo talker_code halts) (echo talker_code sets) members) (inputs_at nothing_comes tick) ≡ gossip (heard (echo talker_code halts) everybody f nothing_comes tick) tick

-- and where it sets a register first
abbrev pub GossipBesideSetting : Type 0
GossipBesideSetting =
    (g : Held) (tick : ℕ) → tick < 3
    → filter (input_reaches_member (echo talker_code sets) (echo talker_code halts) members) (inputs_at one_comes tick) ≡ gossip (heard (echo talker_code sets) everybody g one_comes tick) tick

-- all else agrees
abbrev pub AllElseAgrees : Type 0
AllElseAgrees = (f g : Held) → AgreeButForDevices members (echo talker_code halts) (echo talker_code sets) f g nothing_comes 3

-- and `talker` doesn't see the same in tick 2
abbrev pub TalkersViewsDiffer : Type 0
TalkersViewsDiffer =
    (f g : Held) (a b : Seen) → slice_get (view_of (echo talker_code halts) f nothing_comes talker) 2 ≡ Some a
    → slice_get (view_of (echo talker_code sets) g one_comes talker) 2 ≡ Some b → AreSameViews a b → ⊥
