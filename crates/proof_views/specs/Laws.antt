-- The laws over runs of the abstract system (this project's own).
use Rattle.std.specs.Prelude.{◌≡◌, ℕ, suc, ◌≤◌, ◌<◌, ◌==◌, ◌&&◌, Bool, true, false, List, Some, IsTrue, if◌then◌else◌, map, option_map, slice_get}
use Rattle.std.specs.List.{All, filter_map, find, list_any}
use Rattle.std.specs.Option.{IfSome}
use Rattle.std.specs.Str.{bytes_eq}
use Rattle.muen_num.specs.declared.access.AccessKind.TheVariants.{Write}
use Rattle.policy_lawful.specs.Contents.{Held}
use Rattle.policy_lawful.specs.Dma.{dma_windows}
use Rattle.policy_lawful.specs.Lawful.{IsLawful}
use Rattle.policy_lawful.specs.Rights.{allows}
use Rattle.policy_lawful.specs.Thing.{Thing, channel, same_thing, state}
use Rattle.policy_lawful.specs.Windows.{windows_of}
use Rattle.policy_lawful.specs.source.Channel.{Channel}
use Rattle.policy_lawful.specs.source.Source.{Source}
use Rattle.policy_lawful.specs.source.Subject.{Subject}
use Rattle.subject_model.specs.Alone.{Inbox, OwnState, own_of, solo_turn, thing_in}
use Rattle.muen_num.specs.Numbers.{is_among, are_distinct}
use Rattle.subject_model.specs.Clock.{inputs_at, order_at, run_of, system, takes}
use Rattle.subject_model.specs.DeviceRecord.{DeviceRecord, NamedInput, dma_input}
use Rattle.subject_model.specs.Law.{NamesEachOnce}
use Rattle.subject_model.specs.Laws.{IsTurnOf}
use Rattle.subject_model.specs.Run.{run_to}
use Rattle.subject_model.specs.SubjectState.{SubjectState}
use Rattle.subject_model.specs.System.{System, inbox_of, is_shown, named, pending, start_of, state_of, subject_named, system_turn}
use Rattle.subject_model.specs.View.{Seen, through, view_of}
use Rattle.proof_views.specs.AloneRun.{alone_view, at_turn, before, is_altered, own_part, reaching_at, started_alone}
use Rattle.proof_views.specs.Changes.{IsSpared, after_store, input_changes, may_change, may_change_on, whose_turn}
use Rattle.proof_views.specs.Composed.{AreFed, alone_in_run, composed}
use Rattle.proof_views.specs.LastViews.{at_rest, behind, without_line}
use Rattle.proof_views.specs.LinesOf.{lines_of}
use Rattle.proof_views.specs.Pages.{IsStatePage}
use Rattle.proof_views.specs.Private.{IsPrivate, held_alone}
use Rattle.proof_views.specs.Raisers.{IsRaisedLater, IsRaisedNow}
use Rattle.proof_views.specs.Writers.{is_writer_of}

-- what most laws ask of a run: its policy is lawful, and each order of its record names each CPU once, as in every record that is
-- read
pub record IsLawfulRun (p : Source) (r : DeviceRecord) : Type 0 where
  pub policy : IsLawful p
  pub orders : All (λ o. NamesEachOnce p.processor.logical_cpus o.1) r.orders

-- ---- state pages

-- the page of a subject that no monitor may write is that of a state, with zeros elsewhere, after any number of ticks of every run
abbrev pub StatePagesStay : Type 0
StatePagesStay =
    (p : Source) (files : Held) (inputs : ℕ → List NamedInput) (order : ℕ → List ℕ) (n : ℕ) (s : Subject)
    → is_altered p s ≡ false → subject_named p s.name ≡ Some s
    → IsStatePage (run_to (system p) inputs order n (start_of p files)).state s.name

-- ---- what a run leaves

-- where the CPU of a subject takes the last turn of a run, the subject's view ends with what the run leaves
abbrev pub LastViewsAreTheEnd : Type 0
LastViewsAreTheEnd =
    (p : Source) (files : Held) (r : DeviceRecord) (s : Subject) (n : ℕ)
    → r.end ≡ suc n → through s.cpu (order_at p r n) ≡ order_at p r n
    → option_map without_line (slice_get (view_of p files r s) n) ≡ Some (at_rest p s (run_of p files r).state)

-- a run leaves of each subject the state that its last view has, where no order of the record names a CPU twice
abbrev pub LastStatesAreLeft : Type 0
LastStatesAreLeft =
    (p : Source) (files : Held) (r : DeviceRecord) (s : Subject) (n : ℕ)
    → IsLawful p → subject_named p s.name ≡ Some s → All (λ o. IsTrue (are_distinct o.1)) r.orders → r.end ≡ suc n
    → option_map (λ v. v.state) (slice_get (view_of p files r s) n) ≡ Some (state_of (run_of p files r).state s.name)

-- and the MSRs
abbrev pub LastMsrsAreLeft : Type 0
LastMsrsAreLeft =
    (p : Source) (files : Held) (r : DeviceRecord) (s : Subject) (n : ℕ)
    → IsLawful p → subject_named p s.name ≡ Some s → All (λ o. IsTrue (are_distinct o.1)) r.orders → r.end ≡ suc n
    → option_map (λ v. v.msrs) (slice_get (view_of p files r s) n) ≡ Some (named (run_of p files r).state.msrs s.name)

-- a run of no ticks leaves the state of the start
abbrev pub FirstStatesAreLeft : Type 0
FirstStatesAreLeft =
    (p : Source) (files : Held) (r : DeviceRecord) (s : Subject) → subject_named p s.name ≡ Some s → r.end ≡ 0
    → state_of (run_of p files r).state s.name ≡ Some (started_alone s).state

-- and the MSRs
abbrev pub FirstMsrsAreLeft : Type 0
FirstMsrsAreLeft =
    (p : Source) (files : Held) (r : DeviceRecord) (s : Subject) → subject_named p s.name ≡ Some s → r.end ≡ 0
    → named (run_of p files r).state.msrs s.name ≡ Some (started_alone s).msrs

-- a run leaves of a thing the bytes that the last view of a subject has of it, if one of the subject's windows shows it and no turn
-- of a CPU that comes later in the last tick may change it
abbrev pub LastBytesAreLeft : Type 0
LastBytesAreLeft =
    (p : Source) (files : Held) (r : DeviceRecord) (s : Subject) (x : Thing) (n : ℕ)
    → IsLawful p → r.end ≡ suc n → is_shown (windows_of p s) x ≡ true → may_change_on p (behind s.cpu (order_at p r n)) x ≡ false
    → option_map (λ v. thing_in v.things x) (slice_get (view_of p files r s) n) ≡ Some (thing_in (run_of p files r).state.things x)

-- ---- views

-- the lines that a run prints of a subject are those that its view shows, one tick after another, where no order of the record names
-- a CPU twice
abbrev pub LinesAreThoseOfViews : Type 0
LinesAreThoseOfViews =
    (p : Source) (files : Held) (r : DeviceRecord) (s : Subject)
    → IsLawful p → subject_named p s.name ≡ Some s → All (λ o. IsTrue (are_distinct o.1)) r.orders
    → lines_of s.name (run_of p files r).lines ≡ filter_map (λ v. v.line) (view_of p files r s)

-- **each subject acts alone**: its view is, tick by tick, that of the subject by itself, by what reaches it
abbrev pub SubjectsActAlone : Type 0
SubjectsActAlone =
    (p : Source) (files : Held) (r : DeviceRecord) (s : Subject) → IsLawfulRun p r → subject_named p s.name ≡ Some s
    → map own_part (view_of p files r s) ≡ alone_view (own_of p s) (reaching_at p files r s) (started_alone s) r.end

-- ---- private memory

-- at the subject's turn it has the bytes that the subject's view of the tick before has
abbrev pub PrivateMemoryIsKept : Type 0
PrivateMemoryIsKept =
    (p : Source) (files : Held) (r : DeviceRecord) (s : Subject) (x : Thing) (n : ℕ) (inbox : Inbox) (v : Seen)
    → IsLawfulRun p r → subject_named p s.name ≡ Some s → IsPrivate p s x
    → reaching_at p files r s (suc n) ≡ at_turn inbox → slice_get (view_of p files r s) n ≡ Some v
    → thing_in inbox.things x ≡ thing_in v.things x

-- and in the first tick those of the start
abbrev pub PrivateMemoryIsOfTheStart : Type 0
PrivateMemoryIsOfTheStart =
    (p : Source) (files : Held) (r : DeviceRecord) (s : Subject) (x : Thing) (inbox : Inbox)
    → IsLawfulRun p r → subject_named p s.name ≡ Some s → IsPrivate p s x
    → is_shown (windows_of p s) x ≡ true → reaching_at p files r s 0 ≡ at_turn inbox
    → thing_in inbox.things x ≡ thing_in (start_of p files).things x

-- the view of each tick has what the stores of the subject's own turns have made of the bytes of the start
abbrev pub PrivateMemoryHasOwnStores : Type 0
PrivateMemoryHasOwnStores =
    (p : Source) (files : Held) (r : DeviceRecord) (s : Subject) (x : Thing) (bytes : List ℕ) (n : ℕ) (v : Seen)
    → IsLawfulRun p r → subject_named p s.name ≡ Some s → IsPrivate p s x
    → is_shown (windows_of p s) x ≡ true → thing_in (start_of p files).things x ≡ Some bytes → slice_get (view_of p files r s) n ≡ Some v
    → thing_in v.things x ≡ Some (held_alone (own_of p s) (reaching_at p files r s) (started_alone s) x bytes (suc n))

-- and the run leaves what the last view has
abbrev pub PrivateMemoryIsLeft : Type 0
PrivateMemoryIsLeft =
    (p : Source) (files : Held) (r : DeviceRecord) (s : Subject) (x : Thing) (n : ℕ)
    → IsLawfulRun p r → subject_named p s.name ≡ Some s → IsPrivate p s x → is_shown (windows_of p s) x ≡ true → r.end ≡ suc n
    → option_map (λ v. thing_in v.things x) (slice_get (view_of p files r s) n) ≡ Some (thing_in (run_of p files r).state.things x)

-- ---- channels

-- a channel is private memory of its writer
abbrev pub ChannelsArePrivate : Type 0
ChannelsArePrivate =
    (p : Source) (w : Subject) (name : List ℕ) (c : Channel) → IsLawful p → subject_named p w.name ≡ Some w
    → find (λ c. bytes_eq c.name name) p.channels ≡ Some c → is_writer_of p w name ≡ true → IsPrivate p w (channel name)

-- after any number of ticks it holds what the stores of the writer's own turns have made of the bytes of the start
abbrev pub ChannelsHoldWritersStores : Type 0
ChannelsHoldWritersStores =
    (p : Source) (files : Held) (r : DeviceRecord) (w : Subject) (name : List ℕ) (c : Channel) (bytes : List ℕ) (n : ℕ)
    → IsLawfulRun p r → subject_named p w.name ≡ Some w → find (λ c. bytes_eq c.name name) p.channels ≡ Some c
    → is_writer_of p w name ≡ true → thing_in (start_of p files).things (channel name) ≡ Some bytes
    → thing_in (run_to (system p) (inputs_at r) (order_at p r) n (start_of p files)).state.things (channel name)
    ≡ Some (held_alone (own_of p w) (reaching_at p files r w) (started_alone w) (channel name) bytes n)

-- and that reaches each subject that has a window on it, with the writer's store of the same tick where the writer's CPU comes before
-- its own in the tick's order
abbrev pub WritersStoresReachReaders : Type 0
WritersStoresReachReaders =
    (p : Source) (files : Held) (r : DeviceRecord) (w : Subject) (name : List ℕ) (c : Channel) (bytes : List ℕ) (n : ℕ) (s : Subject)
    (inbox : Inbox) → IsLawfulRun p r → subject_named p w.name ≡ Some w → find (λ c. bytes_eq c.name name) p.channels ≡ Some c
    → is_writer_of p w name ≡ true → thing_in (start_of p files).things (channel name) ≡ Some bytes
    → is_shown (windows_of p s) (channel name) ≡ true → reaching_at p files r s n ≡ at_turn inbox
    → thing_in inbox.things (channel name)
    ≡ Some (held_alone (own_of p w) (reaching_at p files r w) (started_alone w) (channel name) bytes
    (if list_any (λ c. c == w.cpu) (before s.cpu (order_at p r n)) then suc n else n))

-- ---- pending vectors

-- each that pends after any number of ticks of every run, and doesn't wait, comes of an event or an interrupt of the policy
abbrev pub PendingWereRaised : Type 0
PendingWereRaised =
    (p : Source) (files : Held) (inputs : ℕ → List NamedInput) (order : ℕ → List ℕ) (n : ℕ) (name : List ℕ) (v : ℕ)
    → is_among (pending (run_to (system p) inputs order n (start_of p files)).state.now name) v ≡ true → IsRaisedNow p name v

-- each that waits comes of an event that does
abbrev pub WaitingWereRaised : Type 0
WaitingWereRaised =
    (p : Source) (files : Held) (inputs : ℕ → List NamedInput) (order : ℕ → List ℕ) (n : ℕ) (name : List ℕ) (v : ℕ)
    → is_among (pending (run_to (system p) inputs order n (start_of p files)).state.later name) v ≡ true → IsRaisedLater p name v

-- so does each that reaches a subject at its turn
abbrev pub ReachingWereRaised : Type 0
ReachingWereRaised =
    (p : Source) (files : Held) (r : DeviceRecord) (s : Subject) (n : ℕ) (inbox : Inbox) (v : ℕ)
    → reaching_at p files r s n ≡ at_turn inbox → is_among inbox.now v ≡ true → IsRaisedNow p s.name v

-- and each that waits there
abbrev pub ReachingLaterWereRaised : Type 0
ReachingLaterWereRaised =
    (p : Source) (files : Held) (r : DeviceRecord) (s : Subject) (n : ℕ) (inbox : Inbox) (v : ℕ)
    → reaching_at p files r s n ≡ at_turn inbox → is_among inbox.later v ≡ true → IsRaisedLater p s.name v

-- ---- who changes things

-- a line of direct memory access changes no thing on which its device's domain has no window with write
abbrev pub DevicesSpareOtherThings : Type 0
DevicesSpareOtherThings =
    (p : Source) (device bytes : List ℕ) (address : ℕ) (y : System) (x : Thing)
    → list_any (λ w. allows w.rights Write && same_thing w.thing x) (dma_windows p device) ≡ false
    → thing_in (takes p (dma_input device address bytes) y).things x ≡ thing_in y.things x

-- and nothing of the system but things
abbrev pub DevicesWriteThingsAlone : Type 0
DevicesWriteThingsAlone =
    (p : Source) (device bytes : List ℕ) (address : ℕ) (y : System)
    → takes p (dma_input device address bytes) y ≡ record y { things = (takes p (dma_input device address bytes) y).things }

-- a turn changes no thing that the subject whose turn it is may not change
abbrev pub TurnsSpareOtherThings : Type 0
TurnsSpareOtherThings =
    (p : Source) (cpu tick : ℕ) (y : System) (x : Thing) → IfSome (whose_turn p cpu tick y) (λ q. may_change p q x ≡ false)
    → thing_in (system_turn p cpu tick y).state.things x ≡ thing_in y.things x

-- but for the subject's own state page, the one store of its turn is all that a turn changes of a thing
abbrev pub TurnsChangeByTheirStore : Type 0
TurnsChangeByTheirStore =
    (p : Source) (cpu tick : ℕ) (y : System) (s : Subject) (first : Bool) (st : SubjectState) (h : IsTurnOf p cpu tick y s first st)
    (x : Thing) → same_thing (state s.name) x ≡ false
    → thing_in (system_turn p cpu tick y).state.things x
    ≡ option_map (after_store (solo_turn (own_of p s) (record { state = st; msrs = h.values }) (inbox_of p y s first tick)).stored x)
    (thing_in y.things x)

-- an input changes no other thing than it may
abbrev pub InputsSpareOtherThings : Type 0
InputsSpareOtherThings =
    (p : Source) (i : NamedInput) (y : System) (x : Thing) → input_changes p i x ≡ false
    → thing_in (takes p i y).things x ≡ thing_in y.things x

-- over ticks of a run of which none may change it, a thing holds what it held
abbrev pub TicksSpareThings : Type 0
TicksSpareThings =
    (p : Source) (files : Held) (r : DeviceRecord) (x : Thing) (m n : ℕ)
    → m ≤ n → ((k : ℕ) → m ≤ k → k < n → IsSpared p files r x k)
    → thing_in (run_to (system p) (inputs_at r) (order_at p r) n (start_of p files)).state.things x
    ≡ thing_in (run_to (system p) (inputs_at r) (order_at p r) m (start_of p files)).state.things x

-- ---- the whole and its parts

-- the run of the system is that of its subjects alone, put together
abbrev pub RunsAreComposed : Type 0
RunsAreComposed =
    (p : Source) (files : Held) (r : DeviceRecord) → IsLawfulRun p r
    → run_to (composed (alone_in_run p files r) p) (inputs_at r) (order_at p r) r.end (start_of p files) ≡ run_of p files r

-- so it is after any number of ticks
abbrev pub TicksAreComposed : Type 0
TicksAreComposed =
    (p : Source) (files : Held) (r : DeviceRecord) (n : ℕ) → IsLawfulRun p r
    → run_to (composed (alone_in_run p files r) p) (inputs_at r) (order_at p r) n (start_of p files)
    ≡ run_to (system p) (inputs_at r) (order_at p r) n (start_of p files)

-- what feeds the runs alone comes of the composition itself
abbrev pub RunsAloneAreFed : Type 0
RunsAloneAreFed = (p : Source) (files : Held) (r : DeviceRecord) → IsLawfulRun p r → AreFed (alone_in_run p files r) p files r

-- whichever own states are those of runs alone that are fed so, put together they are the joint run
abbrev pub OneRunIsComposed : Type 0
OneRunIsComposed =
    (p : Source) (files : Held) (r : DeviceRecord) (alone : Subject → ℕ → OwnState) (n : ℕ) → IsLawfulRun p r → AreFed alone p files r
    → run_to (composed alone p) (inputs_at r) (order_at p r) n (start_of p files)
    ≡ run_to (system p) (inputs_at r) (order_at p r) n (start_of p files)

-- and they are those of the joint run
abbrev pub OneRunAloneIsFed : Type 0
OneRunAloneIsFed =
    (p : Source) (files : Held) (r : DeviceRecord) (alone : Subject → ℕ → OwnState) (s : Subject) (n : ℕ)
    → IsLawfulRun p r → subject_named p s.name ≡ Some s → AreFed alone p files r → alone s n ≡ alone_in_run p files r s n
