-- When the state of a machine and its kernel stands for a state of the abstract system.
use Rattle.std.specs.Prelude.{◌≡◌, ℕ, ◌+◌, ◌*◌, ◌<◌, ◌≤◌, nat_lt, true, List, map, length, Option, Some, None, is_some, option_map, slice_get}
use Rattle.std.specs.List.{All}
use Rattle.subject_model.specs.Alone.{Things, thing_in}
use Rattle.subject_model.specs.System.{Named, System, named}
use Rattle.kernel_core.specs.Router.{RouterState}
use Rattle.image_pack.specs.declared.parts.SubjectPart.{SubjectPart}
use Rattle.kernel_core.specs.Kernel.{Live}
use Rattle.machine_layout.specs.Memory.{Page, is_there, page_of}
use Rattle.muen_num.specs.declared.limits.TheConstants.{LAST_PORT}
use Rattle.policy_lawful.specs.Thing.{Thing, state}
use Rattle.policy_lawful.specs.source.Subject.{Subject}
use Rattle.subject_model.specs.StatePage.{state_in}
use Rattle.vmx_machine.specs.Machine.{entries_in}
use Rattle.vmx_machine.specs.MsrFile.{value_in}
use Rattle.vmx_machine.specs.declared.control.Control.{Control}
use Rattle.vmx_machine.specs.declared.cpu.Cpu.{Cpu}
use Rattle.vmx_machine.specs.declared.cpu.Entered.{Entered}
use Rattle.proof_turns.specs.Ground.{Ground, IsSubject, Joined, subject_name_at, part}
use Rattle.guest_isa.specs.Words.{IsByte, FitsState}
use Rattle.proof_turns.specs.Held.{AreEntries, FitsFile, IsOwn, MsrsAre, SameSet, held}

-- memory has the things' bytes, and tables and bitmaps are as they were at the start
pub record ShowsThings (g : Ground) (pages : List Page) (things : Things) : Type 0 where
  pub bytes : (x : Thing) (j : ℕ) → j < g.pages x → page_of pages (g.first x + j) ≡ option_map (part j) (thing_in things x)
  pub kept : (k : ℕ) → g.kept k ≡ true → page_of pages k ≡ page_of g.memory k
  pub there : (k : ℕ) → is_there pages k ≡ is_there g.memory k
  -- all are bytes
  pub small : (k : ℕ) (page : List ℕ) → page_of pages k ≡ Some page → All IsByte page

-- the pages of a subject's state and of its MSR area
pub record HasStateAndMsrArea (pages : List Page) (n : Subject) (c : Control) : Type 0 where
  pub state : List ℕ
  pub state_is : page_of pages c.state ≡ Some state
  pub area : List ℕ
  pub area_is : page_of pages c.msr_area ≡ Some area
  pub full : length area ≡ 4096
  pub room : 16 * c.msrs ≤ 4096
  pub entries : AreEntries n (entries_in c.msrs area)

pub record IsMember (g : Ground) (group s : ℕ) : Type 0 where
  pub is : IsSubject g s
  pub in_group : is.part.group ≡ group

-- who is on a CPU by the kernel is on it by the machine, with its own control
pub record IsOn (g : Ground) (cpu s : ℕ) (e : Entered) : Type 0 where
  pub is : IsSubject g s
  pub there : is.part.cpu ≡ cpu
  pub control : e.control ≡ is.control

abbrev pub SameEntered : Ground → ℕ → Option ℕ → Option Entered → Type 0
SameEntered g cpu None None = Unit {0}
SameEntered g cpu (Some s) (Some e) = IsOn g cpu s e
SameEntered g cpu None (Some e) = ⊥
SameEntered g cpu (Some s) None = ⊥

abbrev pub FitsEntered : Option Entered → Type 0
FitsEntered None = Unit {0}
FitsEntered (Some e) = FitsState e.state

pub record FitsCpu (u : Cpu) : Type 0 where
  pub entered : FitsEntered u.entered
  pub file : FitsFile u.file

-- the kernel's events and active members are those of the system
pub record RouterStands (g : Ground) (r : RouterState) (sets waiting : Named (List ℕ)) (active : List (List ℕ)) : Type 0 where
  pub now : (s : ℕ) (n : Subject) (q : SubjectPart) (c : Control) → Joined g s n q c → SameSet (slice_get r.pending_now s) (named sets n.name)
  pub later : (s : ℕ) (n : Subject) (q : SubjectPart) (c : Control) → Joined g s n q c → SameSet (slice_get r.pending_later s) (named waiting n.name)
  pub groups : r.groups ≡ map (λ q. q.group) g.setup.subjects
  pub same_active : (i : ℕ) → slice_get active i ≡ option_map (subject_name_at g) (slice_get r.active i)
  pub members : (i s : ℕ) → slice_get r.active i ≡ Some s → IsMember g i s

-- the CPUs are there, and who is on one by the kernel is on it by the machine
pub record CpusStand (g : Ground) (on : List (Option ℕ)) (cpus : List Cpu) : Type 0 where
  pub on_there : (cpu : ℕ) → is_some (slice_get on cpu) ≡ nat_lt cpu g.policy.processor.logical_cpus
  pub cpus_there : (cpu : ℕ) → is_some (slice_get cpus cpu) ≡ nat_lt cpu g.policy.processor.logical_cpus
  pub entered : (cpu : ℕ) (who : Option ℕ) (u : Cpu) → slice_get on cpu ≡ Some who → slice_get cpus cpu ≡ Some u → SameEntered g cpu who u.entered
  pub fits : (cpu : ℕ) (u : Cpu) → slice_get cpus cpu ≡ Some u → FitsCpu u

-- each subject has its pages
abbrev pub HavePages : Ground → List Page → Type 0
HavePages g pages = (s : ℕ) (n : Subject) (q : SubjectPart) (c : Control) → Joined g s n q c → HasStateAndMsrArea pages n c

-- it stands for the system but for what is said of the own page and MSR values of one subject
pub record StandsBut (g : Ground) (but : Option ℕ) (k : Live) (y : System) : Type 0 where
  pub shows : ShowsThings g k.machine.pages y.things
  pub pages : HavePages g k.machine.pages
  pub owns : (s : ℕ) (n : Subject) (q : SubjectPart) (c : Control) → Joined g s n q c → (but ≡ Some s → ⊥) → IsOwn n y.things y.msrs (held k s q c)
  pub router : RouterStands g k.router y.now y.later y.active
  pub cpus : CpusStand g k.on k.machine.cpus
  pub ports : k.ports ≡ y.ports
  pub many_ports : length k.ports ≡ LAST_PORT + 1
  pub small_ports : All IsByte k.ports
  pub frame : k.frame ≡ y.frame

-- **the machine and its kernel stand for the system**
abbrev pub StandsFor : Ground → Live → System → Type 0
StandsFor g k y = StandsBut g None k y

-- in the midst of a turn of this subject: it is on the CPU, with the state that its page in the system says, and with its MSRs
pub record Running (g : Ground) (k : Live) (y : System) (cpu s : ℕ) (n : Subject) (c : Control) : Type 0 where
  pub stands : StandsBut g (Some s) k y
  pub on : slice_get k.on cpu ≡ Some (Some s)
  pub unit : Cpu
  pub at : slice_get k.machine.cpus cpu ≡ Some unit
  pub entry : Entered
  pub entered : unit.entered ≡ Some entry
  pub control : entry.control ≡ c
  pub state : option_map state_in (thing_in y.things (state n.name)) ≡ Some entry.state
  pub msrs : MsrsAre n y.msrs (value_in unit.file)
