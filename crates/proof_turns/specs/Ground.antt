-- A policy's system and a machine for it: which number stands for which subject, and which pages for which thing.
use Rattle.std.specs.Prelude.{◌≡◌, ℕ, ◌+◌, ◌*◌, ◌/◌, ◌%◌, ◌<◌, not, Bool, List, take, drop, Some, is_some, option_map, slice_get, unwrap_or, []}
use Rattle.subject_model.specs.Alone.{reach_by}
use Rattle.muen_num.specs.Numbers.{is_among}
use Rattle.subject_model.specs.System.{subject_named}
use Rattle.subject_model.specs.Resources.{are_granted, is_granted, msrs_of, ports_of}
use Rattle.guest_isa.specs.Named.{renamed_reach}
use Rattle.image_pack.specs.declared.parts.EventPart.{EventPart}
use Rattle.image_pack.specs.declared.parts.SubjectPart.{SubjectPart}
use Rattle.kernel_core.specs.Kernel.{entry}
use Rattle.kernel_core.specs.declared.setup.Setup.{Setup}
use Rattle.machine_layout.specs.Memory.{Page}
use Rattle.muen_num.specs.declared.access.AccessKind.{AccessKind}
use Rattle.muen_num.specs.declared.limits.TheConstants.{GUEST_END}
use Rattle.policy_lawful.specs.Events.{Raised, event_of, traps_of}
use Rattle.policy_lawful.specs.Thing.{Thing}
use Rattle.policy_lawful.specs.Windows.{access_of, windows_of}
use Rattle.policy_lawful.specs.source.Source.{Source}
use Rattle.policy_lawful.specs.source.SourceWay.TheVariants.{Call, Trap}
use Rattle.policy_lawful.specs.source.Subject.{Subject}
use Rattle.policy_lawful.specs.Frames.{group_of}
use Rattle.vmx_machine.specs.Machine.{look_in, msr_exits_in, ports_exit}
use Rattle.vmx_machine.specs.declared.control.Control.{Control}

-- what no turn changes
pub record Ground : Type 0 where
  pub policy : Source
  pub setup : Setup
  -- the number of the first page of each thing, a subject's state page among them
  pub first : Thing → ℕ
  -- how many pages each thing has; none a state page, and what is no thing
  pub pages : Thing → ℕ
  -- the pages of tables and of bitmaps
  pub kept : ℕ → Bool
  -- memory at the start
  pub memory : List Page

-- the name of a subject by its number
abbrev pub subject_name_at : Ground → ℕ → List ℕ
subject_name_at g s = unwrap_or (option_map (λ n. n.name) (slice_get g.policy.subjects s)) []

-- what an entry of a table of events raises
abbrev pub raised_of : Ground → EventPart → Raised
raised_of g e = record { mode = e.mode; target = record { subject = subject_name_at g e.target; vector = e.vector } }

-- the page and the offset in it of a thing's byte
abbrev pub page_and_offset : (Thing → ℕ) → Thing → ℕ → ℕ × ℕ
page_and_offset first x offset = (first x + offset / 4096, offset % 4096)

-- page j of a thing's bytes
abbrev pub part : ℕ → List ℕ → List ℕ
part j bytes = take 4096 (drop (4096 * j) bytes)

-- subject s is n in the policy, and has the part q and the control c in the machine: names, CPUs and groups agree, and events,
-- traps, bitmaps and tables are those that the policy grants
pub record Joined (g : Ground) (s : ℕ) (n : Subject) (q : SubjectPart) (c : Control) : Type 0 where
  pub subject : slice_get g.policy.subjects s ≡ Some n
  pub part : slice_get g.setup.subjects s ≡ Some q
  pub control : slice_get g.setup.controls s ≡ Some c
  pub found : subject_named g.policy n.name ≡ Some n
  pub name : q.name ≡ n.name
  pub cpu : q.cpu ≡ n.cpu
  pub in_group : group_of g.policy n.name ≡ Some q.group
  pub calls : (i : ℕ) → option_map (raised_of g) (entry q.calls i) ≡ event_of g.policy n (Call i)
  pub traps : (i : ℕ) → option_map (raised_of g) (entry q.traps i) ≡ event_of g.policy n (Trap i)
  pub trapped : (i : ℕ) → is_some (entry q.traps i) ≡ is_among (traps_of n) i
  pub ports : (port size : ℕ) → ports_exit g.memory c port size ≡ not (are_granted (ports_of g.policy n) port size)
  pub msrs : (index : ℕ) (write : Bool) → msr_exits_in g.memory c index write ≡ not (is_granted (msrs_of n) index write)
  pub walks : (kind : AccessKind) (addr : ℕ) → addr < GUEST_END
      → look_in g.memory c.eptp kind addr ≡ renamed_reach (page_and_offset g.first) (reach_by kind addr (access_of (windows_of g.policy n) addr kind))

-- there are a subject, a part and a control of this number
pub record IsSubject (g : Ground) (s : ℕ) : Type 0 where
  pub subject : Subject
  pub part : SubjectPart
  pub control : Control
  pub joined : Joined g s subject part control

-- ---- the pages that change

pub data Spot : Type 0 where
  -- a page of a thing
  thing_at : Thing → ℕ → Spot
  -- the state page of a subject, and the page of its MSR area
  state_at : ℕ → Spot
  area_at : ℕ → Spot

abbrev pub IsSpotAt : Ground → Spot → ℕ → Type 0
IsSpotAt g (thing_at x j) page = (j < g.pages x) × (g.first x + j ≡ page)
IsSpotAt g (state_at s) page = (c : Control) × (slice_get g.setup.controls s ≡ Some c) × (c.state ≡ page)
IsSpotAt g (area_at s) page = (c : Control) × (slice_get g.setup.controls s ≡ Some c) × (c.msr_area ≡ page)
