-- What holds of a policy and a machine for it as long as both run.
use Rattle.std.specs.Prelude.{◌≡◌, ◌⊎◌, ℕ, ◌+◌, ◌/◌, ◌%◌, ◌<◌, ◌≤◌, true, false, Bool, List, Some, None, is_some, option_map, slice_get}
use Rattle.std.specs.List.{All}
use Rattle.subject_model.specs.Clock.{ticks_of_majors}
use Rattle.subject_model.specs.Resources.{is_granted, msrs_of}
use Rattle.frame_clock.specs.Frames.{slot_in, ticks_of_plan_majors as ticks_in_plan}
use Rattle.frame_clock.specs.declared.frame_at.FrameAt.{FrameAt}
use Rattle.image_pack.specs.declared.parts.EventPart.{EventPart}
use Rattle.image_pack.specs.declared.parts.SubjectPart.{SubjectPart}
use Rattle.frame_clock.specs.Plan.{frames_in}
use Rattle.frame_clock.specs.Slot.{Slot}
use Rattle.kernel_core.specs.Kernel.{entry}
use Rattle.machine_layout.specs.Walks.{addresses_read}
use Rattle.muen_num.specs.declared.access.AccessKind.{AccessKind}
use Rattle.muen_num.specs.declared.limits.TheConstants.{GUEST_END}
use Rattle.policy_lawful.specs.Frames.{frames_of}
use Rattle.policy_lawful.specs.Thing.{Thing, region, state}
use Rattle.policy_lawful.specs.Windows.{access_of, byte, windows_of}
use Rattle.policy_lawful.specs.source.Subject.{Subject}
use Rattle.policy_lawful.specs.source.Tau0.{Tau0}
use Rattle.vmx_machine.specs.MsrFile.{msr_slot_of}
use Rattle.vmx_machine.specs.declared.control.Control.{Control}
use Rattle.subject_model.specs.System.{is_shown}
use Rattle.proof_turns.specs.Ground.{Ground, Joined, IsSubject, Spot, IsSpotAt}

-- x is the state page of another subject on the CPU of this one
pub record Watches (g : Ground) (s : ℕ) (n : Subject) (x : Thing) : Type 0 where
  pub number : ℕ
  pub subject : Subject
  pub part : SubjectPart
  pub control : Control
  pub joined : Joined g number subject part control
  pub page : state subject.name ≡ x
  pub cpu : subject.cpu ≡ n.cpu
  pub other : number ≡ s → ⊥

-- what an access of a subject reaches: a byte of a thing, or of such a state page; the thing is one that it has a window on, and
-- the offset is aligned as the address is
pub record Sees (g : Ground) (s : ℕ) (n : Subject) (addr : ℕ) (x : Thing) (offset : ℕ) : Type 0 where
  pub there : (offset / 4096 < g.pages x) ⊎ ((offset < 4096) × Watches g s n x)
  pub shown : is_shown (windows_of g.policy n) x ≡ true
  pub aligned : offset % 4096 ≡ addr % 4096

pub record IsFixed (g : Ground) : Type 0 where
  -- the subjects of the policy are those of the machine, each once
  pub joined : (s : ℕ) (n : Subject) → slice_get g.policy.subjects s ≡ Some n → IsSubject g s
  pub parts : (s : ℕ) (q : SubjectPart) → slice_get g.setup.subjects s ≡ Some q → IsSubject g s
  pub controls : (s : ℕ) (c : Control) → slice_get g.setup.controls s ≡ Some c → IsSubject g s
  pub names : (s t : ℕ) (n m : Subject) → slice_get g.policy.subjects s ≡ Some n → slice_get g.policy.subjects t ≡ Some m → n.name ≡ m.name → s ≡ t
  -- events reach subjects
  pub call_targets : (s i : ℕ) (q : SubjectPart) (e : EventPart) → slice_get g.setup.subjects s ≡ Some q → entry q.calls i ≡ Some e → IsSubject g e.target
  pub trap_targets : (s i : ℕ) (q : SubjectPart) (e : EventPart) → slice_get g.setup.subjects s ≡ Some q → entry q.traps i ≡ Some e → IsSubject g e.target
  -- both have the same frames, and a group's CPU is that of its members
  pub cpus : (s : ℕ) (q : SubjectPart) → slice_get g.setup.subjects s ≡ Some q → q.cpu < g.policy.processor.logical_cpus
  pub slots : (cpu : ℕ) (frame : FrameAt) (tick : ℕ) → cpu < g.policy.processor.logical_cpus → slot_in (frames_in g.setup.plan cpu) frame tick ≡ slot_in (frames_of g.policy cpu) frame tick
  pub no_slots : (cpu : ℕ) (frame : FrameAt) (tick : ℕ) → g.policy.processor.logical_cpus ≤ cpu → slot_in (frames_of g.policy cpu) frame tick ≡ None
  pub planned : (cpu : ℕ) (frame : FrameAt) (tick : ℕ) (slot : Slot) (s : ℕ) (q : SubjectPart) → slot_in (frames_of g.policy cpu) frame tick ≡ Some slot → slice_get g.setup.subjects s ≡ Some q → q.group ≡ slot.group → q.cpu ≡ cpu
  pub majors : ticks_in_plan g.setup.plan ≡ ticks_of_majors g.policy
  -- the page whose first byte chooses a major frame is that of the policy's region
  pub tau0 : g.setup.tau0 ≡ option_map (λ t. g.first (region t.region)) g.policy.scheduling.tau0
  pub tau0_there : (t : Tau0) → g.policy.scheduling.tau0 ≡ Some t → 0 < g.pages (region t.region)
  -- the pages of things, states and areas differ, and none is one of tables or bitmaps
  pub apart : (a b : Spot) (j k : ℕ) → IsSpotAt g a j → IsSpotAt g b k → (a ≡ b → ⊥) → j ≡ k → ⊥
  pub aside : (a : Spot) (j : ℕ) → IsSpotAt g a j → g.kept j ≡ false
  pub tables : (s : ℕ) (c : Control) (addr : ℕ) → slice_get g.setup.controls s ≡ Some c → addr < GUEST_END → All (λ at. g.kept (at / 4096) ≡ true) (addresses_read g.memory c.eptp addr)
  pub io_bitmap : (s : ℕ) (c : Control) → slice_get g.setup.controls s ≡ Some c → g.kept c.io_bitmaps ≡ true
  pub second_io_bitmap : (s : ℕ) (c : Control) → slice_get g.setup.controls s ≡ Some c → g.kept (c.io_bitmaps + 1) ≡ true
  pub msr_bitmap : (s : ℕ) (c : Control) → slice_get g.setup.controls s ≡ Some c → g.kept c.msr_bitmap ≡ true
  -- a state page is where its subject's control says
  pub state_pages : (s : ℕ) (n : Subject) (c : Control) → slice_get g.policy.subjects s ≡ Some n → slice_get g.setup.controls s ≡ Some c → g.first (state n.name) ≡ c.state
  pub no_thing : (name : List ℕ) → g.pages (state name) ≡ 0
  -- what a subject reaches
  pub sees : (s : ℕ) (n : Subject) (kind : AccessKind) (addr : ℕ) (x : Thing) (offset : ℕ) → slice_get g.policy.subjects s ≡ Some n → access_of (windows_of g.policy n) addr kind ≡ byte x offset → Sees g s n addr x offset
  -- the MSRs that are granted are those of the MSR file
  pub in_file : (s : ℕ) (n : Subject) (index : ℕ) (write : Bool) → slice_get g.policy.subjects s ≡ Some n → is_granted (msrs_of n) index write ≡ true → is_some (msr_slot_of index) ≡ true
