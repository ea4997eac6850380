-- The plan of a sound image is that of its policy: it has as many CPUs, the same slots, and each group on the CPU of its members.
use Rattle.std.proofs.Common.{◌≡◌, ℕ, ◌-◌, ◌<◌, true, false, List, [], ◌∷◌, map, Option, Some, None, refl, sym, ap, subst, ◌∙◌, inl, inr}
use Rattle.std.specs.Prelude.{◌==◌, nat_lt, option_and_then, option_map, slice_get, slice_index_or}
use Rattle.std.specs.Option.{option_map_or}
use Rattle.std.specs.List.{flat_map, list_all}
use Rattle.std.proofs.lemmas.Bool.{and_parts, cases_lt, eqb-true}
use Rattle.std.proofs.lemmas.List.Folds.{list_all-map}
use Rattle.std.proofs.lemmas.Option.{slice_get-map}
use Rattle.subject_model.specs.Clock.{ticks_of_majors}
use Rattle.subject_model.specs.Frames.{slot_in, ticks_of_plan_majors as ticks_in_plan}
use Rattle.subject_model.specs.frame_at.FrameAt.{FrameAt}
use Rattle.image_soundness.specs.Sound.{IsSound}
use Rattle.image_pack.specs.ImageConditions.{KeepsConditions}
use Rattle.image_pack.specs.declared.parts.Image.{Image}
use Rattle.image_pack.specs.declared.parts.SubjectPart.{SubjectPart}
use Rattle.subject_model.proofs.SlotLaws.{frames_at, frames_there, has_majors, major_ticks, ticks_of}
use Rattle.image_pack.specs.Plan.{cpus_of, frame_of_minor, frames_in, is_group_on, is_major, is_minor, is_plan}
use Rattle.subject_model.specs.Slot.{Slot, frame_slots}
use Rattle.image_pack.specs.plan.GroupPart.{GroupPart}
use Rattle.image_pack.specs.plan.Major.{Major}
use Rattle.image_pack.specs.plan.Minor.{Minor}
use Rattle.image_pack.specs.plan.Plan.{Plan}
use Rattle.muen_num.proofs.Lists.{each_from, passes_at}
use Rattle.muen_num.specs.Frame.{Frame}
use Rattle.policy_lawful.specs.Contents.{Held}
use Rattle.policy_lawful.specs.Frames.{frames_of}
use Rattle.policy_lawful.specs.source.Source.{Source}
use Rattle.proof_start.proofs.PlanFacts.{no_slots}
use Rattle.subject_model.proofs.SlotGroups.{at_slot}
use Rattle.image_memory.proofs.SubjectSpans.{subject_kept}

-- ---- CPUs and slots

-- an image has as many CPUs as its policy
pub same_cpus : (p : Source) (files : Held) (i : Image) → IsSound p files i → i.header.cpus ≡ p.processor.logical_cpus
same_cpus p files i sound = sound.plan_and_events.cpus

-- a CPU that is there has the slots of the policy
pub slots : (p : Source) (files : Held) (i : Image) → IsSound p files i → (cpu : ℕ) (frame : FrameAt) (tick : ℕ) → cpu < p.processor.logical_cpus → slot_in (frames_in i.plan cpu) frame tick ≡ slot_in (frames_of p cpu) frame tick
slots p files i sound cpu frame tick low = ap (λ frames. slot_in frames frame tick) (sound.plan_and_events.plan.frames cpu low)

-- ---- the groups of slots

-- each minor frame is for a group on its CPU
frames_on : (groups : List GroupPart) (cpu : ℕ) (fs : List Minor) → list_all (is_minor groups cpu) fs ≡ true → list_all (λ f. is_group_on groups cpu f.group) (map frame_of_minor fs) ≡ true
frames_on groups cpu fs all =
    list_all-map (λ f. is_group_on groups cpu f.group) frame_of_minor fs
    ∙ each_from (is_minor groups cpu) (λ f. is_group_on groups cpu f.group) (λ f h. (and_parts (nat_lt 0 f.ticks) (is_group_on groups cpu f.group) h).1) fs all

-- a slot of a major frame of the plan
in_major : (plan : Plan) (cpu : ℕ) (at : FrameAt) (tick : ℕ) (slot : Slot) → is_plan plan ≡ true → cpu < cpus_of plan → (o : Option Major) → slice_get plan.majors at.major ≡ o
    → option_and_then (λ (fs : List Frame). slice_get (flat_map (frame_slots at.major) fs) (tick - at.start)) (option_map (frames_at cpu) o) ≡ Some slot → is_group_on plan.groups cpu slot.group ≡ true
in_major plan cpu at tick slot valid low None there is = absurd (cc (is))
in_major plan cpu at tick slot valid low (Some m) there is =
    let major = passes_at (is_major plan.groups (cpus_of plan)) plan.majors at.major m (has_majors plan valid).each there in
    let each = (frames_there plan.groups (cpus_of plan) m cpu major low).each in
    at_slot (is_group_on plan.groups cpu) at.major (frames_at cpu m) (tick - at.start) slot (frames_on plan.groups cpu (slice_index_or m.cpus cpu []) each) is

-- the group of a slot is on the CPU that has the slot
pub group_of_slot : (plan : Plan) (cpu : ℕ) (at : FrameAt) (tick : ℕ) (slot : Slot) → is_plan plan ≡ true → cpu < cpus_of plan → slot_in (frames_in plan cpu) at tick ≡ Some slot → is_group_on plan.groups cpu slot.group ≡ true
unfolding frames_in
group_of_slot plan cpu at tick slot valid low is =
    in_major plan cpu at tick slot valid low (slice_get plan.majors at.major) refl
    (ap (option_and_then (λ (fs : List Frame). slice_get (flat_map (frame_slots at.major) fs) (tick - at.start))) (sym (slice_get-map (frames_at cpu) plan.majors at.major)) ∙ is)

-- a group is on one CPU
one_cpu : (o : Option GroupPart) (a b : ℕ) → option_map_or (λ g. g.cpu == a) o false ≡ true → option_map_or (λ g. g.cpu == b) o false ≡ true → a ≡ b
one_cpu None a b h k = absurd (cc (h))
one_cpu (Some g) a b h k = sym (eqb-true g.cpu a h) ∙ eqb-true g.cpu b k

-- who is in the group of a slot is on the CPU that has the slot
pub planned : (p : Source) (files : Held) (i : Image) → KeepsConditions i → IsSound p files i → (cpu : ℕ) (frame : FrameAt) (tick : ℕ) (slot : Slot) (s : ℕ) (q : SubjectPart)
    → slot_in (frames_of p cpu) frame tick ≡ Some slot → slice_get i.subjects s ≡ Some q → q.group ≡ slot.group → q.cpu ≡ cpu
planned p files i keeps sound cpu frame tick slot s q is at same =
    elim (cases_lt cpu p.processor.logical_cpus) [
      | inl low ↦
          let plan = sound.plan_and_events.plan in
          let on = group_of_slot i.plan cpu frame tick slot plan.valid (subst (λ n. cpu < n) (sym plan.cpus) low) (slots p files i sound cpu frame tick low ∙ is) in
          let mine = (subject_kept i keeps s q at).1.in_group in
          one_cpu (slice_get i.plan.groups slot.group) q.cpu cpu (subst (λ n. is_group_on i.plan.groups q.cpu n ≡ true) same mine) on
      | inr high ↦ absurd (let none = no_slots p sound.lawful cpu frame tick high in cc (none, is))
    ]

-- ---- the ticks of major frames

ticks_by : (groups : List GroupPart) (cpus : ℕ) (ms : List Major) → list_all (is_major groups cpus) ms ≡ true → 0 < cpus → map ticks_of (map (frames_at 0) ms) ≡ map (λ m. m.ticks) ms
ticks_by groups cpus [] all low = refl
ticks_by groups cpus (m ∷ ms) all low =
    let parts = and_parts (is_major groups cpus m) (list_all (is_major groups cpus) ms) all in
    rw (major_ticks groups cpus m 0 parts.0 low, ticks_by groups cpus ms parts.1 low) refl

ticks_in_frames : (plan : Plan) → is_plan plan ≡ true → map ticks_of (frames_in plan 0) ≡ ticks_in_plan plan
unfolding frames_in
ticks_in_frames plan valid =
    let has = has_majors plan valid in
    ticks_by plan.groups (cpus_of plan) plan.majors has.each has.cpu

-- major frames have the ticks of the policy
pub majors : (p : Source) (files : Held) (i : Image) → IsSound p files i → ticks_in_plan i.plan ≡ ticks_of_majors p
majors p files i sound =
    let plan = sound.plan_and_events.plan in
    let some : 0 < p.processor.logical_cpus = subst (λ n. 0 < n) plan.cpus (has_majors i.plan plan.valid).cpu in
    sym (ticks_in_frames i.plan plan.valid) ∙ ap (map ticks_of) (plan.frames 0 some)
