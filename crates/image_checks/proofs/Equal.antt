-- What tests of parts for equality tell.
use Rattle.std.proofs.Common.{◌≡◌, ℕ, Bool, true, false, List, Option, Some, None, refl, ap}
use Rattle.std.specs.Prelude.{◌==◌, ◌&&◌}
use Rattle.std.specs.Bool.{Decides as Tells}
use Rattle.std.specs.Option.{option_eq}
use Rattle.std.specs.Str.{bytes_eq}
use Rattle.std.specs.Cmp.Lexicographic.{pointwise}
use Rattle.std.proofs.lemmas.Bool.Decides.{Decides-and, Decides-eqb, Decides-like}
use Rattle.std.proofs.lemmas.Slice.Eq.{bytes_eq-Decides, slice_eq-Decides}
use Rattle.image_pack.specs.plan.GroupPart.{GroupPart}
use Rattle.image_pack.specs.plan.Major.{Major}
use Rattle.image_pack.specs.plan.Minor.{Minor}
use Rattle.image_checks.specs.Firsts.{Decides}
use Rattle.image_pack.specs.declared.parts.EventPart.{EventPart}
use Rattle.image_pack.specs.declared.parts.IrqPart.{IrqPart}
use Rattle.muen_num.specs.declared.devices.IrqTarget.{IrqTarget}
use Rattle.muen_num.specs.declared.devices.PortSpan.{PortSpan}
use Rattle.muen_num.specs.contracts.mode.EventModePartialEq.TheImpl.{eq-value as same_mode}
use Rattle.muen_num.specs.contracts.tag.TagPartPartialEq.TheImpl.{eq-value as same_part}
use Rattle.muen_num.specs.declared.mode.EventMode.{EventMode}
use Rattle.muen_num.specs.declared.mode.EventMode.TheVariants.{Asap, Async, Own, Switch}
use Rattle.muen_num.specs.declared.tag.Tag.{Tag}
use Rattle.muen_num.specs.declared.tag.TagPart.{TagPart}
use Rattle.muen_num.specs.declared.tag.TagPart.TheVariants.{Whole, Named, State, Ept, Iobm, Msrbm, Msrs}

-- ---- tests

pub decided : (b : Bool) (P : Type 0) → Tells b P → Decides P b
decided true P d = d.0 refl
decided false P d = λ h. let e = d.1 h in absurd (cc (e))

-- the items of what may be missing
pub option_tells : {X : Type 0} (E : X → X → Bool) → ((a b : X) → Tells (E a b) (a ≡ b)) → (a b : Option X) → Tells (option_eq E a b) (a ≡ b)
option_tells E each None None = (λ _. refl, λ _. refl)
option_tells E each None (Some y) = (λ h. absurd (cc (h)), λ h. absurd (cc (h)))
option_tells E each (Some x) None = (λ h. absurd (cc (h)), λ h. absurd (cc (h)))
option_tells E each (Some x) (Some y) = (λ h. ap Some ((each x y).0 h), λ h. (each x y).1 (cc (h)))

pub group_tells : (a b : GroupPart) → Tells ((a.cpu == b.cpu) && (a.first == b.first)) (a ≡ b)
group_tells a b =
    Decides-like _ (λ h. let cpu = h.0 in let first = h.1 in (λ t. record { cpu = cpu t; first = first t }))
    (λ e. (ap (λ (x : GroupPart). x.cpu) e, ap (λ (x : GroupPart). x.first) e))
    (Decides-and (a.cpu == b.cpu) (a.first == b.first) (Decides-eqb a.cpu b.cpu) (Decides-eqb a.first b.first))

pub minor_tells : (a b : Minor) → Tells ((a.group == b.group) && (a.ticks == b.ticks)) (a ≡ b)
minor_tells a b =
    Decides-like _ (λ h. let cpu = h.0 in let first = h.1 in (λ t. record { group = cpu t; ticks = first t }))
    (λ e. (ap (λ (x : Minor). x.group) e, ap (λ (x : Minor). x.ticks) e))
    (Decides-and (a.group == b.group) (a.ticks == b.ticks) (Decides-eqb a.group b.group) (Decides-eqb a.ticks b.ticks))

pub minors_tell : (a b : List Minor) → Tells (pointwise (λ (x : Minor) (y : Minor). (x.group == y.group) && (x.ticks == y.ticks)) a b) (a ≡ b)
minors_tell a b = slice_eq-Decides minor_tells a b _ refl

pub cpus_tell : (a b : List (List Minor)) → Tells (pointwise (pointwise (λ (x : Minor) (y : Minor). (x.group == y.group) && (x.ticks == y.ticks))) a b) (a ≡ b)
cpus_tell a b = slice_eq-Decides minors_tell a b _ refl

pub major_tells : (a b : Major) → Tells ((a.ticks == b.ticks) && pointwise (pointwise (λ (x : Minor) (y : Minor). (x.group == y.group) && (x.ticks == y.ticks))) a.cpus b.cpus) (a ≡ b)
major_tells a b =
    Decides-like _ (λ h. let ticks = h.0 in let cpus = h.1 in (λ t. record { ticks = ticks t; cpus = cpus t }))
    (λ e. (ap (λ (x : Major). x.ticks) e, ap (λ (x : Major). x.cpus) e))
    (Decides-and (a.ticks == b.ticks) _ (Decides-eqb a.ticks b.ticks) (cpus_tell a.cpus b.cpus))

pub port_tells : (a b : PortSpan) → Tells ((a.start == b.start) && (a.end == b.end)) (a ≡ b)
port_tells a b =
    Decides-like _ (λ h. let start = h.0 in let end = h.1 in (λ t. record { start = start t; end = end t }))
    (λ e. (ap (λ (x : PortSpan). x.start) e, ap (λ (x : PortSpan). x.end) e))
    (Decides-and (a.start == b.start) (a.end == b.end) (Decides-eqb a.start b.start) (Decides-eqb a.end b.end))

pub target_tells : (a b : IrqTarget) → Tells ((a.subject == b.subject) && (a.vector == b.vector)) (a ≡ b)
target_tells a b =
    Decides-like _ (λ h. let subject = h.0 in let vector = h.1 in (λ t. record { subject = subject t; vector = vector t }))
    (λ e. (ap (λ (x : IrqTarget). x.subject) e, ap (λ (x : IrqTarget). x.vector) e))
    (Decides-and (a.subject == b.subject) (a.vector == b.vector) (Decides-eqb a.subject b.subject) (Decides-eqb a.vector b.vector))

pub irq_tells : (a b : IrqPart) → Tells (bytes_eq a.name b.name && option_eq (λ (x : IrqTarget) (y : IrqTarget). (x.subject == y.subject) && (x.vector == y.vector)) a.target b.target) (a ≡ b)
irq_tells a b =
    Decides-like _ (λ h. let name = h.0 in let target = h.1 in (λ t. record { name = name t; target = target t }))
    (λ e. (ap (λ (x : IrqPart). x.name) e, ap (λ (x : IrqPart). x.target) e))
    (Decides-and (bytes_eq a.name b.name) _ (bytes_eq-Decides a.name b.name) (option_tells _ target_tells a.target b.target))

-- ---- events

mode_tells : (a b : EventMode) → Tells (same_mode.it a b) (a ≡ b)
mode_tells Asap Asap = (λ _. refl, λ _. refl)
mode_tells Async Async = (λ _. refl, λ _. refl)
mode_tells Own Own = (λ _. refl, λ _. refl)
mode_tells Switch Switch = (λ _. refl, λ _. refl)
mode_tells _ _ = (λ h. absurd (cc (h)), λ h. absurd (cc (h)))

pub event_tells : (a b : EventPart) → Tells (same_mode.it a.mode b.mode && ((a.target == b.target) && option_eq (λ (x : ℕ) (y : ℕ). x == y) a.vector b.vector)) (a ≡ b)
event_tells a b =
    Decides-like _ (λ h. let mode = h.0 in let target = h.1.0 in let vector = h.1.1 in (λ t. record { mode = mode t; target = target t; vector = vector t }))
    (λ e. (ap (λ (x : EventPart). x.mode) e, (ap (λ (x : EventPart). x.target) e, ap (λ (x : EventPart). x.vector) e)))
    (Decides-and _ _ (mode_tells a.mode b.mode) (Decides-and _ _ (Decides-eqb a.target b.target) (option_tells (λ x y. x == y) Decides-eqb a.vector b.vector)))

-- ---- printed names

part_tells : (a b : TagPart) → Tells (same_part.it a b) (a ≡ b)
part_tells Whole Whole = (λ _. refl, λ _. refl)
part_tells (Named x) (Named y) = (λ h. ap Named ((bytes_eq-Decides x y).0 h), λ e. (bytes_eq-Decides x y).1 (cc (e)))
part_tells State State = (λ _. refl, λ _. refl)
part_tells Ept Ept = (λ _. refl, λ _. refl)
part_tells Iobm Iobm = (λ _. refl, λ _. refl)
part_tells Msrbm Msrbm = (λ _. refl, λ _. refl)
part_tells Msrs Msrs = (λ _. refl, λ _. refl)
part_tells _ _ = (λ h. absurd (cc (h)), λ h. absurd (cc (h)))

pub tag_tells : (a b : Tag) → Tells (bytes_eq a.owner b.owner && same_part.it a.part b.part) (a ≡ b)
tag_tells a b =
    Decides-like _ (λ h. let owner = h.0 in let part = h.1 in (λ t. record { owner = owner t; part = part t }))
    (λ e. (ap (λ (x : Tag). x.owner) e, ap (λ (x : Tag). x.part) e))
    (Decides-and (bytes_eq a.owner b.owner) _ (bytes_eq-Decides a.owner b.owner) (part_tells a.part b.part))
