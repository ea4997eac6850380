-- A fault of a plan is none of a sound image, and there is one.
use Rattle.std.proofs.Common.{◌≡◌, ℕ, List, Option, Some, None, inl, inr, refl, ap}
use Rattle.std.specs.Prelude.{zip}
use Rattle.std.specs.List.{All, AllZip}
use Rattle.std.proofs.lemmas.Bool.{cases_order}
use Rattle.image_checks.proofs.Places.{no_first}
use Rattle.image_checks.specs.Firsts.{FailsFirst}
use Rattle.image_checks.specs.PlanFault.{DiffersFirst, DiffersInDevice, DiffersInPlan, DiffersInSubject, HasAsMany, HasPlan, HasSubjects, IsPlanFault}
use Rattle.image_checks.specs.declared.plan_owner.PlanOwner.{PlanOwner}
use Rattle.image_checks.specs.declared.plan_owner.PlanOwner.TheVariants.{Plan, Subject, Device}
use Rattle.image_pack.specs.declared.parts.Image.{Image}
use Rattle.image_soundness.specs.Sound.{HasPlanAndEvents, IsDeviceOf, IsSubjectOf}
use Rattle.muen_num.proofs.Lists.{there}
use Rattle.policy_lawful.specs.source.Source.{Source}

-- the plan of an image whose plan and events are the policy's
plan_of : (p : Source) (i : Image) → HasPlanAndEvents p i → HasPlan p i
plan_of p i h = record { cpus = h.cpus; plan = h.plan; tau0 = h.tau0 }

-- where each is that of the policy, none is the first that is not
pub none_first : {X : Type 0} (P : X → Type 0) (xs : List X) (k : ℕ) → All P xs → FailsFirst P xs k → ⊥
none_first P xs k h first = let x = there xs k first.within in first.here x.0 (h k x.0 first.within)

-- **an owner that is found** shows that plan and events are not the policy's
pub a_plan_fault_is_none_of_a_sound_image : (p : Source) (i : Image) (owner : PlanOwner) → IsPlanFault p i (Some owner) → HasPlanAndEvents p i → ⊥
a_plan_fault_is_none_of_a_sound_image p i Plan d h =
    elim d [
      | inl many ↦ many h.many
      | inr later ↦ later.2 (plan_of p i h)
    ]
a_plan_fault_is_none_of_a_sound_image p i (Subject k) d h =
    none_first (λ e. IsSubjectOf p e.0 e.1) (zip p.subjects i.subjects) k h.subjects d.first
a_plan_fault_is_none_of_a_sound_image p i (Device k) d h = no_first (IsDeviceOf p i) p.devices i.devices k d.first h.devices

-- ---- what is found

module _ (p : Source) (i : Image) (many : HasAsMany p i) (subjects : HasSubjects p i) where
  module _ (plan : HasPlan p i) where
    pub all_same : AllZip (IsDeviceOf p i) p.devices i.devices → HasPlanAndEvents p i
    all_same devices = record { many = many; subjects = subjects; cpus = plan.cpus; plan = plan.plan; tau0 = plan.tau0; devices = devices }

-- ---- there is one answer

-- two first elements for which it fails are one
pub one_first : {X : Type 0} (P : X → Type 0) (xs : List X) (j k : ℕ) → FailsFirst P xs j → FailsFirst P xs k → j ≡ k
one_first P xs j k a b =
    elim (cases_order j k) [
      | inl e ↦ e
      | inr later ↦ elim later [
        | inl l ↦ let x = there xs j a.within in absurd (a.here x.0 (b.before j x.0 l))
        | inr l ↦ let x = there xs k b.within in absurd (b.here x.0 (a.before k x.0 l))
      ]
    ]

-- and so are two first indexes at which lists differ
one_difference : {X Y : Type 0} (R : X → Y → Type 0) (xs : List X) (ys : List Y) (j k : ℕ) → DiffersFirst R xs ys j → DiffersFirst R xs ys k → j ≡ k
one_difference R xs ys j k a b =
    elim (cases_order j k) [
      | inl e ↦ e
      | inr later ↦ elim later [
        | inl l ↦ let x = b.before j l in absurd (a.here x.0 x.1 x.2)
        | inr l ↦ let x = a.before k l in absurd (b.here x.0 x.1 x.2)
      ]
    ]

plan_or_subject : (p : Source) (i : Image) (k : ℕ) → DiffersInPlan p i → DiffersInSubject p i k → ⊥
plan_or_subject p i k a b =
    elim a [
      | inl many ↦ many b.many
      | inr later ↦ none_first (λ e. IsSubjectOf p e.0 e.1) (zip p.subjects i.subjects) k later.1 b.first
    ]

plan_or_device : (p : Source) (i : Image) (k : ℕ) → DiffersInPlan p i → DiffersInDevice p i k → ⊥
plan_or_device p i k a b =
    elim a [
      | inl many ↦ many b.many
      | inr later ↦ later.2 b.plan
    ]

subject_or_device : (p : Source) (i : Image) (j k : ℕ) → DiffersInSubject p i j → DiffersInDevice p i k → ⊥
subject_or_device p i j k a b = none_first (λ e. IsSubjectOf p e.0 e.1) (zip p.subjects i.subjects) j b.subjects a.first

one_owner : (p : Source) (i : Image) (a b : PlanOwner) → IsPlanFault p i (Some a) → IsPlanFault p i (Some b) → a ≡ b
one_owner p i Plan Plan x y = refl
one_owner p i Plan (Subject k) x y = absurd (plan_or_subject p i k x y)
one_owner p i Plan (Device k) x y = absurd (plan_or_device p i k x y)
one_owner p i (Subject k) Plan x y = absurd (plan_or_subject p i k y x)
one_owner p i (Subject j) (Subject k) x y = ap Subject (one_first (λ e. IsSubjectOf p e.0 e.1) (zip p.subjects i.subjects) j k x.first y.first)
one_owner p i (Subject j) (Device k) x y = absurd (subject_or_device p i j k x y)
one_owner p i (Device k) Plan x y = absurd (plan_or_device p i k y x)
one_owner p i (Device k) (Subject j) x y = absurd (subject_or_device p i j k y x)
one_owner p i (Device j) (Device k) x y = ap Device (one_difference (IsDeviceOf p i) p.devices i.devices j k x.first y.first)

-- **two answers** for a policy and an image are the same
pub one_plan_fault : (p : Source) (i : Image) (a b : Option PlanOwner) → IsPlanFault p i a → IsPlanFault p i b → a ≡ b
one_plan_fault p i None None x y = refl
one_plan_fault p i None (Some b) x y = absurd (a_plan_fault_is_none_of_a_sound_image p i b y x)
one_plan_fault p i (Some a) None x y = absurd (a_plan_fault_is_none_of_a_sound_image p i a x y)
one_plan_fault p i (Some a) (Some b) x y = ap Some (one_owner p i a b x y)
