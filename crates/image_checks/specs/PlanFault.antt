-- What an image's plan and events first differ in from a policy's.
use Rattle.std.specs.Prelude.{◌≡◌, ℕ, ◌<◌, ◌⊎◌, List, length, zip, slice_index_or, Option, Some, None, option_map}
use Rattle.std.specs.List.{AllZip}
use Rattle.image_checks.specs.Firsts.{FailsFirst}
use Rattle.image_checks.specs.declared.plan_owner.PlanOwner.{PlanOwner}
use Rattle.image_checks.specs.declared.plan_owner.PlanOwner.TheVariants.{Plan, Subject, Device}
use Rattle.image_pack.specs.declared.parts.Image.{Image}
use Rattle.image_soundness.specs.Named.{tag_at}
use Rattle.image_soundness.specs.Sound.{ForEachSubject, HasPlanAndEvents, IsDeviceOf, IsSubjectOf}
use Rattle.image_soundness.specs.PlanOf.{IsPlanOf}
use Rattle.policy_lawful.specs.Thing.{region, thing_tag}
use Rattle.policy_lawful.specs.source.Source.{Source}

-- ---- two lists

-- what holds of what two lists have at an index
abbrev pub AgreesAt : {X Y : Type 0} → (X → Y → Type 0) → List X → List Y → ℕ → Type 0
AgreesAt {X} {Y} Holds xs ys k = (x : X) (y : Y) → Holds (slice_index_or xs k x) (slice_index_or ys k y)

-- the first index at which one of two lists has nothing, or at which it fails
pub record DiffersFirst {X Y : Type 0} (Holds : X → Y → Type 0) (xs : List X) (ys : List Y) (k : ℕ) : Type 0 where
  -- one of them has something there
  pub there : (k < length xs) ⊎ (k < length ys)
  pub before : (j : ℕ) → j < k → (j < length xs) × (j < length ys) × AgreesAt Holds xs ys j
  pub here : k < length xs → k < length ys → AgreesAt Holds xs ys k → ⊥

-- that index, if there is one; else it holds of each, and they have as many
abbrev pub IsFirstDifference : {X Y : Type 0} → (X → Y → Type 0) → List X → List Y → Option ℕ → Type 0
IsFirstDifference Holds xs ys None = AllZip Holds xs ys
IsFirstDifference Holds xs ys (Some k) = DiffersFirst Holds xs ys k

-- ---- the plan

-- the region whose first byte chooses the next major frame is the policy's
abbrev pub HasChoice : Source → Image → Type 0
HasChoice p i = option_map (tag_at i) i.header.tau0 ≡ option_map (λ t. Some (thing_tag (region t.region))) p.scheduling.tau0

-- the CPUs, the plan and that region are the policy's
pub record HasPlan (p : Source) (i : Image) : Type 0 where
  pub cpus : i.header.cpus ≡ p.processor.logical_cpus
  pub plan : IsPlanOf p i.plan
  pub tau0 : HasChoice p i

-- ---- in order

abbrev pub HasAsMany : Source → Image → Type 0
HasAsMany p i = length i.subjects ≡ length p.subjects

abbrev pub HasSubjects : Source → Image → Type 0
HasSubjects p i = ForEachSubject p i (IsSubjectOf p)

-- there are not as many subjects; or each is the policy's, and the plan is not
abbrev pub DiffersInPlan : Source → Image → Type 0
DiffersInPlan p i = (HasAsMany p i → ⊥) ⊎ (HasAsMany p i × HasSubjects p i × (HasPlan p i → ⊥))

-- there are as many subjects, and this is the first that is not the policy's
pub record DiffersInSubject (p : Source) (i : Image) (k : ℕ) : Type 0 where
  pub many : HasAsMany p i
  pub first : FailsFirst (λ e. IsSubjectOf p e.0 e.1) (zip p.subjects i.subjects) k

-- all else is the policy's, and this is the first index at which the devices differ
pub record DiffersInDevice (p : Source) (i : Image) (k : ℕ) : Type 0 where
  pub many : HasAsMany p i
  pub subjects : HasSubjects p i
  pub plan : HasPlan p i
  pub first : DiffersFirst (IsDeviceOf p i) p.devices i.devices k

abbrev pub IsPlanFault : Source → Image → Option PlanOwner → Type 0
IsPlanFault p i None = HasPlanAndEvents p i
IsPlanFault p i (Some Plan) = DiffersInPlan p i
IsPlanFault p i (Some (Subject k)) = DiffersInSubject p i k
IsPlanFault p i (Some (Device k)) = DiffersInDevice p i k
