-- **The verdict** on an image, for a policy and files: the first condition of a sound image that fails, in order, and whose it is
-- (this project's own).
use Rattle.std.specs.Prelude.{◌≡◌, ◌⊎◌, ℕ, List, [], ◌∷◌, length, map, slice_index_or, take, zip, Option, Some, option_map}
use Rattle.ept_check.specs.Faults.{table_fault}
use Rattle.ept_check.specs.Tables.{Tables, tables_in}
use Rattle.ept_check.specs.declared.types.FaultKind.{FaultKind}
use Rattle.ept_check.specs.declared.types.FaultKind.TheVariants.{Lacks as LacksFault, Leak as LeakFault, Outside, Twice as TwiceFault}
use Rattle.ept_check.specs.declared.types.TableFault.{TableFault}
use Rattle.image_checks.specs.Contents.{IsContentsFault}
use Rattle.image_checks.specs.Firsts.{FailsFirst}
use Rattle.image_checks.specs.OwnPages.{SharesWithNone}
use Rattle.image_checks.specs.PlanFault.{IsPlanFault}
use Rattle.image_checks.specs.declared.plan_owner.PlanOwner.{PlanOwner}
use Rattle.image_checks.specs.declared.plan_owner.PlanOwner.TheVariants.{Plan as PlanItself, Subject as OfSubject, Device as OfDevice}
use Rattle.image_soundness.specs.ThingBytes.{thing_bytes}
use Rattle.image_pack.specs.Parts.{IsParts}
use Rattle.image_pack.specs.declared.parts.Image.{Image}
use Rattle.image_memory.specs.Memory.{memory_of}
use Rattle.image_soundness.specs.Sound.{AreContents, ForEachSubject, HasArea, HasBitmaps, HasPlanAndEvents, HaveOwnPages, IsFresh}
use Rattle.image_verify.specs.TablePages.{pages_of_all}
use Rattle.image_verify.specs.Windows.{tables_of_subjects}
use Rattle.image_verify.specs.declared.fault.Condition.{Condition}
use Rattle.image_verify.specs.declared.fault.Condition.TheVariants.{Contents, Tables as TableEntries, Bitmaps, Areas, States, OwnPages, Plan}
use Rattle.image_verify.specs.declared.fault.Fault.{Fault}
use Rattle.image_verify.specs.declared.fault.Fault.TheVariants.{Fails, Lacks, Leak, Twice}
use Rattle.image_verify.specs.declared.fault.Owner.{Owner}
use Rattle.image_verify.specs.declared.fault.Owner.TheVariants.{Named, Plan as WholePlan}
use Rattle.muen_num.specs.Range.{numbers_below}
use Rattle.policy_lawful.specs.Contents.{Held}
use Rattle.policy_lawful.specs.Resolution.{Resolution, name_at}
use Rattle.policy_lawful.specs.source.Source.{Source}
use Rattle.policy_lawful.specs.source.Subject.{Subject}
use Rattle.image_pack.specs.declared.parts.SubjectPart.{SubjectPart}

-- ---- whose a condition is that fails

-- the name of the subject at an index
abbrev pub subject_name : Source → ℕ → List ℕ
subject_name p k = name_at (map (λ s. s.name) p.subjects) k

abbrev pub subject_owner : Source → ℕ → Owner
subject_owner p k = Named (subject_name p k)

abbrev pub named_or : List ℕ → List (List ℕ) → ℕ → List ℕ
named_or other names k = slice_index_or names k other

-- of a device: the policy's, where it has one there, else the image's
abbrev pub device_owner : Source → Image → ℕ → Owner
device_owner p i k = Named (named_or (name_at (map (λ d. d.name) i.devices) k) (map (λ d. d.name) p.devices) k)

abbrev pub plan_owner : Source → Image → PlanOwner → Owner
plan_owner p i PlanItself = WholePlan
plan_owner p i (OfSubject k) = subject_owner p k
plan_owner p i (OfDevice k) = device_owner p i k

-- ---- conditions that hold, and that fail first for someone

-- the subjects of an image that the policy has by number
abbrev pub common : Source → Image → List SubjectPart
common p i = take (length p.subjects) i.subjects

-- what is asked behind the contents: what the kernel keeps for each subject, and the plan
pub data Kept : Type 0 where
  bitmaps : Kept
  areas : Kept
  states : Kept
  own_pages : Kept
  plan : Kept

-- the condition as a fault names it
abbrev pub condition_of : Kept → Condition
condition_of bitmaps = Bitmaps
condition_of areas = Areas
condition_of states = States
condition_of own_pages = OwnPages
condition_of plan = Plan

abbrev pub Holds : Source → Image → Kept → Type 0
Holds p i bitmaps = ForEachSubject p i (HasBitmaps p i)
Holds p i areas = ForEachSubject p i (HasArea i)
Holds p i states = ForEachSubject p i (IsFresh i)
Holds p i own_pages = HaveOwnPages p i
Holds p i plan = HasPlanAndEvents p i

-- it fails for a subject, and for none before it
pub record FailsFor (p : Source) {X : Type 0} (P : X → Type 0) (xs : List X) (owner : Owner) : Type 0 where
  pub k : ℕ
  pub first : FailsFirst P xs k
  pub is : owner ≡ subject_owner p k

pub record FailsInPlan (p : Source) (i : Image) (owner : Owner) : Type 0 where
  pub differs : PlanOwner
  pub first : IsPlanFault p i (Some differs)
  pub is : owner ≡ plan_owner p i differs

abbrev pub FailsFirstFor : Source → Image → Kept → Owner → Type 0
FailsFirstFor p i bitmaps owner = FailsFor p (λ (e : Subject × SubjectPart). HasBitmaps p i e.0 e.1) (zip p.subjects i.subjects) owner
FailsFirstFor p i areas owner = FailsFor p (λ (e : Subject × SubjectPart). HasArea i e.0 e.1) (zip p.subjects i.subjects) owner
FailsFirstFor p i states owner = FailsFor p (λ (e : Subject × SubjectPart). IsFresh i e.0 e.1) (zip p.subjects i.subjects) owner
FailsFirstFor p i own_pages owner = FailsFor p (SharesWithNone (common p i)) (numbers_below (length (common p i))) owner
FailsFirstFor p i plan owner = FailsInPlan p i owner

-- the fault is that this fails
pub record IsFailure (p : Source) (i : Image) (c : Kept) (o : Option Fault) : Type 0 where
  pub owner : Owner
  pub is : o ≡ Some (Fails (condition_of c) owner)
  pub fails : FailsFirstFor p i c owner

-- it is that the first of these fails that doesn't hold; where all hold, the rest says what it is
abbrev pub FirstOf : Source → Image → (Option Fault → Type 0) → List Kept → Option Fault → Type 0
FirstOf p i Rest [] o = Rest o
FirstOf p i Rest (c ∷ cs) o = IsFailure p i c o ⊎ (Holds p i c × FirstOf p i Rest cs o)

abbrev pub in_order : List Kept
in_order = bitmaps ∷ areas ∷ states ∷ own_pages ∷ plan ∷ []

-- ---- tables

-- the tables of the image, with the windows of the policy where the image has what they show
abbrev pub image_tables_of : Source → Image → Tables
image_tables_of p i = tables_in (memory_of i) (pages_of_all i.spans) (tables_of_subjects p i)

abbrev pub by_kind : Source → TableFault → FaultKind → Fault
by_kind p f Outside = Fails TableEntries (subject_owner p f.subject)
by_kind p f TwiceFault = Twice (subject_name p f.subject) f.addr
by_kind p f LeakFault = Leak (subject_name p f.subject) f.addr
by_kind p f LacksFault = Lacks (subject_name p f.subject) f.addr

abbrev pub named : Source → TableFault → Fault
named p f = by_kind p f f.kind

-- the first fault of tables
abbrev pub IsTableFault : Source → Image → Option Fault → Type 0
IsTableFault p i o = o ≡ option_map (named p) (table_fault (image_tables_of p i))

-- ---- the whole

-- the contents are another's
pub record FailsInContents (p : Source) (files : Held) (i : Image) (o : Option Fault) : Type 0 where
  pub owner : List ℕ
  pub is : o ≡ Some (Fails Contents (Named owner))
  pub fails : IsContentsFault p files i (Some owner)

-- **the verdict**: contents, then what the kernel keeps and the plan, then tables
abbrev pub IsVerdict : Source → Held → Image → Option Fault → Type 0
IsVerdict p files i o = FailsInContents p files i o ⊎ (AreContents p files i × FirstOf p i (IsTableFault p i) in_order o)

-- a table is read on two paths
pub record IsTwice (f : Fault) : Type 0 where
  pub subject : List ℕ
  pub addr : ℕ
  pub is : f ≡ Twice subject addr

-- ---- what is given

-- the bytes of things are those over some files
pub record AreOfFiles (r : Resolution) (things : List (List ℕ)) : Type 0 where
  pub files : Held
  pub are : things ≡ thing_bytes files r

-- the image has the policy's contents over some files
pub record HasContents (p : Source) (i : Image) : Type 0 where
  pub files : Held
  pub contents : AreContents p files i

-- .. and as many subjects, and keeps the conditions of its format
pub record IsReadyFor (p : Source) (i : Image) : Type 0 where
  pub files : Held
  pub parts : IsParts i
  pub contents : AreContents p files i
  pub many : length i.subjects ≡ length p.subjects
