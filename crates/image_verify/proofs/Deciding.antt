-- What the verdict says, step by step.
use Rattle.std.proofs.Common.{◌≡◌, ◌⊎◌, ℕ, zero, suc, ◌*◌, ◌^◌, ◌<◌, ◌≤◌, All, Bool, true, false, List, [], ◌∷◌, length, take, zip, Option, Some, None, refl, sym, ap, ◌∙◌, inl, inr, arith}
use Rattle.std.proofs.lemmas.List.{length-map}
use Rattle.ept_check.proofs.Firsts.{found_at, in_below}
use Rattle.ept_check.specs.Faults.{table_fault_of_kind, table_fault_at, is_lack, is_leak, is_outside, is_twice, table_fault}
use Rattle.ept_check.specs.Search.{when}
use Rattle.ept_check.specs.Tables.{Tables, expected_walk, subject_of, tables_in, walk}
use Rattle.ept_check.specs.declared.types.FaultKind.TheVariants.{Lacks, Leak, Outside, Twice}
use Rattle.ept_check.specs.declared.types.SubjectTables.{SubjectTables}
use Rattle.ept_check.specs.declared.types.TableFault.{TableFault}
use Rattle.image_checks.proofs.OwnPageLaws.{shares_none}
use Rattle.image_checks.specs.OwnPages.{SharesWithNone}
use Rattle.image_checks.specs.PlanFault.{IsPlanFault}
use Rattle.image_checks.specs.declared.plan_owner.PlanOwner.{PlanOwner}
use Rattle.image_pack.specs.declared.parts.Image.{Image}
use Rattle.image_memory.specs.Memory.{memory_of}
use Rattle.image_soundness.specs.Sound.{ForEachSubject, HasArea, HasBitmaps, HasPlanAndEvents, IsFresh}
use Rattle.image_verify.specs.TablePages.{pages_of_all}
use Rattle.image_verify.specs.Verdict.{FirstOf, common, in_order, plan_owner, image_tables_of}
use Rattle.image_verify.specs.Windows.{tables_of_subject, tables_of_subjects}
use Rattle.image_verify.specs.declared.fault.Condition.TheVariants.{Plan}
use Rattle.image_verify.specs.declared.fault.Fault.TheVariants.{Fails}
use Rattle.image_verify.specs.declared.fault.Owner.{Owner}
use Rattle.ept_check.specs.Memory.{Page}
use Rattle.ept_check.specs.Walks.{root_of}
use Rattle.muen_num.proofs.NumbersBelow.{length_numbers}
use Rattle.muen_num.specs.Range.{numbers_below}
use Rattle.muen_num.specs.Search.{first_of}
use Rattle.policy_lawful.specs.Resolution.{Resolution, source_of}
use Rattle.policy_lawful.proofs.SourceElements.{many_subjects}
use Rattle.policy_lawful.specs.source.Source.{Source}

-- ---- indexes

zip_short : {X Y : Type 0} (xs : List X) (ys : List Y) → length (zip xs ys) ≤ length xs
zip_short [] ys = omega arith
zip_short (x ∷ xs) [] = omega arith
zip_short (x ∷ xs) (y ∷ ys) = let rest = zip_short xs ys in omega (arith, rest)

take_short : {X : Type 0} (n : ℕ) (xs : List X) → length (take n xs) ≤ n
take_short zero xs = omega arith
take_short (suc n) [] = omega arith
take_short (suc n) (x ∷ xs) = let rest = take_short n xs in omega (arith, rest)

pub in_zip : {Y : Type 0} (r : Resolution) (ys : List Y) (k : ℕ) → k < length (zip (source_of r).subjects ys) → k < length r.subjects
in_zip r ys k h = let short = zip_short (source_of r).subjects ys in omega (arith, h, short, many_subjects r)

pub in_common : (r : Resolution) (i : Image) (k : ℕ) → k < length (numbers_below (length (common (source_of r) i))) → k < length r.subjects
in_common r i k h =
    let short = take_short (length (source_of r).subjects) i.subjects in
    omega (arith, h, length_numbers (length (common (source_of r) i)), short, many_subjects r)

-- ---- what the kernel keeps, and the plan

module _ (r : Resolution) (i : Image) (bitmaps : ForEachSubject (source_of r) i (HasBitmaps (source_of r) i)) (areas : ForEachSubject (source_of r) i (HasArea i)) (states : ForEachSubject (source_of r) i (IsFresh i)) (own : All (SharesWithNone (common (source_of r) i)) (numbers_below (length (common (source_of r) i)))) where
  pub all_hold : HasPlanAndEvents (source_of r) i → FirstOf (source_of r) i (λ o. o ≡ None) in_order None
  all_hold plan = inr (bitmaps, inr (areas, inr (states, inr (shares_none (common (source_of r) i) own, inr (plan, refl)))))

  pub plan_fails : (differs : PlanOwner) (owner : Owner) → IsPlanFault (source_of r) i (Some differs) → owner ≡ plan_owner (source_of r) i differs → FirstOf (source_of r) i (λ o. o ≡ None) in_order (Some (Fails Plan owner))
  plan_fails differs owner first is =
      inr (bitmaps, inr (areas, inr (states, inr (shares_none (common (source_of r) i) own, inl (record { owner = owner; is = refl; fails = record { differs = differs; first = first; is = is } })))))

-- ---- tables

pub same_tables : (p : Source) (i : Image) (m : List Page) (pages : List ℕ) (subjects : List SubjectTables) → m ≡ memory_of i → pages ≡ pages_of_all i.spans → subjects ≡ tables_of_subjects p i → table_fault (tables_in m pages subjects) ≡ table_fault (image_tables_of p i)
same_tables p i m pages subjects a b c = λ j. table_fault (tables_in (a j) (b j) (c j))

abbrev subject_or : Option TableFault → ℕ
subject_or None = 0
subject_or (Some f) = f.subject

-- whose a fault is
subject_is : (q : ℕ) (a b c d : Bool) (f : TableFault) → first_of (when a (table_fault_of_kind Outside q) ∷ when b (table_fault_of_kind Twice q) ∷ first_of (when c (table_fault_of_kind Leak q) ∷ when d (table_fault_of_kind Lacks q) ∷ []) ∷ []) ≡ Some f → f.subject ≡ subject_of q
subject_is q true b c d f h = sym (ap (λ o. subject_or o) h)
subject_is q false true c d f h = sym (ap (λ o. subject_or o) h)
subject_is q false false true d f h = sym (ap (λ o. subject_or o) h)
subject_is q false false false true f h = sym (ap (λ o. subject_or o) h)
subject_is q false false false false f h = absurd (cc)

at_subject : (v : Tables) (q : ℕ) (f : TableFault) → table_fault_at v q ≡ Some f → f.subject ≡ subject_of q
unfolding table_fault_at
at_subject v q f h = subject_is q (is_outside v q) (is_twice v q) (is_leak (walk v q) (expected_walk v q)) (is_lack (walk v q) (expected_walk v q)) f h

within : (v : Tables) (f : TableFault) → table_fault v ≡ Some f → f.subject < length v.roots
unfolding table_fault
within v f h =
    let r = found_at (table_fault_at v) 0 (2 ^ 36 * length v.roots) f (sym (in_below (table_fault_at v) (2 ^ 36 * length v.roots)) ∙ h) in
    let high = r.high in
    let same = at_subject v r.k f r.here in
    omega (arith, high, same)

few_tables : (p : Source) (i : Image) → length (image_tables_of p i).roots ≤ length p.subjects
unfolding tables_of_subjects
few_tables p i =
    let rows = zip p.subjects i.subjects in
    let one = length-map (tables_of_subjects p i) (λ s. root_of s.eptp) in
    let two = length-map rows (tables_of_subject p i) in
    let three = zip_short p.subjects i.subjects in
    omega (arith, one, two, three)

pub fault_within : (r : Resolution) (i : Image) (f : TableFault) → table_fault (image_tables_of (source_of r) i) ≡ Some f → f.subject < length r.subjects
fault_within r i f h = let low = within (image_tables_of (source_of r) i) f h in let few = few_tables (source_of r) i in let many = many_subjects r in omega (arith, low, few, many)

pub device_there : (r : Resolution) (i : Image) (k : ℕ) → (k < length (source_of r).devices) ⊎ (k < length i.devices) → (k < length r.devices) ⊎ (k < length i.devices)
unfolding source_of
device_there r i k h = h
