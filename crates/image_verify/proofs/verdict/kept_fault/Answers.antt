use Rattle.std.proofs.Common.{length, ap, subst, sym, ◌∙◌, ◌<◌, zip}
use Rattle.image_checks.specs.Firsts.{IsFirstFailing}
use Rattle.image_checks.specs.OwnPages.{SharesWithNone}
use Rattle.image_checks.specs.PlanFault.{IsPlanFault}
use Rattle.image_pack.specs.declared.parts.Image.{Image}
use Rattle.image_pack.specs.declared.parts.SubjectPart.{SubjectPart}
use Rattle.image_soundness.specs.Sound.{HasArea, HasBitmaps, IsFresh}
use Rattle.image_verify.proofs.Deciding.{all_hold, in_common, in_zip, plan_fails}
use Rattle.image_verify.specs.Verdict.{common, plan_owner}
use Rattle.muen_num.specs.Range.{numbers_below}
use Rattle.policy_lawful.specs.Resolution.{Resolution, source_of}
use Rattle.policy_lawful.specs.source.Subject.{Subject}
use Rattle.image_verify.proofs.verdict.kept_fault.Goals as goal

pub fails_for-requires : goal.fails_for-requires
fails_for-requires c =
    let r = c.args.expanded.now.lawful in
    let i = c.args.image.now in
    let pairs = zip (source_of r).subjects i.subjects in
    let first = subst (IsFirstFailing (λ (e : Subject × SubjectPart). HasBitmaps (source_of r) i e.0 e.1) pairs) c.in-Some.is c.in_ok-k.ensures in
    subst (λ (x : Resolution). c.in-Some.k < length x.subjects) (sym c.policy_of-policy.ensures) (in_zip r i.subjects c.in-Some.k first.within)

pub fails_for-requires-in-Some-2 : goal.fails_for-requires-in-Some-2
fails_for-requires-in-Some-2 c =
    let r = c.args.expanded.now.lawful in
    let i = c.args.image.now in
    let pairs = zip (source_of r).subjects i.subjects in
    let first = subst (IsFirstFailing (λ (e : Subject × SubjectPart). HasArea i e.0 e.1) pairs) c.in-Some-2.is c.in_ok-k-2.ensures in
    subst (λ (x : Resolution). c.in-Some-2.k < length x.subjects) (sym c.policy_of-policy.ensures) (in_zip r i.subjects c.in-Some-2.k first.within)

pub fails_for-requires-in-Some-3 : goal.fails_for-requires-in-Some-3
fails_for-requires-in-Some-3 c =
    let r = c.args.expanded.now.lawful in
    let i = c.args.image.now in
    let pairs = zip (source_of r).subjects i.subjects in
    let first = subst (IsFirstFailing (λ (e : Subject × SubjectPart). IsFresh i e.0 e.1) pairs) c.in-Some-3.is c.in_ok-k-3.ensures in
    subst (λ (x : Resolution). c.in-Some-3.k < length x.subjects) (sym c.policy_of-policy.ensures) (in_zip r i.subjects c.in-Some-3.k first.within)

pub fails_for-requires-in-Some-first_by_own_pages : goal.fails_for-requires-in-Some-first_by_own_pages
fails_for-requires-in-Some-first_by_own_pages c =
    let r = c.args.expanded.now.lawful in
    let i = c.args.image.now in
    let parts = common (source_of r) i in
    let first = subst (IsFirstFailing (SharesWithNone parts) (numbers_below (length parts))) c.in-Some-first_by_own_pages.is c.first_by_own_pages.ensures in
    subst (λ (x : Resolution). c.in-Some-first_by_own_pages.k < length x.subjects) (sym c.policy_of-policy.ensures) (in_common r i c.in-Some-first_by_own_pages.k first.within)

pub returns-in-None : goal.returns-in-None
returns-in-None c =
    let r = c.args.expanded.now.lawful in
    let i = c.args.image.now in
    let pairs = zip (source_of r).subjects i.subjects in
    let parts = common (source_of r) i in
    all_hold r i
    (subst (IsFirstFailing (λ (e : Subject × SubjectPart). HasBitmaps (source_of r) i e.0 e.1) pairs) c.in_default.is c.in_ok-k.ensures)
    (subst (IsFirstFailing (λ (e : Subject × SubjectPart). HasArea i e.0 e.1) pairs) c.in_default-2.is c.in_ok-k-2.ensures)
    (subst (IsFirstFailing (λ (e : Subject × SubjectPart). IsFresh i e.0 e.1) pairs) c.in_default-3.is c.in_ok-k-3.ensures)
    (subst (IsFirstFailing (SharesWithNone parts) (numbers_below (length parts))) c.in_default-first_by_own_pages.is c.first_by_own_pages.ensures)
    (subst (IsPlanFault (source_of r) i) c.in-None.is c.in_ok-plan_fault.ensures)

pub returns-in-Some-4 : goal.returns-in-Some-4
returns-in-Some-4 c =
    let r = c.args.expanded.now.lawful in
    let i = c.args.image.now in
    let pairs = zip (source_of r).subjects i.subjects in
    let parts = common (source_of r) i in
    plan_fails r i
    (subst (IsFirstFailing (λ (e : Subject × SubjectPart). HasBitmaps (source_of r) i e.0 e.1) pairs) c.in_default.is c.in_ok-k.ensures)
    (subst (IsFirstFailing (λ (e : Subject × SubjectPart). HasArea i e.0 e.1) pairs) c.in_default-2.is c.in_ok-k-2.ensures)
    (subst (IsFirstFailing (λ (e : Subject × SubjectPart). IsFresh i e.0 e.1) pairs) c.in_default-3.is c.in_ok-k-3.ensures)
    (subst (IsFirstFailing (SharesWithNone parts) (numbers_below (length parts))) c.in_default-first_by_own_pages.is c.first_by_own_pages.ensures)
    c.in-Some-4.differs c.plan_owner.result
    (subst (IsPlanFault (source_of r) i) c.in-Some-4.is c.in_ok-plan_fault.ensures)
    (c.plan_owner.ensures ∙ ap (λ (x : Resolution). plan_owner (source_of x) c.image.result.now c.in-Some-4.differs) c.policy_of-policy.ensures ∙ ap (λ (x : Image). plan_owner (source_of r) x c.in-Some-4.differs) c.image.ensures.same)
