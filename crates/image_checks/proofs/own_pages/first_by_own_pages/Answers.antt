use Rattle.std.proofs.Common.{◌≡◌, ◌∙◌, List, length, take, ap, sym, subst}
use Rattle.image_checks.specs.Firsts.{IsFirstFailing}
use Rattle.image_checks.specs.OwnPages.{SharesWithNone}
use Rattle.image_checks.proofs.PageLaws.{first_of}
use Rattle.image_pack.specs.declared.parts.Image.{Image}
use Rattle.image_pack.specs.declared.parts.SubjectPart.{SubjectPart}
use Rattle.muen_num.specs.Range.{numbers_below}
use Rattle.policy_lawful.specs.Resolution.{Resolution, source_of}
use Rattle.policy_lawful.proofs.SourceElements.{many_subjects}
use Rattle.image_checks.proofs.own_pages.first_by_own_pages.Goals as goal

pub returns : goal.returns
returns c =
    let r = c.args.expanded.now.lawful in
    let parts : c.items-parts.result.now ≡ c.args.image.now.subjects = c.items-parts.ensures ∙ ap (λ (i : Image). i.subjects) c.image.ensures.same in
    let subjects : c.subjects-many.result.now ≡ r.subjects = c.subjects-many.ensures.value ∙ ap (λ (x : Resolution). x.subjects) (c.resolved.ensures.value ∙ c.lawful.ensures) in
    let common : take c.min.result c.items-parts.result.now ≡ take (length (source_of r).subjects) c.args.image.now.subjects =
    first_of c.items-parts.result.now c.args.image.now.subjects c.min.result (length c.subjects-many.result.now) (length (source_of r).subjects) parts c.min.ensures (ap length subjects ∙ sym (many_subjects r)) in
    subst (λ (xs : List SubjectPart). IsFirstFailing (SharesWithNone xs) (numbers_below (length xs)) c.first_sharing.result) common c.first_sharing.ensures
