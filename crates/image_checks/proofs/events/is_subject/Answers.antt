use Rattle.std.proofs.Common.{◌≡◌, ◌∙◌, ap, arith, get_or, subst, List, Option, ℕ}
use Rattle.std.specs.Prelude.{◌==◌, position}
use Rattle.std.specs.List.{list_any}
use Rattle.std.proofs.lemmas.Slice.Zip.{AllZip-long}
use Rattle.event_emit.specs.Tables.{AreTables}
use Rattle.image_checks.proofs.SubjectsTold.{subject_told}
use Rattle.image_soundness.proofs.GroupsByIndex.{group_with}
use Rattle.image_checks.proofs.events.is_subject.Goals as goal
use Rattle.image_checks.specs.Agreement.{SubjectAgrees}
use Rattle.image_checks.specs.Firsts.{Decides}
use Rattle.policy_lawful.specs.Resolution.{IsResolved, Resolution}
use Rattle.policy_lawful.specs.declared.resolved.Group.{Group}
use Rattle.policy_lawful.specs.declared.resolved.Scheduling.{Scheduling}
use Rattle.policy_lawful.specs.declared.resolved.Subject.{Subject}

pub bounds-tables-index : goal.bounds-tables-index
bounds-tables-index c =
    let many = AllZip-long (AreTables c.args.lawful.now) c.args.lawful.now.subjects c.args.tables.now c.requires.tables in
    let parts = c.requires.many in
    let low = c.requires.there in
    omega (arith, many, parts, low)

pub returns : goal.returns
returns c =
    let same = c.resolved-policy.ensures.value in
    let subjects = c.subjects.ensures.value ∙ ap (λ (r : Resolution). r.subjects) same in
    let groups = ap (λ (s : Scheduling). s.groups) (c.scheduling.ensures.value ∙ ap (λ (r : Resolution). r.scheduling) same) in
    let group : c.group_with-group.result ≡ group_with c.args.lawful.now c.args.index =
    c.group_with-group.ensures ∙ ap (λ (gs : List Group). position (λ g. list_any (λ n. n == c.args.index) g.subjects) gs) groups in
    subject_told c.args.lawful.now (subst IsResolved same c.subjects.ensures.resolved) c.resolved-policy.ensures.lawful
    c.args.tables.now c.args.parts.now c.requires.tables c.requires.many c.requires.full c.args.index c.requires.there
    c.index-subjects-index.result c.index-tables-index.result c.index-parts-index.result
    (c.index-subjects-index.is ∙ ap (λ (ss : List Subject). get_or ss c.args.index c.index-subjects-index.result) subjects)
    c.index-tables-index.is c.index-parts-index.is c.agrees.result
    (subst (λ (g : Option ℕ). Decides (SubjectAgrees c.index-subjects-index.result g c.index-tables-index.result c.index-parts-index.result) c.agrees.result) group c.agrees.ensures)
