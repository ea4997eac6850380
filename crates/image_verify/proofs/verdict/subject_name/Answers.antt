use Rattle.std.proofs.Common.{◌<◌, List, get_or, length, map, sym, ap, subst, ◌∙◌}
use Rattle.std.proofs.lemmas.Option.{slice_get-get_or}
use Rattle.policy_lawful.proofs.UniqueNames.{names_of_subjects}
use Rattle.policy_lawful.proofs.WindowsByIndex.{name_there}
use Rattle.policy_lawful.specs.Resolution.{name_at}
use Rattle.policy_lawful.specs.declared.resolved.Subject.{Subject}
use Rattle.image_verify.proofs.verdict.subject_name.Goals as goal

pub returns : goal.returns
returns c =
    let r = c.args.policy.now in
    let k = c.args.index in
    let d = c.index-subjects-index.result in
    let subjects = c.subjects.result.now in
    let low = subst (λ (ss : List Subject). k < length ss) (sym c.subjects.ensures.value) c.requires in
    sym (name_there (λ (s : Subject). s.name) subjects k (get_or subjects k d) (slice_get-get_or subjects k d low))
    ∙ ap (λ (ss : List Subject). name_at (map (λ (s : Subject). s.name) ss) k) c.subjects.ensures.value
    ∙ sym (ap (λ ns. name_at ns k) (names_of_subjects r))
