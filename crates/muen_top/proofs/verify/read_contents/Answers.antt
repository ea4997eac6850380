use Rattle.std.proofs.Common.{◌∙◌, [], ◌∷◌, sym}
use Rattle.std.proofs.lemmas.Result.{IfErr-weaker, IfOk-weaker}
use Rattle.policy_lawful.specs.Resolution.{source_of}
use Rattle.muen_build.proofs.Unnamed.{has_unnamed, lacks_unnamed}
use Rattle.muen_top.proofs.verify.read_contents.Goals as goal

-- no content is of the image's file
pub returns-clause-ok : goal.returns-clause-ok
returns-clause-ok g c =
    IfOk-weaker c.read_without_image.result _ _
    (λ things h. has_unnamed ((c.args.policy.now, c.args.document.now) ∷ []) c.args.image.now c.args.bytes _ _ _ c.args.lawful.now things (sym c.names_file.ensures ∙ c.if-names_file.false) h)
    c.read_without_image.ensures.ok

pub returns-clause-err : goal.returns-clause-err
returns-clause-err g c =
    IfErr-weaker c.read_without_image.result _ _
    (λ error e. record {
      build_error = e.build_error;
      lacks = lacks_unnamed ((c.args.policy.now, c.args.document.now) ∷ []) c.args.image.now c.args.bytes _ _ _ (source_of c.args.lawful.now) e.build_error (sym c.names_file.ensures ∙ c.if-names_file.false) e.lacks;
      made = e.made;
    })
    c.read_without_image.ensures.err
