use Rattle.std.proofs.Common.{ap, ◌∙◌}
use Rattle.policy_lawful.specs.Resolution.{source_of}
use Rattle.muen_build.specs.Looks.{names_file}
use Rattle.muen_build.proofs.OfThings.{any_names}
use Rattle.muen_build.proofs.named.names_file.Goals as goal

pub returns : goal.returns
returns c =
    c.any_names.ensures
    ∙ any_names c.resolved-policy.result.now c.things.result.now c.things.ensures.declared c.args.file.now
    ∙ ap (λ r. names_file (source_of r) c.args.file.now) c.resolved-policy.ensures.value
