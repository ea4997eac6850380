use Rattle.std.proofs.Common.{subst}
use Rattle.std.proofs.lemmas.Result.{IfOk-weaker}
use Rattle.policy_lawful.specs.Lawful.{IsLawful}
use Rattle.policy_lawful.specs.Resolution.{source_of}
use Rattle.muen_top.proofs.verify.verdict.Goals as goal

pub returns : goal.returns
returns c =
    let lawful : IsLawful (source_of c.args.expanded.lawful) = subst (λ x. IsLawful (source_of x.lawful)) c.expanded.view_is c.expanded.invariant.0.lawful in
    IfOk-weaker c.verify.result _ _ (λ o h files bytes held are image. record { image = image; lawful = lawful; held = held; verdict = h files are }) c.verify.ensures.verdict
