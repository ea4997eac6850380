use Rattle.std.proofs.Common.{◌≡◌, ◌∙◌, None, subst}
use Rattle.image_checks.specs.Contents.{IsContentsFault}
use Rattle.image_pack.specs.Parts.{IsParts}
use Rattle.image_verify.proofs.VerdictLaws.{are_kept}
use Rattle.image_verify.specs.Verdict.{FirstOf, in_order}
use Rattle.policy_lawful.specs.Resolution.{source_of}
use Rattle.image_verify.proofs.verdict.verify.Goals as goal

pub tables_fault-requires : goal.tables_fault-requires
tables_fault-requires c =
    let r = c.args.expanded.now.lawful in
    let i = c.args.image in
    record {
      files = c.requires.files;
      parts = subst IsParts c.image.view_is c.image.invariant;
      contents = subst (IsContentsFault (source_of r) c.requires.files i) c.in_default.is (c.in_ok-owner.ensures c.requires.files (c.items.ensures ∙ c.requires.are));
      many = (are_kept (source_of r) i (λ o. o ≡ None) (subst (FirstOf (source_of r) i (λ o. o ≡ None) in_order) c.in_default-2.is c.in_ok-fault.ensures)).0.plan.many;
    }
