use Rattle.std.proofs.Common.{arith, refl, ◌∙◌}
use Rattle.policy_names.proofs.SubjectAtIndexes.{in_stages, stands}
use Rattle.policy_names.proofs.subjects.SourceSubjectRefers.resolve.Goals as goal

pub returns : goal.returns
returns c = (
  grind (arith, in_stages),
  stands c.args.scope.now.source.now c.args.self.now _ (refl, (refl, (refl, c.in_ok-copy_msrs.ensures ∙ c.items.ensures))) c.in_ok-component.ensures.1
      (rw (c.memory.view_is, c.channels.view_is, c.devices.view_is) c.in_ok-memory.ensures.1) c.in_ok-sources.ensures.1,
)
