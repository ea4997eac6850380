use Rattle.policy_names.proofs.ComponentAtIndex.{resolved}
use Rattle.policy_names.proofs.components.SourceComponentUseRefers.resolve.Goals as goal

pub returns : goal.returns
returns c =
    let scope = c.args.scope.now in
    resolved scope.source.now c.args.by c.args.self.now c.in_ok-component.component scope.unique
    (rw scope.components_are at c.in_ok-component.ensures.1) c.resolve_entries.result (rw scope.components_are at c.in_ok-component.ensures.0) c.resolve_entries.ensures
