use Rattle.std.proofs.Common.{Some, inr, sym, ap, ◌∙◌}
use Rattle.policy_lawful.specs.Offences.{broken}
use Rattle.policy_names.proofs.ComponentAtIndex.{entry_resolved, no_component}
use Rattle.policy_names.proofs.components.SourceMapEntryRefers.resolve.Goals as goal

pub returns-in-Some : goal.returns-in-Some
returns-in-Some c =
    entry_resolved c.args.scope.now.source.now c.args.by.subject c.args.self.now c.args.by.component c.in-Some.names.now c.in-Some.ensures.there c.resolve_entry.result c.resolve_entry.ensures

pub returns-in-None : goal.returns-in-None
returns-in-None c = inr (ap (broken 2) (no_component c.args.scope.now.source.now c.args.by.subject c.args.self.now c.args.by.component c.in-None.ensures.nowhere) ∙ ap Some (sym c.not_declared.ensures))
