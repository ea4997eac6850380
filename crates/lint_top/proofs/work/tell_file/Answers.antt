use Rattle.lint_top.proofs.Ending.{read_then}
use Rattle.lint_top.proofs.work.tell_file.Goals as goal

pub returns-in-Ok-clause-came : goal.returns-in-Ok-clause-came
returns-in-Ok-clause-came g c =
    read_then c.args.policy.now _ _ _ _ _ _ c.read_file.ensures.held _ c.in-Ok.document c.in-Ok.ensures.ok c.tell.result (rw c.items.ensures at c.tell.ensures.told)
