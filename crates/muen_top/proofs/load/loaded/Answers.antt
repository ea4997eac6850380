use Rattle.std.proofs.Common.{subst, sym}
use Rattle.muen_top.specs.Runs.{OnlyMemory}
use Rattle.muen_top.proofs.GeneratedRuns.{record_only_memory, runs_so}
use Rattle.muen_top.proofs.load.loaded.Goals as goal

pub returns-in-Ok-clause-text : goal.returns-in-Ok-clause-text
returns-in-Ok-clause-text c =
    runs_so c.args.number c.in_ok-parts.field-0 c.in_ok-parts.ensures c.in_ok-policy.field-0.input.items c.in_ok-policy.ensures.input c.in-Ok.input (rw c.deref-2.ensures.value at c.in-Ok.ensures.exact)

pub only_memory-requires : goal.only_memory-requires
only_memory-requires c =
    subst OnlyMemory (sym c.from.ensures)
    (record_only_memory c.args.number c.in_ok-parts.field-0 c.in_ok-parts.ensures c.in_ok-policy.field-0.input.items c.in_ok-policy.ensures.input c.in-Err.fault (rw c.deref-2.ensures.value at c.in-Err.ensures.exact))
