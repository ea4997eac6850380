use Rattle.std.proofs.Common.{length, arith, rules}
use Rattle.muen_run.specs.RunText.{numbered_span_text}
use Rattle.muen_run.proofs.Numbered.{number_exit}
use Rattle.muen_run.proofs.digests.put_spans.Goals as goal

pub returns-in_err-put_numbered : goal.returns-in_err-put_numbered
returns-in_err-put_numbered g c =
    (search rules, number_exit (numbered_span_text c.args.device c.args.spans.now (g.M.PhysMem.pages c.args.mem.now)) c.loop-n.n (length c.args.spans.now) _ _ _ _ c.from_residual.ensures.0 (omega arith) c.loop-n.invariant.1 c.in_err-put_numbered.ensures.1)
