use Rattle.std.proofs.Common.{ap, rules}
use Rattle.map_report.specs.ByNumber.{granted_lines, windows_at}
use Rattle.map_report.proofs.Numbered.{all_given, one_lost, one_more}
use Rattle.map_report.proofs.report.put_all_windows.Goals as goal

pub returns-in_err-put_windows : goal.returns-in_err-put_windows
returns-in_err-put_windows g c = (
  search rules,
  one_lost (λ x. granted_lines c.args.policy.now x.1.name (windows_at c.args.grants.now x.0)) c.args.subjects.now c.loop-index.index c.index-subjects-index.result c.loop-index-test.true c.index-subjects-index.is
      _ _ _ _ _ c.from_residual.ensures.0 c.loop-index.invariant.1 c.in_err-put_windows.ensures.1 (ap (granted_lines c.args.policy.now c.index-subjects-index.result.name) c.windows_at.ensures),
)

pub loop-index-preserved : goal.loop-index-preserved
loop-index-preserved g c = (
  search rules,
  one_more (λ x. granted_lines c.args.policy.now x.1.name (windows_at c.args.grants.now x.0)) c.args.subjects.now c.loop-index.index c.index-subjects-index.result c.loop-index-test.true c.index-subjects-index.is
      _ _ _ _ c.loop-index.invariant.1 c.in_ok-put_windows.ensures.1 (ap (granted_lines c.args.policy.now c.index-subjects-index.result.name) c.windows_at.ensures),
)

pub returns : goal.returns
returns g c =
    (search rules, all_given _ c.args.subjects.now c.loop-index.index _ _ c.loop-index-test.false c.loop-index.invariant.1)
