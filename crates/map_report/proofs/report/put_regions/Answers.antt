use Rattle.std.proofs.Common.{refl, rules}
use Rattle.std.specs.Prelude.{codes, slice_index}
use Rattle.map_report.specs.MapText.{region_line}
use Rattle.map_report.proofs.Numbered.{all_given, one_lost, one_more}
use Rattle.map_report.proofs.report.put_regions.Goals as goal

pub returns-in_err-put_line : goal.returns-in_err-put_line
returns-in_err-put_line g c = (
  search rules,
  one_lost (λ x. region_line (codes "region") (slice_index c.args.addresses.now x.0) x.1.size x.1.tag) c.args.regions.now c.loop-number.number c.index-regions-number.result c.loop-number-test.true c.index-regions-number.is
      _ _ _ _ _ c.from_residual.ensures.0 c.loop-number.invariant.1 c.in_err-put_line.ensures.1 refl,
)

pub loop-number-preserved : goal.loop-number-preserved
loop-number-preserved g c = (
  search rules,
  one_more (λ x. region_line (codes "region") (slice_index c.args.addresses.now x.0) x.1.size x.1.tag) c.args.regions.now c.loop-number.number c.index-regions-number.result c.loop-number-test.true c.index-regions-number.is
      _ _ _ _ c.loop-number.invariant.1 c.in_ok-put_line.ensures.1 refl,
)

pub returns : goal.returns
returns g c =
    (search rules, all_given _ c.args.regions.now c.loop-number.number _ _ c.loop-number-test.false c.loop-number.invariant.1)
