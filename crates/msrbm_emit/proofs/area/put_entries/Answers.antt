use Rattle.std.proofs.Common.{◌∙◌, ◌+◌, ◌++◌, ap, length, arith}
use Rattle.machine_layout.specs.Exits.{area_bytes}
use Rattle.machine_layout.specs.PageFields.{padded}
use Rattle.msrbm_emit.proofs.AreaLaws.{range_step, range_ends}
use Rattle.msrbm_emit.proofs.area.put_entries.Goals as goal

pub loop-index-preserved : goal.loop-index-preserved
loop-index-preserved c = record {
  end = omega arith;
  within = omega arith;
  area = λ front long here. range_step (length c.args.area.now) (length c.loop-index.area) c.args.at c.args.grant.now.start c.loop-index.index c.loop-index.end _ _ front c.loop-index.auto.area c.loop-index.auto.index c.loop-index.invariant.end long (c.loop-index.invariant.area front long here) c.put_entry.ensures;
}

pub returns-clause-area : goal.returns-clause-area
returns-clause-area c =
    λ front long here. c.loop-index.invariant.area front long here ∙ ap (λ es. padded (length c.args.area.now) (front ++ area_bytes es)) (range_ends c.args.grant.now c.loop-index.index (omega arith) c.loop-index.invariant.within)

pub returns-2-clause-area : goal.returns-2-clause-area
returns-2-clause-area c =
    λ front long here. range_step (length c.args.area.now) (length c.loop-index.area) c.args.at c.args.grant.now.start c.loop-index.index c.loop-index.end _ _ front c.loop-index.auto.area c.loop-index.auto.index c.loop-index.invariant.end long (c.loop-index.invariant.area front long here) c.put_entry.ensures ∙ ap (λ es. padded (length c.args.area.now) (front ++ area_bytes es)) (range_ends c.args.grant.now (c.loop-index.index + 1) (omega arith) (omega arith))
