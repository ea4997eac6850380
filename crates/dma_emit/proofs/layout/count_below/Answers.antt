use Rattle.std.proofs.Common.{length, rules, tests, ap, ◌∙◌, arith}
use Rattle.std.specs.Prelude.{filter}
use Rattle.std.proofs.lemmas.Iterator.{YieldsList-from_range}
use Rattle.std.proofs.lemmas.Iterator.Consumers.{YieldsList-from_filter, count_from_yields_List}
use Rattle.dma_emit.specs.Layout.{on_bus}
use Rattle.dma_emit.proofs.Lists.{range_is}
use Rattle.dma_emit.proofs.layout.count_below.Goals as goal

pub returns : goal.returns
returns c =
    count_from_yields_List c.filter.result c.count.result c.count.ensures.ran (YieldsList-from_filter _ (on_bus c.args.domains.now) (YieldsList-from_range 0 c.args.end c.args.end c.filter.ensures.source (omega arith)) c.filter.ensures.closure (λ x b q k. search (rules, tests)))
    ∙ ap (λ ks. length (filter (on_bus c.args.domains.now) ks)) (range_is c.args.end)
