use Rattle.std.proofs.Common.{length, sym, ap, ◌∙◌, refl, arith}
use Rattle.dma_emit.specs.declared.layout.TheConstants.{BUSES}
use Rattle.dma_emit.proofs.Layouts.{buses_are, few_buses}
use Rattle.dma_emit.proofs.layout.bus_count.Goals as goal

pub returns-clause-value : goal.returns-clause-value
returns-clause-value c = c.count_below.ensures ∙ ap length (sym (buses_are c.args.domains.now BUSES refl))

pub returns-clause-few : goal.returns-clause-few
returns-clause-few c =
    let is = c.count_below.ensures ∙ ap length (sym (buses_are c.args.domains.now BUSES refl)) in
    let few = few_buses c.args.domains.now in
    omega arith
