use Rattle.std.proofs.Common.{◌∙◌, sym, ap}
use Rattle.machine_layout.specs.Memory.{is_there}
use Rattle.ept_walk.specs.Ends.{judged}
use Rattle.ept_walk.proofs.plain.judge.Goals as goal

pub returns-in-Leads : goal.returns-in-Leads
returns-in-Leads g c = λ addr.
    c.leaf_end.ensures addr ∙ ap (judged (is_there (g.M.PhysMem.pages c.args.mem.now)) addr c.args.want) (sym c.in-Leads.is)
