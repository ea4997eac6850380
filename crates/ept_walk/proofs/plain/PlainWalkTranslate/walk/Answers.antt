use Rattle.std.proofs.Common.{◌∙◌, sym, ap}
use Rattle.machine_layout.specs.Memory.{is_there}
use Rattle.machine_layout.specs.Walks.{entry_of, root_of, walk_from}
use Rattle.ept_walk.proofs.plain.PlainWalkTranslate.walk.Goals as goal

pub returns-clause-walk : goal.returns-clause-walk
returns-clause-walk g c =
    let m = g.M.PhysMem.pages c.args.mem.now in
    c.judge.ensures c.args.addr
    ∙ (sym (c.trace-end.ensures.end c.bit.result)
    ∙ ap (λ want. walk_from (entry_of m) (is_there m) c.args.addr want 3 (root_of c.args.eptp) 7) c.bit.ensures)
