use Rattle.std.proofs.Common.{arith}
use Rattle.machine_layout.specs.declared.walk.Walk.TheVariants.{At, Violation}
use Rattle.vmx_machine.proofs.StoreWithin.{walk_within, bit_fits}
use Rattle.vmx_machine.proofs.bus.Bus.translate.Goals as goal

pub overflow_mul-result : goal.overflow_mul-result
overflow_mul-result g c =
    let r = walk_within (g.M.PhysMem.pages c.self.inside.memory) c.args.eptp c.args.addr c.args.kind c.args.size (Violation c.in-Violation.rights) c.requires.aligned c.in-Violation.ensures.walk in
    omega (arith, r)

pub overflow_add-result : goal.overflow_add-result
overflow_add-result g c =
    let r = walk_within (g.M.PhysMem.pages c.self.inside.memory) c.args.eptp c.args.addr c.args.kind c.args.size (Violation c.in-Violation.rights) c.requires.aligned c.in-Violation.ensures.walk in
    let b = bit_fits c.args.kind in
    omega (arith, r, b, c.from.ensures, c.bit.ensures)

pub in_page-requires : goal.in_page-requires
in_page-requires g c =
    walk_within (g.M.PhysMem.pages c.self.inside.memory) c.args.eptp c.args.addr c.args.kind c.args.size (At c.in-At.address) c.requires.aligned c.in-At.ensures.walk
