use Rattle.std.proofs.Common.{subst, sym, ◌∙◌}
use Rattle.machine_layout.specs.Memory.{store_of}
use Rattle.machine_layout.specs.Same.{SameOutside}
use Rattle.machine_layout.proofs.StoreLaws.{stores_differ_in_their_bytes}
use Rattle.muen_num.specs.AccessSize.{bytes_of}
use Rattle.vmx_machine.proofs.bus.Bus.store.Goals as goal

pub invariant_of-self : goal.invariant_of-self
invariant_of-self g c =
    let m = g.M.PhysMem.pages c.self.inside.memory in
    let at = c.args.at in
    let after = store_of m at (bytes_of c.args.size) c.args.value in
    let outside = subst (λ n. SameOutside at n m after) (sym (c.from.ensures ∙ c.bytes.ensures)) (stores_differ_in_their_bytes m at (bytes_of c.args.size) c.args.value) in
    subst (λ pages. g.T.Translate.fits c.stored.new.self pages) (sym c.store.ensures.after) (c.stored.ensures m after c.self.invariant outside)
