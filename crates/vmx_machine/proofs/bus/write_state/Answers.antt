use Rattle.std.proofs.Common.{List, ℕ, ap, sym, ◌∙◌}
use Rattle.machine_layout.specs.Memory.{change}
use Rattle.machine_layout.proofs.PageLaws.{change_none}
use Rattle.vmx_machine.proofs.bus.write_state.Goals as goal

pub returns-in-Some : goal.returns-in-Some
returns-in-Some g c =
    let m = g.M.PhysMem.pages c.args.memory.now in
    let left = c.page_mut.follows.holds c.write.new.page in
    (rw c.in-Some.is at left) ∙ ap (λ (w : List ℕ). change m c.args.page (λ _. w)) c.write.ensures.page

pub returns-in-None : goal.returns-in-None
returns-in-None g c =
    let m = g.M.PhysMem.pages c.args.memory.now in
    c.page_mut.follows.holds-at-none ∙ sym (change_none m c.args.page _ (sym c.in-None.ensures.value))
