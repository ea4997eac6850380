use Rattle.std.proofs.Common.{subst, sym}
use Rattle.machine_layout.proofs.PageLaws.{changes_differ_in_their_page}
use Rattle.state_page.specs.StatePage.{page_bytes}
use Rattle.vmx_machine.proofs.bus.Bus.put_state.Goals as goal

pub invariant_of-self : goal.invariant_of-self
invariant_of-self g c =
    let m = g.M.PhysMem.pages c.self.inside.memory in
    subst (λ pages. g.T.Translate.fits c.stored.new.self pages) (sym c.write_state.ensures) (c.stored.ensures m _ c.self.invariant (changes_differ_in_their_page m _ (λ _. page_bytes c.args.state.now)))
