use Rattle.std.proofs.Common.{sym, refl, rules}
use Rattle.phys_mem.proofs.FrameLaws.{on_some}
use Rattle.phys_mem.proofs.frame_mem.FrameMemPhysMem.page_mut.Goals as goal

pub returns-in-Some : goal.returns-in-Some
returns-in-Some c =
    let at = c.in-Some.ensures in
    ((refl, (λ w. on_some _ (sym (at.changed (λ _. w)))), refl), record { value = search rules; lends = tt })
