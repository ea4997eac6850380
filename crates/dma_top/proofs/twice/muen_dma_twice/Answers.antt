use Rattle.std.proofs.Common.{◌∙◌}
use Rattle.muen_top.proofs.OverHeld.{told_agrees}
use Rattle.dma_top.proofs.TwoCalls.{prints_alone}
use Rattle.dma_top.proofs.twice.muen_dma_twice.Goals as goal

pub returns : goal.returns
returns g c m image policy tables inputs t p r is first second done holds says there =
    let q = c.muen_dma-verified.ensures in
    let ran = c.muen_over_held-ran.ensures in
    prints_alone m image policy tables (q.accepts m image policy tables (told_agrees _ _ q.agrees m is) first done) t there inputs p r _ _ _ _ _ (q.held ∙ is) second holds says ran.runs_sound ran.alone
