use Rattle.muen_top.proofs.OverHeld.{left_built, or_told, told_agrees}
use Rattle.muen_top.proofs.Systems.{alike, subjects_alone}
use Rattle.muen_top.proofs.over_held.muen_over_held.Goals as goal

pub returns : goal.returns
returns g c =
    let p = c.muen.ensures in
    record {
      boots = λ m policy inputs q r is. p.boots m policy inputs q r (told_agrees _ _ p.agrees m is);
      runs_sound = λ m image inputs dma tables q built_of r is. p.runs_sound m image inputs dma tables q built_of r (told_agrees _ _ p.agrees m is);
      runs_built = λ m image inputs dma q built_of r is. p.runs_built m image inputs dma q built_of r (told_agrees _ _ p.agrees m is);
      alone = subjects_alone _ _;
      alike = alike _ _;
      built = λ m policy image dma is asked zero. left_built m policy image dma _ _ _ is p.held (p.built m policy image dma (told_agrees _ _ p.agrees m is) asked zero);
      told = or_told _ _ _ _ p.agrees p.ends;
    }
