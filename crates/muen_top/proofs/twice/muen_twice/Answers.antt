use Rattle.std.specs.Prelude.{map, string_bytes}
use Rattle.muen_top.proofs.OverHeld.{all_left, told_agrees}
use Rattle.muen_top.proofs.TwoCalls.{built_prints_alone, verified_held, verified_prints_alone}
use Rattle.muen_top.proofs.twice.muen_twice.Goals as goal

pub returns-clause-built : goal.returns-clause-built
returns-clause-built g c m policy image inputs dma p r is first second done holds says other others fit =
    let q = c.muen-before.ensures in
    let w = q.built m policy image dma (told_agrees _ _ q.agrees m is) first done in
    let ran = c.muen_over_held-ran.ensures in
    built_prints_alone m policy image inputs dma p r _ w _ _ _ _ _ (all_left image dma w.p m m _ _ _ is q.held w.written) second holds says other others fit ran.runs_built ran.alone

pub returns-clause-verified : goal.returns-clause-verified
returns-clause-verified g c m policy image inputs dma tables p r is first second done holds says handed fit =
    let q = c.muen-before.ensures in
    let shows = told_agrees _ _ q.agrees m is in
    let ran = c.muen_over_held-ran.ensures in
    verified_prints_alone m policy image inputs dma tables p r (q.verifies m image policy shows first done) _ _ _ _ _
    (verified_held m image policy (map string_bytes c.args.first.now) _ _ _ (g.J.Sink.state c.args.first_out.now) (g.J.Sink.state c.muen-before.new.out) first (q.done done m shows) q.held is) second holds says handed fit ran.runs_sound ran.alone
