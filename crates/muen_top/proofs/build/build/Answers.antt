use Rattle.std.proofs.Common.{◌∙◌, refl, sym}
use Rattle.muen_top.proofs.Images.{all_written}
use Rattle.muen_top.specs.Commands.{build}
use Rattle.muen_top.proofs.Ending.{ended}
use Rattle.muen_num.proofs.Options.{is_some-option_map}
use Rattle.muen_top.proofs.build.build.Goals as goal

pub returns-in-Ok : goal.returns-in-Ok
returns-in-Ok g c out =
    let there = is_some-option_map (λ v. v.items) c.in-Ok.built.tables ∙ c.in-Ok.ensures.there ∙ c.is_some.ensures ∙ sym (is_some-option_map (λ name. name.now) c.args.dma) in
    all_written _ c.args.image.now _ _ _ _ _ _ _ _ _ c.built_of.ensures.held c.in-Ok.ensures.ok out there c.write_all.result c.write_all.ensures

pub returns-in-Err : goal.returns-in-Err
returns-in-Err g c out = ended (build c.args.policy.now c.args.image.now _) _ _ _ _ c.built_of.ensures.held out out c.in-Err.error (c.in-Err.ensures.err c.args.image.now _) refl
