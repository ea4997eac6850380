use Rattle.std.proofs.Common.{refl}
use Rattle.command_shell.proofs.Ending.{printed, stopped}
use Rattle.dma_map.specs.DmaMapText.{dma_map_text_of}
use Rattle.policy_lawful.specs.Resolution.{source_of}
use Rattle.dma_top.specs.Answers.{windows_plan}
use Rattle.dma_top.specs.Refusals.{devices}
use Rattle.dma_top.proofs.policies.map.Goals as goal

pub returns-in-Ok-clause-came : goal.returns-in-Ok-clause-came
returns-in-Ok-clause-came g c =
    let is = c.in-Ok.ensures.ok in
    printed devices (windows_plan c.args.policy.now) _ _ _ _ c.read_placed.ensures.held _ _ (dma_map_text_of (source_of c.in-Ok.placed.expanded.lawful) is.addresses) is.printed _ (c.put_map.ensures is.addresses is.placement)

pub returns-in-Err-clause-came : goal.returns-in-Err-clause-came
returns-in-Err-clause-came g c = stopped devices (windows_plan c.args.policy.now) _ _ _ _ c.read_placed.ensures.held _ _ refl c.in-Err.error c.in-Err.ensures.err
