use Rattle.std.proofs.Common.{refl}
use Rattle.command_shell.specs.Answers.{answers, prints}
use Rattle.command_shell.proofs.Ending.{printed, stopped}
use Rattle.device_flows.specs.DeviceFlows.{device_flow_text_of}
use Rattle.policy_lawful.specs.Resolution.{source_of}
use Rattle.dma_top.specs.Answers.{flows_plan}
use Rattle.dma_top.specs.Refusals.{devices}
use Rattle.dma_top.proofs.policies.flows.Goals as goal

pub returns-in-Ok-clause-came : goal.returns-in-Ok-clause-came
returns-in-Ok-clause-came g c =
    printed devices (flows_plan c.args.policy.now) _ _ _ _ c.read_policy.ensures.held _ _ (device_flow_text_of (source_of c.in-Ok.policy)) (c.in-Ok.ensures.ok (λ p. answers (prints (device_flow_text_of p)))) _ c.put_flows.ensures

pub returns-in-Err-clause-came : goal.returns-in-Err-clause-came
returns-in-Err-clause-came g c =
    stopped devices (flows_plan c.args.policy.now) _ _ _ _ c.read_policy.ensures.held _ _ refl c.in-Err.error (c.in-Err.ensures.err (λ p. answers (prints (device_flow_text_of p))))
