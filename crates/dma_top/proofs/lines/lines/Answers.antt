use Rattle.std.proofs.Common.{refl, Some}
use Rattle.command_shell.proofs.Ending.{printed, stopped}
use Rattle.dma_lines.specs.LinesText.{lines_text}
use Rattle.dma_top.specs.Answers.{lines_plan}
use Rattle.dma_top.specs.Refusals.{devices}
use Rattle.dma_top.proofs.lines.lines.Goals as goal

pub returns-in-Ok-clause-came : goal.returns-in-Ok-clause-came
returns-in-Ok-clause-came g c =
    printed devices (lines_plan c.args.image.now c.args.inputs.now c.args.tables.now) _ _ _ _ c.read_recorded.ensures.held _ _
    (lines_text (Some c.in-Ok.recorded.tables) c.in-Ok.recorded.image c.in-Ok.recorded.inputs) c.in-Ok.ensures.ok _ c.put_lines.ensures

pub returns-in-Err-clause-came : goal.returns-in-Err-clause-came
returns-in-Err-clause-came g c =
    stopped devices (lines_plan c.args.image.now c.args.inputs.now c.args.tables.now) _ _ _ _ c.read_recorded.ensures.held _ _ refl c.in-Err.error c.in-Err.ensures.err
