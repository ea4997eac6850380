use Rattle.std.proofs.Common.{ap, arith, option_map, rules}
use Rattle.dma_lines.specs.LinesText.{input_text}
use Rattle.muen_outside.proofs.Buffered.{given_item, item_exit}
use Rattle.dma_lines.proofs.report.put_inputs.Goals as goal

pub returns-in_err-put_input : goal.returns-in_err-put_input
returns-in_err-put_input g c = (
  search rules,
  item_exit (λ e. input_text (option_map (λ t. t.now) c.args.tables) c.args.image.now e.tick e.input) c.args.entries.now c.loop-entry.entry-index c.entry-item.result _ _ _ _ _ c.from_residual.ensures.0 c.loop-entry.invariant.1 c.in_err-put_input.ensures.1 (omega arith)
      (ap (λ e. input_text (option_map (λ t. t.now) c.args.tables) c.args.image.now e.tick e.input) c.entry-item.is),
)

pub loop-entry-preserved : goal.loop-entry-preserved
loop-entry-preserved g c = (
  search rules,
  given_item (λ e. input_text (option_map (λ t. t.now) c.args.tables) c.args.image.now e.tick e.input) c.args.entries.now c.loop-entry.entry-index c.entry-item.result _ _ _ _ c.loop-entry.invariant.1 c.in_ok-put_input.ensures.1 (omega arith)
      (ap (λ e. input_text (option_map (λ t. t.now) c.args.tables) c.args.image.now e.tick e.input) c.entry-item.is),
)
