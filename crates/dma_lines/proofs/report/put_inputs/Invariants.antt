use Rattle.std.proofs.Common.{option_map, take}
use Rattle.std.specs.List.{flat_map}
use Rattle.muen_outside.specs.Prints.{Printed}
use Rattle.dma_lines.specs.LinesText.{input_text}
use Rattle.dma_lines.proofs.report.put_inputs.Given as goal

abbrev pub invariant-loop-entry : goal.invariant-loop-entry
invariant-loop-entry g l =
    Printed g.S.Sink.state (flat_map (λ e. input_text (option_map (λ t. t.now) l.tables) l.image e.tick e.input) (take l.entry-index l.entries)) l.initial.out l.out
