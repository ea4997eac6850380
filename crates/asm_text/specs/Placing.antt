-- What the calls that lay a source out keep, in the words of the definition.
use Rattle.std.specs.Prelude.{Result, Ok, Err}
use Rattle.asm_text.specs.Layout.{LayoutState, Layout as Lines}
use Rattle.asm_text.specs.declared.fault.LineError.{LineError}
use Rattle.asm_text.specs.declared.fault.SourceFault.{SourceFault}
use Rattle.asm_text.specs.declared.layout.Layout.{Layout}
use Rattle.asm_text.specs.declared.layout.Standing.{Standing as Kept}
use Rattle.asm_text.specs.declared.statement.Placed.{Placed}

abbrev pub layout_standing_of : Kept → LayoutState
layout_standing_of n = record { here = n.here; names = n.names.entries }

-- what a call leaves where it succeeds
abbrev pub laid_out : Result (Unit {0}) LineError → Kept → Result LayoutState LineError
laid_out (Ok u) n = Ok (layout_standing_of n)
laid_out (Err e) n = Err e

abbrev pub shown_layout : Result Layout SourceFault → Result Lines SourceFault
shown_layout (Ok l) = Ok (record { lines = l.lines; names = l.names.entries })
shown_layout (Err fault) = Err fault

-- a line, and what it leaves
abbrev pub placed_told : Result Placed SourceFault → Kept → Result (Placed × LayoutState) SourceFault
placed_told (Ok line) n = Ok (line, layout_standing_of n)
placed_told (Err fault) n = Err fault
