-- The commands that calls are given, in the words of the definition.
use Rattle.asm_top.specs.Commands.{Command as Asked, hex, lines, bin, name_given, text}
use Rattle.asm_top.specs.declared.command.Command.{Command}
use Rattle.asm_top.specs.declared.command.Command.TheVariants.{Hex, Lines, Bin, Text}

abbrev pub asked : Command → Asked
asked (Hex names source) = hex (name_given names) source.now
asked (Lines names source base) = lines (name_given names) source.now base
asked (Bin names source file) = bin (name_given names) source.now file.now
asked (Text file) = text file.now
