-- The commands that calls are given, in the words of the definition.
use Rattle.dma_top.specs.Commands.{Command as Asked, flows, lines, verify, windows}
use Rattle.dma_top.specs.declared.command.Command.{Command}
use Rattle.dma_top.specs.declared.command.Command.TheVariants.{Verify, Lines, Map, Flows}

abbrev pub asked : Command → Asked
asked (Verify image policy tables) = verify image.now policy.now tables.now
asked (Lines image inputs tables) = lines image.now inputs.now tables.now
asked (Map policy) = windows policy.now
asked (Flows policy) = flows policy.now
