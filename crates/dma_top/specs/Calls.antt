-- What a call of the program does.
use Rattle.std.specs.Prelude.{ℕ, List, Option, Some, None}
use Rattle.command_shell.specs.Calls.{Ends, IsCallOf}
use Rattle.muen_outside.specs.Store.{Store}
use Rattle.dma_top.specs.Answers.{flows_plan, lines_plan, windows_plan}
use Rattle.dma_top.specs.Commands.{Command, command_of, flows, lines, verify, windows}
use Rattle.dma_top.specs.Refusals.{devices}
use Rattle.dma_top.specs.Verdicts.{IsVerify}
use Rattle.dma_top.specs.declared.status.DmaStatus.{DmaStatus}

-- of a command: it looks at its files, and does what is answered to what they have
abbrev pub IsAsked : Option Command → Option Store → Ends DmaStatus → Type 0
IsAsked None held e = IsCallOf devices.name devices.usage None e
IsAsked (Some (verify image policy tables)) held e = IsVerify image policy tables held e
IsAsked (Some (lines image inputs tables)) held e = IsCallOf devices.name devices.usage (Some (lines_plan image inputs tables)) e
IsAsked (Some (windows policy)) held e = IsCallOf devices.name devices.usage (Some (windows_plan policy)) e
IsAsked (Some (flows policy)) held e = IsCallOf devices.name devices.usage (Some (flows_plan policy)) e

-- .. of the command that the words ask for, over files that hold this, where they tell it
abbrev pub IsCall : List (List ℕ) → Option Store → Ends DmaStatus → Type 0
IsCall words held e = IsAsked (command_of words) held e
