-- What a call of the assembler does.
use Rattle.std.specs.Prelude.{ℕ, List, option_map}
use Rattle.command_shell.specs.Calls.{Ends, IsCallOf}
use Rattle.command_shell.specs.Complete.{IsComplete as IsCompleteOf}
use Rattle.asm_top.specs.Answers.{plan_of}
use Rattle.asm_top.specs.Commands.{command_of}
use Rattle.asm_top.specs.Refusals.{assembler}
use Rattle.asm_top.specs.declared.status.AssemblerStatus.{AssemblerStatus}

-- it looks at the files of the command that the words ask for, and does what that is answered to what they have
abbrev pub IsCall : List (List ℕ) → Ends AssemblerStatus → Type 0
IsCall words e = IsCallOf assembler.name assembler.usage (option_map plan_of (command_of words)) e

-- .. the whole of it, where nothing fails and memory suffices
abbrev pub IsComplete : List (List ℕ) → Ends AssemblerStatus → Type 0
IsComplete words e = IsCompleteOf assembler.name assembler.usage (option_map plan_of (command_of words)) e
