-- How the assembler tells that a source is refused.
use Rattle.std.specs.Prelude.{ℕ, ◌-◌, List, ◌++◌, Option, Some, None, codes, decimal, nat_le, if◌then◌else◌}
use Rattle.asm_text.specs.FaultTexts.{source_fault_text, want_text}
use Rattle.asm_text.specs.declared.fault.SourceFault.{SourceFault}
use Rattle.asm_text.specs.declared.fault.SourceFault.TheVariants.{At as AtPlace, NoMemory}
use Rattle.asm_text.specs.declared.fault.Want.{Want}
use Rattle.command_shell.specs.Errors.{Telling}
use Rattle.command_shell.specs.Forms.{usage_text}
use Rattle.command_shell.specs.declared.status.Status.{Status}
use Rattle.command_shell.specs.declared.status.Status.TheVariants.{Own}
use Rattle.muen_num.specs.Memory.{no_memory_text}
use Rattle.asm_top.specs.Commands.{forms}
use Rattle.asm_top.specs.declared.refusal.Refusal.{Refusal}
use Rattle.asm_top.specs.declared.refusal.Refusal.TheVariants.{Alone, In}
use Rattle.asm_top.specs.declared.status.AssemblerStatus.{AssemblerStatus}
use Rattle.asm_top.specs.declared.status.AssemblerStatus.TheVariants.{SourceRefused}

abbrev pub place_text : List ℕ → ℕ → ℕ → Want → List ℕ
place_text file line column want =
    codes "file " ++ (file ++ (codes ", line " ++ (decimal line ++ (codes ", column " ++ (decimal column ++ (codes ": " ++ want_text want))))))

-- the text of a fault. Where names of so many lines stand before the source, it tells the file whose line has it, and its number there
abbrev pub fault_text : Option (List ℕ) → List ℕ → ℕ → SourceFault → List ℕ
fault_text None source count fault = source_fault_text fault
fault_text (Some names) source count (AtPlace line column want) =
    if nat_le line count then place_text names line column want else place_text source (line - count) column want
fault_text (Some names) source count NoMemory = no_memory_text

abbrev pub refusal_text : Refusal → List ℕ
refusal_text (Alone line column want) = source_fault_text (AtPlace line column want)
refusal_text (In file line column want) = place_text file.now line column want

abbrev pub refusal_status : Refusal → Status AssemblerStatus
refusal_status refusal = Own SourceRefused

-- the program's name, its forms, and its own reasons
abbrev pub assembler : Telling Refusal AssemblerStatus
assembler = record { name = codes "muen_asm"; usage = usage_text forms; text = refusal_text; status = refusal_status }
