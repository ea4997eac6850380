-- What a command answers to the bytes of its files.
use Rattle.std.specs.Prelude.{ℕ, ◌==◌, List, [], ◌++◌, length, filter, Option, Some, None, Result, Ok, Err, codes}
use Rattle.hex.specs.Hex.{encode_lower}
use Rattle.asm_listing.specs.Listing.{listing_of}
use Rattle.asm_listing.specs.Source.{source_of}
use Rattle.asm_text.specs.Meaning.{assembled}
use Rattle.asm_text.specs.declared.fault.SourceFault.{SourceFault}
use Rattle.command_shell.specs.Answers.{Answer, Plan, prints, writes, refuses, answers, looks_at}
use Rattle.command_shell.specs.declared.status.Status.TheVariants.{Own}
use Rattle.muen_num.specs.declared.limits.TheConstants.{COMPONENT_FILE_MOST}
use Rattle.asm_top.specs.Commands.{Command, hex, lines, bin, text}
use Rattle.asm_top.specs.Refusals.{fault_text}
use Rattle.asm_top.specs.declared.limits.TheConstants.{SOURCE_MOST}
use Rattle.asm_top.specs.declared.status.AssemblerStatus.{AssemblerStatus}
use Rattle.asm_top.specs.declared.status.AssemblerStatus.TheVariants.{SourceRefused}

abbrev pub hex_text : List ℕ → List ℕ
hex_text bytes = encode_lower bytes ++ codes "\n"

-- names as they stand before a source: their last line ends
abbrev pub ended : List ℕ → List ℕ
ended names = names ++ codes "\n"

-- how many lines end in a text
abbrev pub line_feeds : List ℕ → ℕ
line_feeds items = length (filter (λ c. c == 10) items)

-- what follows from the bytes that a source says; or it is refused, with the text of its fault
abbrev pub of_source : (SourceFault → List ℕ) → (List ℕ → Answer AssemblerStatus) → Result (List ℕ) SourceFault → Answer AssemblerStatus
of_source tell next (Ok bytes) = next bytes
of_source tell next (Err fault) = refuses (Own SourceRefused) (tell fault)

-- .. of a text, before which this front stands
abbrev pub of_text : Option (List ℕ) → List ℕ → (List ℕ → Answer AssemblerStatus) → List ℕ → List ℕ → Answer AssemblerStatus
of_text names source next front items = of_source (fault_text names source (line_feeds front)) next (assembled (front ++ items))

-- a source is read, after names if there is a file of them, and this follows from the bytes that it says behind them
abbrev pub source_plan : Option (List ℕ) → List ℕ → (List ℕ → Answer AssemblerStatus) → Plan AssemblerStatus
source_plan None source next = looks_at source SOURCE_MOST (λ items. answers (of_text None source next [] items))
source_plan (Some names) source next =
    looks_at names SOURCE_MOST (λ first. looks_at source SOURCE_MOST (λ items. answers (of_text (Some names) source next (ended first) items)))

-- the files that a command looks at, and its answer to what they have
abbrev pub plan_of : Command → Plan AssemblerStatus
plan_of (hex names source) = source_plan names source (λ bytes. prints (hex_text bytes))
plan_of (lines names source base) = source_plan names source (λ bytes. prints (listing_of base bytes))
plan_of (bin names source file) = source_plan names source (λ bytes. writes file bytes)
plan_of (text file) = looks_at file COMPONENT_FILE_MOST (λ bytes. answers (prints (source_of bytes)))
