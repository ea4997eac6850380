-- The text of the fault of a file of tables, as it is printed.
use Rattle.std.specs.Prelude.{ℕ, List, ◌++◌, codes, decimal, Option, Some, None}
use Rattle.binary_form.specs.FaultText.{field_text}
use Rattle.binary_form.specs.declared.fault.ImageFault.{ImageFault}
use Rattle.binary_form.specs.declared.fault.ImageFault.TheVariants.{Short, Bad, Trailing, NoMemory}

unfoldable pub dma_refused_at : List ℕ
dma_refused_at = codes "dma refused at "

abbrev pub refused_at : ℕ → List ℕ → List ℕ
refused_at at why = dma_refused_at ++ (decimal at ++ (codes ": " ++ why))

-- what is wrong at an offset, or at none
abbrev pub place_text : Option ℕ → List ℕ → List ℕ
place_text (Some at) why = refused_at at why
place_text None why = why

abbrev pub dma_fault_text : ImageFault → List ℕ
dma_fault_text (Short at) = refused_at at (codes "short")
dma_fault_text (Bad at field) = refused_at at (field_text field)
dma_fault_text (Trailing at) = refused_at at (codes "trailing")
dma_fault_text NoMemory = codes "out of memory"
